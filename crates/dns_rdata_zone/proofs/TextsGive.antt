-- RDATA gives its text, and the text gives it.
use Rattle.std.proofs.lemmas.List.{append-nil}
use Rattle.std.proofs.Common.{◌≡◌, ℕ, cond, true, List, [], ◌∷◌, ◌++◌, map, codes, Option, Some, None, inl, inr, refl, sym, ◌∙◌, ap, subst, append_assoc, arith}
use Rattle.std.specs.{Int.cast_unsigned, Int.w32, Char.is_ascii_alphanumeric, Prelude.flat_map, Prelude.decimal, List.AllByRecursion, List.list_all}
use Rattle.base64.specs.{Engines.standard, GeneralPurpose.encode_of}
use Rattle.hex.specs.Hex.{encode_lower}
use Rattle.dns_fields.specs.{Octets.AreOctets, Bitmaps.block, Bitmaps.minimal, Tlvs.is_some, Tlvs.string, Tlvs.tlvs, Tlvs.Rising, Labels.DomainName}
use Rattle.dns_fields.specs.{Labels.AreLabels, Labels.full_name, Fields.field_octets, Fields.canonical, Fields.option_tlvs, Fields.parameter_tlvs}
use Rattle.dns_types.specs.{RecordTypes.record_type_of, declared.record_type.RecordType.RecordType}
use Rattle.dns_types.specs.declared.record_type.RecordType.TheVariants as types
use Rattle.dns_rdata.specs.{Data.type_of, declared.record_data.RData.RData, WholeOctets.name_octets}
use Rattle.dns_rdata.specs.declared.record_data.RData.TheVariants as rdata
use Rattle.dns_rdata_base.specs.{declared.naptr.NAPTR.NAPTR, declared.soa.SOA.SOA}
use Rattle.dns_rdata_certs.specs.Enums.{cert_algorithm_number, cert_type_number, cert_usage_number, matching_number, selector_number, sshfp_algorithm_number}
use Rattle.dns_rdata_certs.specs.{declared.cert.CERT.CERT, declared.tlsa.TLSA.TLSA, declared.sshfp.SSHFP.SSHFP, Enums.fingerprint_type_number}
use Rattle.dns_rdata_certs.specs.TLSA.{tlsa_shape, tlsa_fields}
use Rattle.dns_rdata_options.specs.OPT.{pair_value}
use Rattle.dns_rdata_service.specs.{Parameters.Parameter, Parameters.parameter_of, declared.svcb.SVCB.SVCB}
use Rattle.dns_rdata_policy.specs.{CAA.caa_flags, CSYNC.csync_flags, declared.caa.CAA.CAA, declared.csync.CSYNC.CSYNC}
use Rattle.dns_zone_rows.specs.{Mnemonics.algorithms, Mnemonics.cert_types, RowTable.zone_row_of}
use Rattle.dns_zone_rows.specs.Rows.{FieldKind, Number, RestKind, Name, NoToken, SomeHex, SomeBase64, SomeStrings, AnyTypes, AnyParameters}
use Rattle.dns_rdata_zone.specs.{Strings.quoted, Generic.generic, Names.zone_name, Tokens.in_tokens, ZoneTexts.zone_text, ZoneTexts.zone_octets}
use Rattle.dns_rdata_zone.specs.{Parameters.has_text, Parameters.zone_parameter, Services.service_octets, Services.zone_service, ZoneReads.TextsGive}
use Rattle.dns_rdata_zone.specs.{ZoneReads.TextsPrint, ZoneReads.TextsTell, Records.zone_strings, Records.zone_tlsa, Records.zone_type, Records.has_plain_tag}
use Rattle.dns_rdata_zone.specs.Readable.{IsString, IsWritable, IsWritableParameter, IsWritableService, IsWritableTlsa, FieldsFit}
use Rattle.dns_rdata_zone.proofs.RowForms.{FieldText, RowText, row_then, row_last, row_text, short_text, named_text, ttl_text, name_text, string_text}
use Rattle.dns_rdata_zone.proofs.{Dividing.NoneEmpty, OptionDigits.options_tlvs, Letters.first_true, Letters.second_true}
use Rattle.dns_rdata_zone.proofs.ParametersGive.{some_there, parameters_text, parameters_are}
use Rattle.dns_rdata_zone.proofs.RowForms.{octets_text, tag_text, ipv4_text_of, ipv6_text_of, alphanumeric_run}
use Rattle.dns_rdata_zone.proofs.OwnTexts.{OwnText, TextIs, text_gives, text_printable, text_same, one_of}
use Rattle.dns_rdata_zone.proofs.RestForms.{RestText, ListText, row_rest, row_list, hex_text, base64_text, strings_text, types_text}

-- ---- parts with a blank between two, however they were grouped

two : (a b : List ℕ) → a ++ codes " " ++ b ≡ a ++ 32 ∷ b
two a b = append_assoc a (32 ∷ []) b

three : (a b c : List ℕ) → a ++ codes " " ++ b ++ codes " " ++ c ≡ a ++ 32 ∷ (b ++ 32 ∷ c)
three a b c = simp append_assoc

four : (a b c d : List ℕ) → a ++ codes " " ++ b ++ codes " " ++ c ++ codes " " ++ d ≡ a ++ 32 ∷ (b ++ 32 ∷ (c ++ 32 ∷ d))
four a b c d = simp append_assoc

six : (a b c d e f : List ℕ) → (a ++ codes " " ++ b) ++ (codes " " ++ c ++ codes " " ++ d ++ codes " " ++ e ++ codes " " ++ f)
    ≡ a ++ 32 ∷ (b ++ 32 ∷ (c ++ 32 ∷ (d ++ 32 ∷ (e ++ 32 ∷ f))))
six a b c d e f = simp append_assoc

seven : (a b c d e f g : List ℕ) → (a ++ codes " " ++ b ++ codes " " ++ c) ++ (codes " " ++ d ++ codes " " ++ e ++ codes " " ++ f ++ codes " " ++ g)
    ≡ a ++ 32 ∷ (b ++ 32 ∷ (c ++ 32 ∷ (d ++ 32 ∷ (e ++ 32 ∷ (f ++ 32 ∷ g)))))
seven a b c d e f g = simp append_assoc

-- ---- fields

-- a field that nothing follows
last : {origin : Option DomainName} {field : FieldKind} {a x : List ℕ} → FieldText origin field a x → RowText origin (field ∷ []) NoToken a (x ++ [])
last h = row_last [] h (refl, refl)

-- the rest, which nothing follows
all : {origin : Option DomainName} {rest : RestKind} {a x : List ℕ} → RestText rest a x → RowText origin [] rest a (x ++ [])
all {origin = origin} {rest = rest} {a = a} {x = x} h = subst (λ (o : List ℕ). RowText origin [] rest a o) (sym (append-nil x)) (row_rest h)

none_empty : (labels : List (List ℕ)) → AreLabels labels → NoneEmpty labels
none_empty [] h = tt
none_empty ([] ∷ labels) h = absurd (omega (arith, h.0.0))
none_empty ((c ∷ l) ∷ labels) h = (λ e. cc, none_empty labels h.1)

named : (origin : Option DomainName) (x : DomainName) → IsWritable x → FieldText origin Name (zone_name x) (name_octets x)
named origin x h =
    name_text origin (full_name x) h.octets (none_empty x.labels h.is_name.labels) refl (record { labels = h.is_name.labels; fits = h.is_name.fits })

own : (origin : Option DomainName) (t : RecordType) (fields : List FieldKind) (rest : RestKind) (text octets : List ℕ)
    → zone_row_of t ≡ Some (record { fields = fields; rest = rest }) → RowText origin fields rest text octets → OwnText origin t text octets
own origin t fields rest text octets e h = record { zone_row = record { fields = fields; rest = rest }; of = e; reads = h }

-- a list after two fields, which nothing follows
listed : {X : Type 0} {origin : Option DomainName} {k l : FieldKind} {rest : RestKind} {a b x y : List ℕ} (f : X → List ℕ) (xs : List X) (z : List ℕ)
    → FieldText origin k a x → FieldText origin l b y → ListText rest f xs z
    → RowText origin (k ∷ l ∷ []) rest ((a ++ codes " " ++ b) ++ flat_map (λ w. codes " " ++ f w) xs) (x ++ (y ++ (z ++ [])))
listed {origin = origin} {k = k} {l = l} {rest = rest} {a = a} {b = b} {x = x} {y = y} f xs z h g e =
    subst (λ (o : List ℕ). RowText origin (k ∷ l ∷ []) rest ((a ++ codes " " ++ b) ++ flat_map (λ w. codes " " ++ f w) xs) (x ++ (y ++ o))) (sym (append-nil z))
    (row_list f xs z h g e)

-- ---- records of numbers, strings and names

strings_law : (origin : Option DomainName) (ss : List (List ℕ)) → AllByRecursion IsString ss
    → TextIs origin types.TXT (zone_strings ss) (flat_map string ss ++ [])
strings_law origin [] h = inl refl
strings_law origin (s ∷ ss) h =
    inr (own origin types.TXT [] SomeStrings _ _ refl (all (strings_text s ss h)))

soa_law : (origin : Option DomainName) (x : SOA) → FieldsFit (rdata.SOA x) → OwnText origin types.SOA (zone_text (rdata.SOA x)) (zone_octets (rdata.SOA x))
unfolding field_octets
soa_law origin x h =
    let n = h.2 in
    let serial = n.serial in
    let refresh = n.refresh in
    let retry = n.retry in
    let expire = n.expire in
    let minimum = n.minimum in
    own origin types.SOA _ NoToken _ _ refl (row_text (seven (zone_name x.mname) (zone_name x.rname) (decimal x.serial) (decimal (cast_unsigned w32 x.refresh))
    (decimal (cast_unsigned w32 x.retry)) (decimal (cast_unsigned w32 x.expire)) (decimal x.minimum))
    (row_then (named origin x.mname h.0) (row_then (named origin x.rname h.1)
    (row_then (short_text origin 4 x.serial (omega arith) serial) (row_then (ttl_text origin (cast_unsigned w32 x.refresh) (omega (arith, refresh)))
    (row_then (ttl_text origin (cast_unsigned w32 x.retry) (omega (arith, retry))) (row_then (ttl_text origin (cast_unsigned w32 x.expire) (omega (arith, expire)))
    (last (ttl_text origin x.minimum (omega (arith, minimum)))))))))))

naptr_law : (origin : Option DomainName) (x : NAPTR) → FieldsFit (rdata.NAPTR x)
    → OwnText origin types.NAPTR (zone_text (rdata.NAPTR x)) (zone_octets (rdata.NAPTR x))
unfolding field_octets
naptr_law origin x k =
    own origin types.NAPTR _ NoToken _ _ refl
    (row_text (six (decimal x.order) (decimal x.preference) (quoted x.flags) (quoted x.services) (quoted x.regexp) (zone_name x.replacement))
    (row_then (short_text origin 2 x.order (omega arith) k.0) (row_then (short_text origin 2 x.preference (omega arith) k.1)
    (row_then (string_text origin x.flags k.2) (row_then (string_text origin x.services k.3) (row_then (string_text origin x.regexp k.4)
    (last (named origin x.replacement k.5))))))))

caa_law : (origin : Option DomainName) (x : CAA) → FieldsFit (rdata.CAA x) → TextIs origin types.CAA (zone_text (rdata.CAA x)) (zone_octets (rdata.CAA x))
unfolding field_octets
caa_law origin x h =
    one_of (has_plain_tag x)
    (λ is. own origin types.CAA _ NoToken _ _ refl (row_text (three (decimal (caa_flags x)) x.tag (quoted x.value))
    (row_then (short_text origin 1 (caa_flags x) (omega arith) h.0)
    (row_then (tag_text origin x.tag (some_there x.tag (first_true (is_some x.tag) (list_all is_ascii_alphanumeric x.tag) is))
    (alphanumeric_run x.tag (second_true (is_some x.tag) (list_all is_ascii_alphanumeric x.tag) is)) (omega (arith, h.1)))
    (last (octets_text origin x.value h.2))))))
    refl

csync_law : (origin : Option DomainName) (x : CSYNC) → FieldsFit (rdata.CSYNC x)
    → OwnText origin types.CSYNC (zone_text (rdata.CSYNC x)) (zone_octets (rdata.CSYNC x))
unfolding field_octets
csync_law origin x h =
    own origin types.CSYNC _ AnyTypes _ _ refl (listed (λ n. zone_type (record_type_of n)) x.type_bit_maps (flat_map block (minimal x.type_bit_maps))
    (short_text origin 4 x.soa_serial (omega arith) h.0) (short_text origin 2 (csync_flags x) (omega arith) h.1) (types_text x.type_bit_maps h.2))

-- ---- keys, certificates and hashes

cert_law : (origin : Option DomainName) (x : CERT) → FieldsFit (rdata.CERT x) → TextIs origin types.CERT (zone_text (rdata.CERT x)) (zone_octets (rdata.CERT x))
unfolding field_octets
cert_law origin x k =
    let a = cert_type_number x.cert_type in
    let c = cert_algorithm_number x.algorithm in
    one_of (is_some x.cert_data)
    (λ some. own origin types.CERT _ SomeBase64 _ _ refl (row_text (four (decimal a) (decimal x.key_tag) (decimal c) (in_tokens (encode_of standard x.cert_data)))
    (row_then (named_text origin 2 cert_types a (omega arith) k.0 refl)
    (row_then (short_text origin 2 x.key_tag (omega arith) k.1)
    (row_then (named_text origin 1 algorithms c (omega arith) k.2 refl)
    (all (base64_text x.cert_data (some_there x.cert_data some) k.3)))))))
    refl

sshfp_law : (origin : Option DomainName) (x : SSHFP) → FieldsFit (rdata.SSHFP x)
    → TextIs origin types.SSHFP (zone_text (rdata.SSHFP x)) (zone_octets (rdata.SSHFP x))
unfolding field_octets
sshfp_law origin x k =
    let a = sshfp_algorithm_number x.algorithm in
    let b = fingerprint_type_number x.fingerprint_type in
    one_of (is_some x.fingerprint)
    (λ some. own origin types.SSHFP _ SomeHex _ _ refl (row_text (three (decimal a) (decimal b) (in_tokens (encode_lower x.fingerprint)))
    (row_then (short_text origin 1 a (omega arith) k.0) (row_then (short_text origin 1 b (omega arith) k.1) (all (hex_text x.fingerprint (some_there x.fingerprint some) k.2))))))
    refl

-- of each type that is read as TLSA is
tlsa_law : (origin : Option DomainName) (t : RecordType) → zone_row_of t ≡ zone_row_of types.TLSA → (x : TLSA) → IsWritableTlsa x
    → TextIs origin t (zone_tlsa x) (canonical tlsa_shape (tlsa_fields x))
unfolding field_octets
tlsa_law origin t e x k =
    let a = cert_usage_number x.cert_usage in
    let b = selector_number x.selector in
    let c = matching_number x.matching in
    one_of (is_some x.cert_data)
    (λ some. own origin t (Number 1 ∷ Number 1 ∷ Number 1 ∷ []) SomeHex _ _ e
    (row_text (four (decimal a) (decimal b) (decimal c) (in_tokens (encode_lower x.cert_data)))
    (row_then (short_text origin 1 a (omega arith) k.0) (row_then (short_text origin 1 b (omega arith) k.1)
    (row_then (short_text origin 1 c (omega arith) k.2) (all (hex_text x.cert_data (some_there x.cert_data some) k.3)))))))
    refl

key_law : (origin : Option DomainName) (s : List ℕ) → AreOctets s
    → TextIs origin types.OPENPGPKEY (cond (is_some s) (in_tokens (encode_of standard s)) (generic [])) (s ++ [])
key_law origin [] k = inl refl
key_law origin (c ∷ s) k = inr (own origin types.OPENPGPKEY [] SomeBase64 _ _ refl (all (base64_text (c ∷ s) (λ e. absurd (cc e)) k)))

-- ---- service bindings

parameters_list : (x : SVCB) → list_all has_text x.svc_params ≡ true → IsWritableService x
    → ListText AnyParameters zone_parameter x.svc_params (tlvs (parameter_tlvs (map parameter_of x.svc_params)))
parameters_list x has k = each x.svc_params has k.parameters k.rising where
  each : (ps : List Parameter) → list_all has_text ps ≡ true → AllByRecursion IsWritableParameter ps → Rising (map parameter_of ps)
      → ListText AnyParameters zone_parameter ps (tlvs (parameter_tlvs (map parameter_of ps)))
  each [] h w r = parameters_are [] tt refl
  each (p ∷ ps) h w r =
      let told = parameters_text p ps h w in
      record { tokens = told.tokens; divided = told.divided; gives = parameters_are (map parameter_of (p ∷ ps)) r told.are; unmarked = told.unmarked }

service_law : (origin : Option DomainName) (t : RecordType) → zone_row_of t ≡ zone_row_of types.SVCB → (x : SVCB) → IsWritableService x
    → TextIs origin t (zone_service x) (service_octets x)
unfolding field_octets
service_law origin t e x k =
    one_of (list_all has_text x.svc_params)
    (λ has. own origin t (Number 2 ∷ Name ∷ []) AnyParameters _ _ e (listed zone_parameter x.svc_params (tlvs (parameter_tlvs (map parameter_of x.svc_params)))
    (short_text origin 2 x.svc_priority (omega arith) k.priority) (named origin x.target_name k.target) (parameters_list x has k)))
    refl

-- ---- every type

texts_are : (origin : Option DomainName) (v : RData) → FieldsFit v → TextIs origin (type_of v) (zone_text v) (zone_octets v)
unfolding field_octets
texts_are origin (rdata.A x) h = inr (own origin types.A _ NoToken _ _ refl (last (ipv4_text_of origin x.0 h)))
texts_are origin (rdata.AAAA x) h = inr (own origin types.AAAA _ NoToken _ _ refl (last (ipv6_text_of origin x.0 h)))
texts_are origin (rdata.ANAME x) h = inl (ap generic (sym (append-nil (name_octets x.0))))
texts_are origin (rdata.CAA x) h = caa_law origin x h
texts_are origin (rdata.CERT x) h = cert_law origin x h
texts_are origin (rdata.CNAME x) h = inr (own origin types.CNAME _ NoToken _ _ refl (last (named origin x.0 h)))
texts_are origin (rdata.CSYNC x) h = inr (csync_law origin x h)
texts_are origin (rdata.HINFO x) h = inr (own origin types.HINFO _ NoToken _ _ refl
    (row_text (two (quoted x.cpu) (quoted x.os)) (row_then (string_text origin x.cpu h.0) (last (string_text origin x.os h.1)))))
texts_are origin (rdata.HTTPS x) h = service_law origin types.HTTPS refl x.0 h
texts_are origin (rdata.MX x) h = inr (own origin types.MX _ NoToken _ _ refl
    (row_text (two (decimal x.preference) (zone_name x.exchange)) (row_then (short_text origin 2 x.preference (omega arith) h.0) (last (named origin x.exchange h.1)))))
texts_are origin (rdata.NAPTR x) h = inr (naptr_law origin x h)
texts_are origin (rdata.NULL x) h = inl (ap generic (sym (append-nil x.anything)))
texts_are origin (rdata.NS x) h = inr (own origin types.NS _ NoToken _ _ refl (last (named origin x.0 h)))
texts_are origin (rdata.OPENPGPKEY x) h = key_law origin x.public_key h
texts_are origin (rdata.OPT x) h =
    inl (ap generic (options_tlvs x ∙ sym (append-nil (tlvs (option_tlvs (map pair_value x))))))
texts_are origin (rdata.PTR x) h = inr (own origin types.PTR _ NoToken _ _ refl (last (named origin x.0 h)))
texts_are origin (rdata.SMIMEA x) h = tlsa_law origin types.SMIMEA refl x.0 h
texts_are origin (rdata.SOA x) h = inr (soa_law origin x h)
texts_are origin (rdata.SRV x) h = inr (own origin types.SRV _ NoToken _ _ refl
    (row_text (four (decimal x.priority) (decimal x.weight) (decimal x.port) (zone_name x.target))
    (row_then (short_text origin 2 x.priority (omega arith) h.0) (row_then (short_text origin 2 x.weight (omega arith) h.1)
    (row_then (short_text origin 2 x.port (omega arith) h.2) (last (named origin x.target h.3)))))))
texts_are origin (rdata.SSHFP x) h = sshfp_law origin x h
texts_are origin (rdata.SVCB x) h = service_law origin types.SVCB refl x h
texts_are origin (rdata.TLSA x) h = tlsa_law origin types.TLSA refl x h
texts_are origin (rdata.TXT x) h = strings_law origin x.txt_data h
texts_are origin (rdata.Unknown code x) h = inl (ap generic (sym (append-nil x.anything)))
texts_are origin (rdata.Update0 t) h = inl refl
texts_are origin rdata.ZERO h = inl refl

pub texts_give : TextsGive
texts_give origin v h small = text_gives h.octets.octets small (texts_are origin v h.fields)

pub texts_print : TextsPrint
texts_print v h = text_printable h.octets.octets h.octets.short (texts_are None v h.fields)

pub texts_tell : TextsTell
texts_tell v w h k same text = text_same h.octets.octets k.octets.octets h.octets.short k.octets.short (texts_are None v h.fields)
    (subst (λ (t : RecordType). TextIs None t (zone_text w) (zone_octets w)) (sym same) (texts_are None w k.fields)) text
