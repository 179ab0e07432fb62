-- What was read from a message is told by its text.
use Rattle.std.proofs.Common.{◌≡◌, ℕ, zero, suc, ◌+◌, ◌*◌, ◌/◌, ◌%◌, ◌<◌, ◌^◌, List, [], ◌∷◌, ◌++◌, map, length, inl, inr, ◌⊎◌}
use Rattle.std.proofs.Common.{refl, sym, ◌∙◌, ap, subst, arith}
use Rattle.std.specs.Prelude.{flat_map, slice_index}
use Rattle.std.specs.{List.AllByRecursion, Net.Addr.IsIpv4Addr, Net.Addr.IsIpv6Addr, Net.Addr.ipv6_segments, Net.Addr.octets_of}
use Rattle.dns_fields.specs.{Labels.DomainName, Labels.AreLabels, Labels.wire, Octets.AreOctets, Octets.At}
use Rattle.dns_fields.specs.Fields.{Value, Values, Field, Stands, CompleteOptions, TruncatedOptions, option_tlvs}
use Rattle.dns_fields.specs.declared.Kind.{Kind, TheVariants.Name, TheVariants.Options}
use Rattle.dns_fields.specs.Tlvs.{Numbered, tlv, tlvs, string, as_tlv, AllHeld, IsTlv, OptionValue, Subnet, OpaqueOption, option_octets}
use Rattle.dns_fields.specs.Tlvs.{OptionHeld, ParameterHeld, IsEmittable, IsBody, parameter_octets}
use Rattle.dns_fields.proofs.OctetLaws.{AreOctets-nil, AreOctets-cons, AreOctets-head, AreOctets-tail, AreOctets-same, AreOctets-append}
use Rattle.dns_fields.proofs.OctetLaws.{AreOctets-front, AreOctets-back, AreOctets-at, labels_octets, tlv_octets, tlv_body, field_octets_are}
use Rattle.dns_fields.proofs.Stays.{labels_stand}
use Rattle.dns_types.specs.declared.record_type.RecordType.{RecordType}
use Rattle.dns_rdata.specs.{declared.record_data.RData.RData, WholeOctets.whole_octets, WholeOctets.all_whole}
use Rattle.dns_rdata.specs.Data.{FieldsOf, fields_of, shape, Fills}
use Rattle.dns_rdata.proofs.DataLaws.{fills_emittable}
use Rattle.dns_rdata.specs.declared.record_data.RData.TheVariants as rdata
use Rattle.dns_rdata_base.specs.{declared.a.A.A, declared.aaaa.AAAA.AAAA}
use Rattle.dns_rdata_certs.specs.{TLSA.tlsa_shape, TLSA.tlsa_fields, declared.tlsa.TLSA.TLSA}
use Rattle.dns_rdata_service.specs.{Parameters.Parameter, Parameters.parameter_of, SVCB.svcb_shape, SVCB.svcb_fields, SvcParamKey.key_number}
use Rattle.dns_rdata_service.specs.{declared.svcb.SVCB.SVCB, declared.svcb.value.SvcParamValue.SvcParamValue}
use Rattle.dns_rdata_service.specs.SvcParamValue.{value_of, a_octets, aaaa_octets}
use Rattle.dns_rdata_service.specs.declared.svcb.value.SvcParamValue.TheVariants.{Mandatory, Alpn, NoDefaultAlpn, Port, Ipv4Hint, Ipv6Hint}
use Rattle.dns_rdata_zone.specs.{ZoneGives.AreDataOf, ZoneGives.TextGives, ZoneReads.FillsGive, ZoneReads.FillsPrint, ZoneReads.FillsTell, Readable.IsReadable}
use Rattle.dns_rdata_zone.specs.Readable.{IsString, IsWritable, IsWritableTlsa, IsWritableValue, IsWritableParameter, IsWritableService, FieldsFit}
use Rattle.dns_rdata_zone.specs.ZoneTexts.{zone_text, zone_octets}
use Rattle.dns_rdata_zone.proofs.{RowForms.bytes_of, Again.own_fields, Again.same_length, TextsGive.texts_give, TextsGive.texts_print, TextsGive.texts_tell}
use Rattle.dns_rdata_zone.proofs.{FilledLengths.all_short, FilledLengths.few_fields, FilledLengths.body_short, ServiceDigits.octets_if}

-- ---- the octets of fields, names uncompressed

wire_are : (labels : List (List ℕ)) → AreLabels labels → AllByRecursion AreOctets labels → AreOctets (wire labels)
wire_are [] h a = AreOctets-nil
wire_are (l ∷ ls) h a =
    let short = h.0.1 in
    AreOctets-cons (length l) (l ++ wire ls) (omega (arith, short)) (AreOctets-append l (wire ls) a.0 (wire_are ls h.1 a.1))

option_are : (body : List ℕ) (code : ℕ) (v : OptionValue) → OptionHeld code body v → AreOctets body → AreOctets (option_octets v)
option_are body code (Subnet f s c a) h o =
    AreOctets-front (option_octets (Subnet f s c a)) h.2 (AreOctets-same body (option_octets (Subnet f s c a) ++ h.2) h.3 o)
option_are body code (OpaqueOption s) h o = AreOctets-same body s h.1 o

options_are : (xs : List (Numbered (List ℕ))) (v : List (Numbered OptionValue)) → AllHeld OptionHeld xs v → AreOctets (tlvs xs)
    → AreOctets (tlvs (option_tlvs v))
options_are [] [] h o = AreOctets-nil
options_are [] (y ∷ v) h o = absurd h
options_are (x ∷ xs) [] h o = AreOctets-nil
options_are (x ∷ xs) (y ∷ v) h o =
    let body = tlv_body x (AreOctets-front (tlv x) (tlvs xs) o) in
    AreOctets-append (tlv (as_tlv option_octets y)) (tlvs (option_tlvs v)) (tlv_octets (as_tlv option_octets y) (option_are x.1 y.0 y.1 h.1 body))
    (options_are xs v h.2 (AreOctets-back (tlv x) (tlvs xs) o))

options_whole : (m : List ℕ) (p n q : ℕ) (v : List (Numbered OptionValue)) → AreOctets m → CompleteOptions m p v q ⊎ ((v ≡ []) × TruncatedOptions m n p q)
    → AreOctets (tlvs (option_tlvs v))
options_whole m p n q v a (inl w) = options_are w.read v w.held (AreOctets-at m p (tlvs w.read) q a w.at)
options_whole m p n q v a (inr c) = subst (λ (l : List (Numbered OptionValue)). AreOctets (tlvs (option_tlvs l))) (sym c.0) AreOctets-nil

whole_are : (m : List ℕ) (p : ℕ) (k : Kind) (v : Value k) (q : ℕ) → AreOctets m → Field m p k v q → AreOctets (whole_octets k v)
whole_are m p Name v q a f =
    AreOctets-append (wire v.labels) (0 ∷ []) (wire_are v.labels (labels_stand f.is.stands) (labels_octets a f.is.stands)) (AreOctets-cons 0 [] (omega arith) AreOctets-nil)
whole_are m p Options v q a f = options_whole m p _ q v a f.is
whole_are m p k v q a f = field_octets_are m p k v q a f

all_are : (m : List ℕ) (p : ℕ) (kinds : List Kind) (vs : Values kinds) (e : ℕ) → AreOctets m → Stands m p kinds vs e → AreOctets (all_whole kinds vs)
all_are m p [] vs e a h = AreOctets-nil
all_are m p (k ∷ kinds) vs e a h =
    AreOctets-append (whole_octets k vs.0) (all_whole kinds vs.1) (whole_are m p k vs.0 h.0 a h.1) (all_are m h.0 kinds vs.1 e a h.2)

-- ---- what fields hold

name_fits : {m : List ℕ} {p q : ℕ} {x : DomainName} → AreOctets m → Field m p Name x q → IsWritable x
name_fits a f = record { octets = labels_octets a f.is.stands; is_name = record { labels = labels_stand f.is.stands; fits = f.is.fits } }

text_fits : (m : List ℕ) (p : ℕ) (s : List ℕ) (q : ℕ) → AreOctets m → (length s < 256) × At m p (string s) q → IsString s
text_fits m p s q a h = record { octets = AreOctets-tail (length s) s (AreOctets-at m p (string s) q a h.1); fits = h.0 }

texts_are : (ss : List (List ℕ)) → AreOctets (flat_map string ss) → AllByRecursion (λ s. length s < 256) ss → AllByRecursion IsString ss
texts_are [] h k = tt
texts_are (s ∷ ss) h k = (
  record { octets = AreOctets-tail (length s) s (AreOctets-front (string s) (flat_map string ss) h); fits = k.0 },
  texts_are ss (AreOctets-back (string s) (flat_map string ss) h) k.1,
)

twice : (s : List ℕ) → length (octets_of s) ≡ 2 * length s
twice [] = refl
twice (x ∷ s) = let e = twice s in omega (arith, e)

segments_small : (s : List ℕ) → AreOctets (octets_of s) → (k : ℕ) → slice_index s k < 2 ^ 16
segments_small [] h k = omega arith
segments_small (x ∷ s) h zero = let high = AreOctets-head (x / 256) (x % 256 ∷ octets_of s) h in omega (arith, high)
segments_small (x ∷ s) h (suc k) = segments_small s (AreOctets-tail (x % 256) (octets_of s) (AreOctets-tail (x / 256) (x % 256 ∷ octets_of s) h)) k

address6 : (a : AAAA) → length (aaaa_octets a) ≡ 16 → AreOctets (aaaa_octets a) → IsIpv6Addr a.0
address6 a e h = let t = twice (ipv6_segments a.0) in (omega (arith, t, e), segments_small (ipv6_segments a.0) h)

address4 : (a : A) → length (a_octets a) ≡ 4 → AreOctets (a_octets a) → IsIpv4Addr a.0
address4 a e h = (e, bytes_of (a_octets a) h)

hints4 : (xs : List A) → AllByRecursion (λ s. length s ≡ 4) (map a_octets xs) → AreOctets (flat_map (λ s. s) (map a_octets xs))
    → AllByRecursion (λ a. IsIpv4Addr a.0) xs
hints4 [] h o = tt
hints4 (x ∷ xs) h o = let rest = flat_map (λ (s : List ℕ). s) (map a_octets xs) in
    (address4 x h.0 (AreOctets-front (a_octets x) rest o), hints4 xs h.1 (AreOctets-back (a_octets x) rest o))

hints6 : (xs : List AAAA) → AllByRecursion (λ s. length s ≡ 16) (map aaaa_octets xs) → AreOctets (flat_map (λ s. s) (map aaaa_octets xs))
    → AllByRecursion (λ a. IsIpv6Addr a.0) xs
hints6 [] h o = tt
hints6 (x ∷ xs) h o = let rest = flat_map (λ (s : List ℕ). s) (map aaaa_octets xs) in
    (address6 x h.0 (AreOctets-front (aaaa_octets x) rest o), hints6 xs h.1 (AreOctets-back (aaaa_octets x) rest o))

all_mapped : {X Y : Type 0} (f : X → Y) (P : Y → Type 0) (xs : List X) → AllByRecursion P (map f xs) → AllByRecursion (λ x. P (f x)) xs
all_mapped f P [] h = tt
all_mapped f P (x ∷ xs) h = (h.0, all_mapped f P xs h.1)

value_fits : (v : SvcParamValue) (body : List ℕ) → IsEmittable (value_of v) → IsBody body (value_of v) → AreOctets body → IsWritableValue v
value_fits (Mandatory x) body e b o = ((λ none. e.0 (ap (map key_number) none)), all_mapped key_number (λ k. k < 256 ^ 2) x.0 e.1)
value_fits (Alpn x) body e b o = (e.0, texts_are x.0 (AreOctets-same body (flat_map string x.0) b.1 o) e.1)
value_fits NoDefaultAlpn body e b o = tt
value_fits (Port n) body e b o = e
value_fits (Ipv4Hint x) body e b o = hints4 x.0 e (AreOctets-same body (flat_map (λ s. s) (map a_octets x.0)) b o)
value_fits (Ipv6Hint x) body e b o = hints6 x.0 e (AreOctets-same body (flat_map (λ s. s) (map aaaa_octets x.0)) b o)
value_fits v body e b o = AreOctets-same body (parameter_octets (value_of v)) b o

parameters_fit : (read : List (Numbered (List ℕ))) (ps : List Parameter) → AllByRecursion IsTlv read → AllHeld ParameterHeld read (map parameter_of ps)
    → AreOctets (tlvs read) → AllByRecursion IsWritableParameter ps
parameters_fit [] [] fit h o = tt
parameters_fit [] (p ∷ ps) fit h o = absurd h
parameters_fit (x ∷ xs) [] fit h o = tt
parameters_fit (x ∷ xs) (p ∷ ps) fit h o =
    let number = fit.0.0 in
    let same = h.0 in
    let held = h.1 in
    let body = tlv_body x (AreOctets-front (tlv x) (tlvs xs) o) in
    let few = body_short x.1 (value_of p.1) held.2 in
    let size = fit.0.1 in
    ((omega (arith, number, same), value_fits p.1 x.1 held.1 held.2 body, omega (arith, few, size)), parameters_fit xs ps fit.1 h.2 (AreOctets-back (tlv x) (tlvs xs) o))

service_fits : (m : List ℕ) (p : ℕ) (x : SVCB) (e : ℕ) → AreOctets m → Stands m p svcb_shape (svcb_fields x) e → IsWritableService x
service_fits m p x e a h =
    let parameters = h.2.2.1.is in
    record {
      priority = h.1.is.0;
      target = name_fits a h.2.1;
      parameters = parameters_fit parameters.read x.svc_params parameters.fit parameters.held
          (AreOctets-at m h.2.0 (tlvs parameters.read) h.2.2.0 a parameters.at);
      rising = parameters.rising;
    }

tlsa_fits : (m : List ℕ) (p : ℕ) (x : TLSA) (e : ℕ) → AreOctets m → Stands m p tlsa_shape (tlsa_fields x) e → IsWritableTlsa x
tlsa_fits m p x e a h =
    (h.1.is.0, h.2.1.is.0, h.2.2.1.is.0, AreOctets-at m h.2.2.0 x.cert_data h.2.2.2.0 a h.2.2.2.1.is)

-- ---- every type

fields_fit : (m : List ℕ) (p : ℕ) (v : RData) (e : ℕ) → AreOctets m → Stands m p (fields_of v).kinds (fields_of v).values e → FieldsFit v
fields_fit m p (rdata.A x) e a h = address4 x h.1.is.0 (AreOctets-at m p (a_octets x) h.0 a h.1.is.1)
fields_fit m p (rdata.AAAA x) e a h = address6 x h.1.is.0 (AreOctets-at m p (aaaa_octets x) h.0 a h.1.is.1)
fields_fit m p (rdata.CAA x) e a h = (h.1.is.0, h.2.1.is.0, AreOctets-at m h.2.0 x.value h.2.2.0 a h.2.2.1.is)
fields_fit m p (rdata.CERT x) e a h =
    (h.1.is.0, h.2.1.is.0, h.2.2.1.is.0, AreOctets-at m h.2.2.0 x.cert_data h.2.2.2.0 a h.2.2.2.1.is)
fields_fit m p (rdata.CNAME x) e a h = name_fits a h.1
fields_fit m p (rdata.CSYNC x) e a h = (h.1.is.0, h.2.1.is.0, h.2.2.1.is.set.numbers)
fields_fit m p (rdata.HINFO x) e a h = (text_fits m p x.cpu h.0 a h.1.is, text_fits m h.0 x.os h.2.0 a h.2.1.is)
fields_fit m p (rdata.HTTPS x) e a h = service_fits m p x.0 e a h
fields_fit m p (rdata.MX x) e a h = (h.1.is.0, name_fits a h.2.1)
fields_fit m p (rdata.NAPTR x) e a h =
    let flags = h.2.2 in (
      h.1.is.0,
      h.2.1.is.0,
      text_fits m h.2.0 x.flags flags.0 a flags.1.is,
      text_fits m flags.0 x.services flags.2.0 a flags.2.1.is,
      text_fits m flags.2.0 x.regexp flags.2.2.0 a flags.2.2.1.is,
      name_fits a flags.2.2.2.1,
    )
fields_fit m p (rdata.NS x) e a h = name_fits a h.1
fields_fit m p (rdata.OPENPGPKEY x) e a h = AreOctets-at m p x.public_key h.0 a h.1.is
fields_fit m p (rdata.PTR x) e a h = name_fits a h.1
fields_fit m p (rdata.SMIMEA x) e a h = tlsa_fits m p x.0 e a h
fields_fit m p (rdata.SOA x) e a h =
    let serial = h.2.2 in (
      name_fits a h.1,
      name_fits a h.2.1,
      record {
        serial = serial.1.is.0;
        refresh = serial.2.1.is.0;
        retry = serial.2.2.1.is.0;
        expire = serial.2.2.2.1.is.0;
        minimum = serial.2.2.2.2.1.is.0;
      },
    )
fields_fit m p (rdata.SRV x) e a h = (h.1.is.0, h.2.1.is.0, h.2.2.1.is.0, name_fits a h.2.2.2.1)
fields_fit m p (rdata.SSHFP x) e a h = (h.1.is.0, h.2.1.is.0, AreOctets-at m h.2.0 x.fingerprint h.2.2.0 a h.2.2.1.is)
fields_fit m p (rdata.SVCB x) e a h = service_fits m p x e a h
fields_fit m p (rdata.TLSA x) e a h = tlsa_fits m p x e a h
fields_fit m p (rdata.TXT x) e a h = texts_are x.txt_data (AreOctets-at m p (flat_map string x.txt_data) h.0 a h.1.is.1) h.1.is.0
fields_fit m p v e a h = tt

own_stands : {m : List ℕ} {p n : ℕ} {t : RecordType} {v : RData} → Fills m p n t v → Stands m p (fields_of v).kinds (fields_of v).values (p + n)
own_stands {m} {p} {n} f = subst (λ (x : FieldsOf). Stands m p x.kinds x.values (p + n)) (sym f.value.fields) f.region.stands

short : {m : List ℕ} {p n : ℕ} {t : RecordType} {v : RData} → Fills m p n t v → length (zone_octets v) < 2 ^ 64
short {m} {p} {n} {t} {v} f =
    let size = f.region.short in
    omega (arith, size, few_fields v, all_short m p (fields_of v).kinds (fields_of v).values (p + n) (own_stands f))

readable : {m : List ℕ} {p n : ℕ} {t : RecordType} {v : RData} → Fills m p n t v → IsReadable v
readable {m} {p} {n} {t} {v} f = record {
  octets = record { octets = all_are m p (fields_of v).kinds (fields_of v).values (p + n) f.region.octets (own_stands f); short = short f };
  fields = fields_fit m p v (p + n) f.region.octets (own_stands f);
}

-- ---- the value is that of its octets alone

ends_at : (m : List ℕ) (kinds : List Kind) (vs : Values kinds) → Stands m 0 kinds vs (length m) → Stands m 0 kinds vs (0 + length m)
ends_at m kinds vs h = let e : length m ≡ 0 + length m = omega arith in subst (λ (k : ℕ). Stands m 0 kinds vs k) e h

data_of : (m : List ℕ) (p n : ℕ) (t : RecordType) (v : RData) (f : Fills m p n t v) → length (zone_octets v) < 65536 → AreDataOf (zone_octets v) t v
data_of m p n t v f small =
    let e : zone_octets v ≡ all_whole (shape t) f.values = ap (λ (x : FieldsOf). all_whole x.kinds x.values) f.value.fields in
    let own = all_whole (shape t) f.values in
    let few : length own < 65536 = subst (λ (o : List ℕ). length o < 65536) e small in
    subst (λ (o : List ℕ). AreDataOf o t v) (sym e) (record {
      short = few;
      fills = record {
        values = f.values;
        region = record {
          octets = all_are m p (shape t) f.values (p + n) f.region.octets f.region.stands;
          short = few;
          within = omega arith;
          stands = ends_at own (shape t) f.values (own_fields m p [] (shape t) f.values (p + n) f.region.stands);
          holds = f.region.holds;
        };
        value = f.value;
      };
    })

pub fills_give : FillsGive
fills_give origin m p n t v f small = record {
  octets = zone_octets v;
  gives = subst (λ (s : RecordType). TextGives origin s (zone_octets v) (zone_text v)) f.value.type (texts_give origin v (readable f) small);
  is_data = data_of m p n t v f small;
  whole = λ unknown named. ap length (octets_if v (fills_emittable f)) ∙ same_length (fields_of v).kinds (fields_of v).values;
}

pub fills_tell : FillsTell
fills_tell m m' p p' n n' t v w f g same = texts_tell v w (readable f) (readable g) (f.value.type ∙ sym g.value.type) same

pub fills_print : FillsPrint
fills_print m p n t v f = texts_print v (readable f)
