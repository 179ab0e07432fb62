-- A value of RDATA is told by its type and its fields.
use Rattle.std.proofs.Common.{◌≡◌, ◌↔◌, ℕ, ◌+◌, Bool, true, false, List, [], ◌∷◌, refl, sym, ap, ◌∙◌, arith}
use Rattle.std.proofs.{lemmas.Bool.Decides.nat_tests, Math.Bool.and-true}
use Rattle.std.specs.{Bool.Decides, Net.Addr.segments_of, Net.Addr.octets_of}
use Rattle.dns_fields.specs.{Fields.Value, Fields.Values, Fields.AllFull, Fields.Same, Equal.values_eq}
use Rattle.dns_fields.specs.declared.Kind.{Kind, TheVariants.Number, TheVariants.Octets, TheVariants.Name, TheVariants.CharacterString}
use Rattle.dns_fields.specs.declared.Kind.{TheVariants.CharacterStrings, TheVariants.Rest, TheVariants.Options, TheVariants.Parameters, TheVariants.Bitmap}
use Rattle.dns_fields.proofs.{EqualLaws.values_decide, OctetLaws.AreOctets-at, Laws.stands_fit}
use Rattle.dns_types.specs.declared.record_type.RecordType.{RecordType}
use Rattle.dns_types.specs.declared.record_type.RecordType.TheVariants as types
use Rattle.dns_names_wire.specs.Terms.{Region}
use Rattle.dns_rdata_base.proofs.SoaValues.{soa_from, soa_from-fields, soa_fields-from, soa_from-seconds}
use Rattle.dns_rdata_base.proofs.Addresses.{octets_of-segments, segments_of-octets_of}
use Rattle.dns_rdata_certs.proofs.Values.{cert_from, cert_from-fields, cert_fields-from, cert_from-read, cert_keys-same, sshfp_from, sshfp_from-fields}
use Rattle.dns_rdata_certs.proofs.Values.{sshfp_fields-from, sshfp_from-read, sshfp_keys-same, tlsa_from, tlsa_from-fields, tlsa_fields-from}
use Rattle.dns_rdata_certs.proofs.Values.{tlsa_from-read, tlsa_keys-same}
use Rattle.dns_rdata_service.proofs.SvcbValues.{svcb_from, svcb_from-fields, svcb_fields-from, svcb_from-read, svcb_equal}
use Rattle.dns_rdata_policy.proofs.CaaValues.{caa_from, caa_from-fields, caa_fields-from, caa_from-read, caa_keys-same}
use Rattle.dns_rdata_policy.proofs.CsyncValues.{csync_from, csync_from-fields, csync_fields-from, csync_from-read, csync_keys-same}
use Rattle.dns_rdata_options.proofs.Values.{opt_from-fields, opt_fields-from, opt_from-read, opt_equal}
use Rattle.dns_rdata_base.specs.declared.null.NULL.{NULL}
use Rattle.dns_rdata_certs.specs.declared.tlsa.TLSA.{TLSA}
use Rattle.dns_rdata_service.specs.declared.svcb.SVCB.{SVCB}
use Rattle.dns_rdata_base.specs as base
use Rattle.dns_rdata_certs.specs as certs
use Rattle.dns_rdata_options.specs as options
use Rattle.dns_rdata_service.specs as service
use Rattle.dns_rdata_policy.specs as policy
use Rattle.dns_rdata.specs.{declared.record_data.RData.RData, Equal.equal, Equal.record_type_eq}
use Rattle.dns_rdata.specs.Data.{shape, MeetsCondition, FieldsOf, fields_of, type_of, IsUnknownType, CanBeRead, IsValue}
use Rattle.dns_rdata.specs.declared.record_data.RData.TheVariants as rdata

-- ---- values as those of other kinds

some_value : (k : Kind) → Value k
some_value (Number w) = 0
some_value Name = record { labels = []; fully_qualified = true }
some_value k = []

value_as : (k l : Kind) → Value l → Value k
value_as (Number w) (Number x) v = v
value_as (Octets n) (Octets l) v = v
value_as Name Name v = v
value_as CharacterString CharacterString v = v
value_as CharacterStrings CharacterStrings v = v
value_as Rest Rest v = v
value_as Options Options v = v
value_as Parameters Parameters v = v
value_as Bitmap Bitmap v = v
value_as k l v = some_value k

pub values_as : (s t : List Kind) → Values t → Values s
values_as [] t vs = tt
values_as (k ∷ s) [] vs = (some_value k, values_as s [] tt)
values_as (k ∷ s) (l ∷ t) vs = (value_as k l vs.0, values_as s t vs.1)

value_as-same : (k : Kind) (v : Value k) → value_as k k v ≡ v
unfolding value_as
value_as-same (Number w) v = refl
value_as-same k v = refl

pub values_as-same : (s : List Kind) (vs : Values s) → values_as s s vs ≡ vs
unfolding values_as
values_as-same [] vs = refl
values_as-same (k ∷ s) vs = ap (λ (v : Value k). (v, values_as s s vs.1)) (value_as-same k vs.0) ∙ ap (λ (ws : Values s). (vs.0, ws)) (values_as-same s vs.1)

-- ---- the value with these fields

pub value_for : (t : RecordType) → Values (shape t) → RData
value_for types.A vs = rdata.A (record { 0 = record { octets = vs.0 } })
value_for types.AAAA vs = rdata.AAAA (record { 0 = record { segments = segments_of vs.0 } })
value_for types.ANAME vs = rdata.ANAME (record { 0 = vs.0 })
value_for types.CAA vs = rdata.CAA (caa_from vs)
value_for types.CERT vs = rdata.CERT (cert_from vs)
value_for types.CNAME vs = rdata.CNAME (record { 0 = vs.0 })
value_for types.CSYNC vs = rdata.CSYNC (csync_from vs)
value_for types.HINFO vs = rdata.HINFO (record { cpu = vs.0; os = vs.1.0 })
value_for types.HTTPS vs = rdata.HTTPS (record { 0 = svcb_from vs })
value_for types.MX vs = rdata.MX (record { preference = vs.0; exchange = vs.1.0 })
value_for types.NAPTR vs = rdata.NAPTR (record
    { order = vs.0; preference = vs.1.0; flags = vs.1.1.0; services = vs.1.1.1.0; regexp = vs.1.1.1.1.0; replacement = vs.1.1.1.1.1.0 })
value_for types.NULL vs = rdata.NULL (record { anything = vs.0 })
value_for types.NS vs = rdata.NS (record { 0 = vs.0 })
value_for types.OPENPGPKEY vs = rdata.OPENPGPKEY (record { public_key = vs.0 })
value_for types.OPT vs = rdata.OPT (options.OPT.opt_from vs)
value_for types.PTR vs = rdata.PTR (record { 0 = vs.0 })
value_for types.SMIMEA vs = rdata.SMIMEA (record { 0 = tlsa_from vs })
value_for types.SOA vs = rdata.SOA (soa_from vs)
value_for types.SRV vs = rdata.SRV (record { priority = vs.0; weight = vs.1.0; port = vs.1.1.0; target = vs.1.1.1.0 })
value_for types.SSHFP vs = rdata.SSHFP (sshfp_from vs)
value_for types.SVCB vs = rdata.SVCB (svcb_from vs)
value_for types.TLSA vs = rdata.TLSA (tlsa_from vs)
value_for types.TXT vs = rdata.TXT (record { txt_data = vs.0 })
value_for types.ZERO vs = rdata.ZERO
value_for types.ANY vs = rdata.ZERO
value_for types.AXFR vs = rdata.ZERO
value_for types.IXFR vs = rdata.ZERO
value_for t vs = rdata.Unknown t (record { anything = vs.0 })

from_fields : RecordType → FieldsOf → RData
from_fields t f = value_for t (values_as (shape t) f.kinds f.values)

read_unknown : (code : RecordType) (x : NULL) → IsUnknownType code → rdata.Unknown code x ≡ from_fields code (fields_of (rdata.Unknown code x))
unfolding from_fields value_for values_as value_as
read_unknown types.A x h = absurd h
read_unknown code x h = first_of (cc, grind arith)

read_value : (v : RData) → CanBeRead v → v ≡ from_fields (type_of v) (fields_of v)
unfolding from_fields value_for values_as value_as
read_value (rdata.AAAA x) h = ap (λ (s : List ℕ). rdata.AAAA (record { 0 = record { segments = s } })) (sym (segments_of-octets_of x.0.segments))
read_value (rdata.CAA x) h = ap rdata.CAA (caa_from-fields x h)
read_value (rdata.CERT x) h = ap rdata.CERT (cert_from-fields x h)
read_value (rdata.CSYNC x) h = ap rdata.CSYNC (csync_from-fields x h)
read_value (rdata.OPT x) h = ap rdata.OPT (opt_from-fields x h)
read_value (rdata.SVCB x) h = ap rdata.SVCB (svcb_from-fields x h)
read_value (rdata.HTTPS x) h = ap (λ (y : SVCB). rdata.HTTPS (record { 0 = y })) (svcb_from-fields x.0 h)
read_value (rdata.SMIMEA x) h = ap (λ (y : TLSA). rdata.SMIMEA (record { 0 = y })) (tlsa_from-fields x.0 h)
read_value (rdata.SOA x) h = ap rdata.SOA (soa_from-fields x h)
read_value (rdata.SSHFP x) h = ap rdata.SSHFP (sshfp_from-fields x h)
read_value (rdata.TLSA x) h = ap rdata.TLSA (tlsa_from-fields x h)
read_value (rdata.Update0 t) h = absurd h
read_value (rdata.Unknown code x) h = read_unknown code x h
read_value v h = refl

pub value_for-a : (vs : Values (shape types.A)) → value_for types.A vs ≡ rdata.A (record { 0 = record { octets = vs.0 } })
unfolding value_for
value_for-a vs = refl

pub value_for-aaaa : (vs : Values (shape types.AAAA)) → value_for types.AAAA vs ≡ rdata.AAAA (record { 0 = record { segments = segments_of vs.0 } })
unfolding value_for
value_for-aaaa vs = refl

-- a value of these fields is the one that is made of them
pub value_is : (t : RecordType) (vs : Values (shape t)) (v : RData) → IsValue t vs v → v ≡ value_for t vs
unfolding from_fields
value_is t vs v h =
    read_value v h.can_be_read
    ∙ ap (λ (u : RecordType). from_fields u (fields_of v)) h.type
    ∙ ap (λ (f : FieldsOf). value_for t (values_as (shape t) f.kinds f.values)) h.fields
    ∙ ap (value_for t) (values_as-same (shape t) vs)

abbrev with_kinds : (s : List Kind) → Values s → FieldsOf
with_kinds s vs = record { kinds = s; values = vs }

of_kinds : (s : List Kind) {a b : Values s} → a ≡ b → with_kinds s a ≡ with_kinds s b
of_kinds s e = ap (with_kinds s) e

-- and the fields of a region make one
pub region_value : (m : List ℕ) (p n : ℕ) (t : RecordType) (vs : Values (shape t)) → Region m p n (shape t) (MeetsCondition t) vs
    → IsValue t vs (value_for t vs)
unfolding value_for
region_value m p n types.AAAA vs w =
    let e : octets_of (segments_of vs.0) ≡ vs.0 = octets_of-segments 8 vs.0 w.stands.1.is.0 (AreOctets-at m p vs.0 w.stands.0 w.octets w.stands.1.is.1) in
    record { type = refl; fields = of_kinds (Octets 16 ∷ []) (ap (λ (o : List ℕ). (o, tt)) e); can_be_read = tt }
region_value m p n types.CAA vs w =
    let f = stands_fit m p policy.CAA.caa_shape vs (p + n) w.stands in
    record { type = refl; fields = of_kinds policy.CAA.caa_shape (caa_fields-from vs f); can_be_read = caa_from-read vs }
region_value m p n types.CERT vs w = record { type = refl; fields = of_kinds certs.CERT.cert_shape (cert_fields-from vs); can_be_read = cert_from-read vs }
region_value m p n types.CSYNC vs w =
    record { type = refl; fields = of_kinds policy.CSYNC.csync_shape (csync_fields-from vs); can_be_read = csync_from-read vs }
region_value m p n types.OPT vs w = record {
  type = refl;
  fields =
      of_kinds options.OPT.opt_shape (opt_fields-from m p vs (p + n) w.octets w.stands);
  can_be_read = opt_from-read m p vs (p + n) w.octets w.stands;
}
region_value m p n types.SVCB vs w = record
    { type = refl; fields = of_kinds service.SVCB.svcb_shape (svcb_fields-from m p n (MeetsCondition types.SVCB) vs w); can_be_read = svcb_from-read vs }
region_value m p n types.HTTPS vs w = record
    { type = refl; fields = of_kinds service.SVCB.svcb_shape (svcb_fields-from m p n (MeetsCondition types.HTTPS) vs w); can_be_read = svcb_from-read vs }
region_value m p n types.SMIMEA vs w =
    record { type = refl; fields = of_kinds certs.TLSA.tlsa_shape (tlsa_fields-from vs); can_be_read = tlsa_from-read vs }
region_value m p n types.SOA vs w =
    let f = stands_fit m p base.SOA.soa_shape vs (p + n) w.stands in
    record { type = refl; fields = of_kinds base.SOA.soa_shape (soa_fields-from vs f); can_be_read = soa_from-seconds vs f }
region_value m p n types.SSHFP vs w = record { type = refl; fields = of_kinds certs.SSHFP.sshfp_shape (sshfp_fields-from vs); can_be_read = sshfp_from-read vs }
region_value m p n types.TLSA vs w = record { type = refl; fields = of_kinds certs.TLSA.tlsa_shape (tlsa_fields-from vs); can_be_read = tlsa_from-read vs }
region_value m p n types.ANY vs w = absurd w.holds
region_value m p n types.AXFR vs w = absurd w.holds
region_value m p n types.IXFR vs w = absurd w.holds
region_value m p n t vs w = record { type = refl; fields = refl; can_be_read = tt }

-- ---- values of one type are equal where their fields are

type_itself : (t : RecordType) → record_type_eq t t ≡ true
type_itself (types.Unknown n) = grind (arith, nat_tests)
type_itself t = refl

decided_same : (a b : Bool) {P Q : Type 0} → Decides a P → Decides b Q → P ↔ Q → a ≡ b
decided_same true true d e s = refl
decided_same false false d e s = refl
decided_same true false d e s = sym (e.1 (s.0 (d.0 refl)))
decided_same false true d e s = d.1 (s.1 (e.0 refl))

-- what is compared instead of the fields gives the same test
equal_keys : (s t : List Kind) (a b : Values s) (c d : Values t) → AllFull s a → AllFull s b → AllFull t c → AllFull t d → Same s a b ↔ Same t c d
    → values_eq s a b ≡ values_eq t c d
equal_keys s t a b c d fa fb fc fd same = decided_same (values_eq s a b) (values_eq t c d) (values_decide s a b fa fb) (values_decide t c d fc fd) same

abbrev pub fields_for : (t : RecordType) → Values (shape t) → Values (shape t)
fields_for t vs = values_as (shape t) (fields_of (value_for t vs)).kinds (fields_of (value_for t vs)).values

pub equal_values : (t : RecordType) (vs ws : Values (shape t)) → MeetsCondition t vs → CanBeRead (value_for t vs) → CanBeRead (value_for t ws)
    → equal (value_for t vs) (value_for t ws) ≡ values_eq (shape t) (fields_for t vs) (fields_for t ws)
unfolding value_for values_as value_as
equal_values types.CAA vs ws h a b = and-true _
    ∙ equal_keys policy.CAA.caa_key_shape policy.CAA.caa_shape (policy.CAA.caa_keys (caa_from vs)) (policy.CAA.caa_keys (caa_from ws)) (policy.CAA.caa_fields (caa_from vs)) (policy.CAA.caa_fields (caa_from ws))
    (tt, (tt, (tt, (tt, tt)))) (tt, (tt, (tt, (tt, tt)))) (tt, (tt, (tt, tt))) (tt, (tt, (tt, tt)))
    (caa_keys-same (caa_from vs) (caa_from ws) (caa_from-read vs) (caa_from-read ws))
equal_values types.CERT vs ws h a b = and-true _
    ∙ equal_keys certs.CERT.cert_key_shape certs.CERT.cert_shape (certs.CERT.cert_keys (cert_from vs)) (certs.CERT.cert_keys (cert_from ws)) (certs.CERT.cert_fields (cert_from vs)) (certs.CERT.cert_fields (cert_from ws))
    (tt, (tt, (tt, (tt, (tt, (tt, tt)))))) (tt, (tt, (tt, (tt, (tt, (tt, tt)))))) (tt, (tt, (tt, (tt, tt)))) (tt, (tt, (tt, (tt, tt))))
    (cert_keys-same (cert_from vs) (cert_from ws) (cert_from-read vs) (cert_from-read ws))
equal_values types.CSYNC vs ws h a b = and-true _
    ∙ equal_keys policy.CSYNC.csync_key_shape policy.CSYNC.csync_shape (policy.CSYNC.csync_keys (csync_from vs)) (policy.CSYNC.csync_keys (csync_from ws)) (policy.CSYNC.csync_fields (csync_from vs))
    (policy.CSYNC.csync_fields (csync_from ws)) (tt, (tt, (tt, (tt, (tt, tt))))) (tt, (tt, (tt, (tt, (tt, tt))))) (tt, (tt, (tt, tt))) (tt, (tt, (tt, tt)))
    (csync_keys-same (csync_from vs) (csync_from ws) (csync_from-read vs) (csync_from-read ws))
equal_values types.OPT vs ws h a b = and-true _ ∙ opt_equal (options.OPT.opt_from vs) (options.OPT.opt_from ws) a b
equal_values types.SVCB vs ws h a b = and-true _ ∙ svcb_equal (svcb_from vs) (svcb_from ws) (svcb_from-read vs) (svcb_from-read ws)
equal_values types.HTTPS vs ws h a b = and-true _ ∙ svcb_equal (svcb_from vs) (svcb_from ws) (svcb_from-read vs) (svcb_from-read ws)
equal_values types.SMIMEA vs ws h a b = and-true _
    ∙ equal_keys certs.TLSA.tlsa_key_shape certs.TLSA.tlsa_shape (certs.TLSA.tlsa_keys (tlsa_from vs)) (certs.TLSA.tlsa_keys (tlsa_from ws)) (certs.TLSA.tlsa_fields (tlsa_from vs)) (certs.TLSA.tlsa_fields (tlsa_from ws))
    (tt, (tt, (tt, (tt, (tt, (tt, (tt, tt))))))) (tt, (tt, (tt, (tt, (tt, (tt, (tt, tt))))))) (tt, (tt, (tt, (tt, tt)))) (tt, (tt, (tt, (tt, tt))))
    (tlsa_keys-same (tlsa_from vs) (tlsa_from ws) (tlsa_from-read vs) (tlsa_from-read ws))
equal_values types.SSHFP vs ws h a b = and-true _
    ∙ equal_keys certs.SSHFP.sshfp_key_shape certs.SSHFP.sshfp_shape (certs.SSHFP.sshfp_keys (sshfp_from vs)) (certs.SSHFP.sshfp_keys (sshfp_from ws)) (certs.SSHFP.sshfp_fields (sshfp_from vs))
    (certs.SSHFP.sshfp_fields (sshfp_from ws)) (tt, (tt, (tt, (tt, (tt, tt))))) (tt, (tt, (tt, (tt, (tt, tt))))) (tt, (tt, (tt, tt))) (tt, (tt, (tt, tt)))
    (sshfp_keys-same (sshfp_from vs) (sshfp_from ws) (sshfp_from-read vs) (sshfp_from-read ws))
equal_values types.TLSA vs ws h a b = and-true _
    ∙ equal_keys certs.TLSA.tlsa_key_shape certs.TLSA.tlsa_shape (certs.TLSA.tlsa_keys (tlsa_from vs)) (certs.TLSA.tlsa_keys (tlsa_from ws)) (certs.TLSA.tlsa_fields (tlsa_from vs)) (certs.TLSA.tlsa_fields (tlsa_from ws))
    (tt, (tt, (tt, (tt, (tt, (tt, (tt, tt))))))) (tt, (tt, (tt, (tt, (tt, (tt, (tt, tt))))))) (tt, (tt, (tt, (tt, tt)))) (tt, (tt, (tt, (tt, tt))))
    (tlsa_keys-same (tlsa_from vs) (tlsa_from ws) (tlsa_from-read vs) (tlsa_from-read ws))
equal_values types.ZERO vs ws h a b = refl
equal_values types.ANY vs ws h a b = absurd h
equal_values types.AXFR vs ws h a b = absurd h
equal_values types.IXFR vs ws h a b = absurd h
equal_values t vs ws h a b = simp (type_itself, and-true)
