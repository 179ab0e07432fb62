-- `==` of RDATA is true exactly if its order is Equal.
use Rattle.dns_rows.specs.Table.{kinds_of}
use Rattle.std.specs.Prelude.{◌≡◌, Bool, true, false, ◌&&◌, if◌then◌else◌, Option, Some, None, List, [], ◌∷◌, refl}
use Rattle.std.proofs.Common.{ap, ◌∙◌, sym, true≢false, arith, ◌+◌, ◌*◌, ◌/◌, ◌%◌}
use Rattle.std.specs.{Option.option_cmp, Option.option_eq, Ordering.nat_cmp, Ordering.is_eq, Ordering.ordering_then, declared.cmp.Ordering.Ordering}
use Rattle.std.specs.Cmp.{first_so, both_tied, tied_itself, Equal-is}
use Rattle.std.specs.Cmp.Lexicographic.{slice_cmp, nat_list_cmp_total}
use Rattle.std.specs.declared.cmp.Ordering.TheVariants.{Equal}
use Rattle.std.proofs.lemmas.List.Sorted.{IsPermutation-map}
use Rattle.dns_fields.specs.{declared.Kind.Kind, Fields.Values, Fields.Same, Equal.values_eq, Order.values_cmp}
use Rattle.dns_fields.proofs.{Orders.values_ties, SameFields.emittable_same, SameFields.equal_same, Laws.canonical_same}
use Rattle.dns_types.specs.contracts.record_type.RecordTypeOrd.TheImpl.Laws as type_laws
use Rattle.dns_rdata_options.specs.{Order.opt_eq, Order.opt_cmp, OrderLaws.opt_ties}
use Rattle.dns_rdata_options.proofs.Values.{opt_permutes}
use Rattle.dns_rdata_service.specs.declared.svcb.SVCB.{SVCB}
use Rattle.dns_rdata_service.proofs.OwnValues.{own_fields}
use Rattle.dns_rdata_policy.specs.CAA.{critical_number}
use Rattle.dns_rdata_base.specs as base
use Rattle.dns_rdata_certs.specs as certs
use Rattle.dns_rdata_options.specs as options
use Rattle.dns_rdata_service.specs as service
use Rattle.dns_rdata_policy.specs as policy
use Rattle.dns_rdata.specs.{declared.record_data.RData.RData, Data.type_of, Data.octets_of, Data.data_octets, Keys.VariantKey, Keys.variant_keys}
use Rattle.dns_rdata.specs.Equal.{equal, record_type_eq, variant_key_eq, keys_eq, types_equal}
use Rattle.dns_rdata.specs.Order.{record_type_cmp, variant_key_cmp, keys_cmp, rdata_cmp}
use Rattle.dns_rdata.specs.declared.record_data.RData.TheVariants as rdata

-- ---- equal fields have the same octets

pub octets_same : (s : List Kind) (a b : Values s) → Same s a b
    → octets_of (record { kinds = s; values = a }) ≡ octets_of (record { kinds = s; values = b })
octets_same s a b h = let e = emittable_same s a b h in let f = canonical_same s a b h in rw (e, f) refl

-- of a variant whose fields are its keys
octets_equal : (s : List Kind) (a b : Values s) → (values_eq s a b && true) ≡ true
    → octets_of (record { kinds = s; values = a }) ≡ octets_of (record { kinds = s; values = b })
octets_equal s a b h = octets_same s a b (equal_same s a b (first_so (values_eq s a b) true h))

-- ---- keys tell the fields

same_keys : (s : List Kind) (a b : Values s) → (values_eq s a b && true) ≡ true → Same s a b
same_keys s a b h = equal_same s a b (first_so (values_eq s a b) true h)

critical_same : (a b : Bool) → critical_number a ≡ critical_number b → a ≡ b
critical_same true true e = refl
critical_same false false e = refl
critical_same true false e = absurd (omega (arith, e))
critical_same false true e = absurd (omega (arith, e))

svcb_octets : (x y : SVCB)
    → (values_eq service.SVCB.svcb_key_shape (service.SVCB.svcb_keys x) (service.SVCB.svcb_keys y) && true) ≡ true
    → octets_of (record { kinds = service.SVCB.svcb_shape; values = service.SVCB.svcb_fields x })
    ≡ octets_of (record { kinds = service.SVCB.svcb_shape; values = service.SVCB.svcb_fields y })
svcb_octets x y h =
    let s = same_keys service.SVCB.svcb_key_shape (service.SVCB.svcb_keys x) (service.SVCB.svcb_keys y) h in
    octets_same service.SVCB.svcb_shape (service.SVCB.svcb_fields x) (service.SVCB.svcb_fields y)
    (s.0, (s.1.0, (record { is = own_fields x.svc_params y.svc_params s.1.1.0.is }, tt)))

-- ---- equal values have the same octets

pub same_octets : (v w : RData) → equal v w ≡ true → data_octets v ≡ data_octets w
same_octets (rdata.A x) (rdata.A y) h = octets_equal base.A.a_shape (base.A.a_fields x) (base.A.a_fields y) h
same_octets (rdata.AAAA x) (rdata.AAAA y) h =
    octets_equal base.AAAA.aaaa_shape (base.AAAA.aaaa_fields x) (base.AAAA.aaaa_fields y) h
same_octets (rdata.ANAME x) (rdata.ANAME y) h =
    octets_equal base.NameRecords.name_shape (base.NameRecords.aname_fields x) (base.NameRecords.aname_fields y) h
same_octets (rdata.CAA x) (rdata.CAA y) h =
    let s = same_keys policy.CAA.caa_key_shape (policy.CAA.caa_keys x) (policy.CAA.caa_keys y) h in
    octets_same policy.CAA.caa_shape (policy.CAA.caa_fields x) (policy.CAA.caa_fields y) (
      record {
        is = λ i. s.1.0.is i % 128
            + (if critical_same x.issuer_critical y.issuer_critical s.0.is i then 128 else 0);
      },
      (s.1.1.0, (s.1.1.1.0, tt)),
    )
same_octets (rdata.CERT x) (rdata.CERT y) h =
    let s = same_keys certs.CERT.cert_key_shape (certs.CERT.cert_keys x) (certs.CERT.cert_keys y) h in
    octets_same certs.CERT.cert_shape (certs.CERT.cert_fields x) (certs.CERT.cert_fields y)
    (s.0, (s.1.1.0, (s.1.1.1.0, (s.1.1.1.1.1.0, tt))))
same_octets (rdata.CNAME x) (rdata.CNAME y) h =
    octets_equal base.NameRecords.name_shape (base.NameRecords.cname_fields x) (base.NameRecords.cname_fields y) h
same_octets (rdata.CSYNC x) (rdata.CSYNC y) h =
    let s = same_keys policy.CSYNC.csync_key_shape (policy.CSYNC.csync_keys x) (policy.CSYNC.csync_keys y) h in
    octets_same policy.CSYNC.csync_shape (policy.CSYNC.csync_fields x) (policy.CSYNC.csync_fields y)
    (s.0, (record { is = λ i. s.1.1.1.0.is i / 4 * 4 + 2 * s.1.1.0.is i + s.1.0.is i }, (s.1.1.1.1.0, tt)))
same_octets (rdata.HINFO x) (rdata.HINFO y) h =
    octets_equal base.HINFO.hinfo_shape (base.HINFO.hinfo_fields x) (base.HINFO.hinfo_fields y) h
same_octets (rdata.HTTPS x) (rdata.HTTPS y) h = svcb_octets x.0 y.0 h
same_octets (rdata.MX x) (rdata.MX y) h =
    octets_equal (kinds_of base.NameRecords.mx_facts.row) (base.NameRecords.mx_facts.fields x)
    (base.NameRecords.mx_facts.fields y) h
same_octets (rdata.NAPTR x) (rdata.NAPTR y) h =
    octets_equal base.NAPTR.naptr_shape (base.NAPTR.naptr_fields x) (base.NAPTR.naptr_fields y) h
same_octets (rdata.NULL x) (rdata.NULL y) h =
    octets_equal base.NULL.null_shape (base.NULL.null_fields x) (base.NULL.null_fields y) h
same_octets (rdata.NS x) (rdata.NS y) h =
    octets_equal base.NameRecords.name_shape (base.NameRecords.ns_fields x) (base.NameRecords.ns_fields y) h
same_octets (rdata.OPENPGPKEY x) (rdata.OPENPGPKEY y) h =
    octets_equal base.OPENPGPKEY.openpgpkey_shape (base.OPENPGPKEY.openpgpkey_fields x)
    (base.OPENPGPKEY.openpgpkey_fields y) h
same_octets (rdata.OPT x) (rdata.OPT y) h =
    octets_same options.OPT.opt_shape (options.OPT.opt_fields x) (options.OPT.opt_fields y) (
      record {
        is = IsPermutation-map options.OPT.pair_value x y
            ((opt_permutes x y).0 (first_so (opt_eq x y) true h));
      },
      tt,
    )
same_octets (rdata.PTR x) (rdata.PTR y) h =
    octets_equal base.NameRecords.name_shape (base.NameRecords.ptr_fields x) (base.NameRecords.ptr_fields y) h
same_octets (rdata.SMIMEA x) (rdata.SMIMEA y) h =
    let s = same_keys certs.TLSA.tlsa_key_shape (certs.TLSA.tlsa_keys x.0) (certs.TLSA.tlsa_keys y.0) h in
    octets_same certs.TLSA.tlsa_shape (certs.TLSA.tlsa_fields x.0) (certs.TLSA.tlsa_fields y.0)
    (s.0, (s.1.1.0, (s.1.1.1.1.0, (s.1.1.1.1.1.1.0, tt))))
same_octets (rdata.SOA x) (rdata.SOA y) h =
    octets_equal base.SOA.soa_shape (base.SOA.soa_fields x) (base.SOA.soa_fields y) h
same_octets (rdata.SRV x) (rdata.SRV y) h =
    octets_equal (kinds_of base.NameRecords.srv_facts.row) (base.NameRecords.srv_facts.fields x)
    (base.NameRecords.srv_facts.fields y) h
same_octets (rdata.SSHFP x) (rdata.SSHFP y) h =
    let s = same_keys certs.SSHFP.sshfp_key_shape (certs.SSHFP.sshfp_keys x) (certs.SSHFP.sshfp_keys y) h in
    octets_same certs.SSHFP.sshfp_shape (certs.SSHFP.sshfp_fields x) (certs.SSHFP.sshfp_fields y)
    (s.0, (s.1.1.0, (s.1.1.1.1.0, tt)))
same_octets (rdata.SVCB x) (rdata.SVCB y) h = svcb_octets x y h
same_octets (rdata.TLSA x) (rdata.TLSA y) h =
    let s = same_keys certs.TLSA.tlsa_key_shape (certs.TLSA.tlsa_keys x) (certs.TLSA.tlsa_keys y) h in
    octets_same certs.TLSA.tlsa_shape (certs.TLSA.tlsa_fields x) (certs.TLSA.tlsa_fields y)
    (s.0, (s.1.1.0, (s.1.1.1.1.0, (s.1.1.1.1.1.1.0, tt))))
same_octets (rdata.TXT x) (rdata.TXT y) h =
    octets_equal base.TXT.txt_shape (base.TXT.txt_fields x) (base.TXT.txt_fields y) h
same_octets (rdata.Unknown a x) (rdata.Unknown b y) h =
    octets_same base.NULL.null_shape (base.NULL.null_fields x) (base.NULL.null_fields y)
    (equal_same base.NULL.null_shape (base.NULL.null_fields x) (base.NULL.null_fields y)
    (first_so (values_eq base.NULL.null_shape (base.NULL.null_fields x) (base.NULL.null_fields y))
    (record_type_eq a b) h))
same_octets (rdata.Update0 t) (rdata.Update0 u) h = refl
same_octets rdata.ZERO rdata.ZERO h = refl
same_octets v w h = absurd (true≢false (sym h))

pub equal_is : (r : Ordering) → is_eq r ≡ true → r ≡ Equal
equal_is r = (Equal-is r).0

-- ---- the fields tie exactly if they are equal

options_tie : {X : Type 0} (e : X → X → Bool) (c : X → X → Ordering) → ((x y : X) → e x y ≡ is_eq (c x y))
    → (a b : Option X) → option_eq e a b ≡ is_eq (option_cmp c a b)
options_tie e c h None None = refl
options_tie e c h (Some x) (Some y) = h x y
options_tie e c h a b = refl

variant_key_ties : (key : VariantKey) (v w : RData) → variant_key_eq key v w ≡ is_eq (variant_key_cmp key v w)
variant_key_ties (VariantKey.fields kinds held) v w =
    options_tie (values_eq kinds) (values_cmp kinds) (values_ties kinds) (held v) (held w)
variant_key_ties (VariantKey.options held) v w = options_tie opt_eq opt_cmp opt_ties (held v) (held w)

keys_tie : (given : List VariantKey) (v w : RData) → keys_eq given v w ≡ is_eq (keys_cmp given v w)
keys_tie [] v w = type_laws.matches_eq-law (type_of v) (type_of w)
keys_tie (key ∷ rest) v w =
    both_tied (variant_key_eq key v w) (keys_eq rest v w) (variant_key_cmp key v w) (keys_cmp rest v w)
    (variant_key_ties key v w) (keys_tie rest v w)

-- what is equal ties in the earlier comparison, too
tie_case : (e : Bool) (c t : Ordering) → e ≡ is_eq t → (e ≡ true → c ≡ Equal) → e ≡ is_eq (ordering_then c t)
tie_case e Equal t h k = h
tie_case false c t h k = refl
tie_case true c t h k = ap is_eq (sym (k refl))

pub rdata_ties : (v w : RData) → equal v w ≡ is_eq (rdata_cmp v w)
rdata_ties v w =
    tie_case (equal v w) (slice_cmp nat_cmp (data_octets v) (data_octets w)) _
    (tie_case (equal v w) (record_type_cmp (type_of v) (type_of w)) _ (keys_tie variant_keys v w)
    (λ h. equal_is (record_type_cmp (type_of v) (type_of w))
    (sym (type_laws.matches_eq-law (type_of v) (type_of w)) ∙ types_equal variant_keys v w h)))
    (λ h. ap (slice_cmp nat_cmp (data_octets v)) (sym (same_octets v w h))
    ∙ tied_itself nat_list_cmp_total (data_octets v))
