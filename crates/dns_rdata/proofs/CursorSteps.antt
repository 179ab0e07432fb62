-- Cursors over RDATA.
use Rattle.std.proofs.Common.{◌≡◌, ◌↔◌, IsTrue, true≢false, Bool, true, false, if◌then◌else◌, Some, None, map, refl, sym, ◌∙◌}
use Rattle.std.proofs.{Math.Bool.and-true, lemmas.List.append-nil}
use Rattle.std.specs.List.{flat_map}
use Rattle.dns_fields.specs.{Tlvs.string, Tlvs.parameters_emittable, Fields.field_octets, Fields.canonical}
use Rattle.dns_canonical.specs.Cursor.{course_of, begins}
use Rattle.dns_canonical.proofs.Cursors.{emittable_short}
use Rattle.dns_rdata_base.specs as base
use Rattle.dns_rdata_options.specs as options
use Rattle.dns_rdata_service.specs as service
use Rattle.dns_rdata_policy.specs as policy
use Rattle.dns_rdata.specs.{declared.record_data.RData.RData, Data.fields_of, Data.data_octets}
use Rattle.dns_rdata.specs.Cursor.{can_emit, data_left, data_windows, data_options, data_options_left, data_course, DataAt, DataKept}
use Rattle.dns_rdata.specs.declared.record_data.RData.TheVariants as rdata

-- ---- a test of whether a value can be emitted

pub decides : (b c : Bool) → b ≡ c → IsTrue b ↔ (c ≡ true)
decides b c e = (λ h. sym e ∙ h, λ h. e ∙ h)

cannot : (c : Bool) → (c ≡ true → IsTrue false) → c ≡ false
cannot true h = absurd (true≢false (sym (h refl)))
cannot false h = refl

-- ---- the first position

pub begins_at : (v : RData) → can_emit v ≡ true → DataAt v 0 0 0
begins_at (rdata.CAA x) h = emittable_short policy.CAA.caa_shape (policy.CAA.caa_fields x) h
begins_at (rdata.HINFO x) h = emittable_short base.HINFO.hinfo_shape (base.HINFO.hinfo_fields x) h
begins_at (rdata.HTTPS x) h = sym (and-true (parameters_emittable (map service.Parameters.parameter_of x.0.svc_params))) ∙ h
begins_at (rdata.NAPTR x) h = emittable_short base.NAPTR.naptr_shape (base.NAPTR.naptr_fields x) h
begins_at (rdata.OPT x) h = (sym (and-true (options.Steps.pairs_emittable x)) ∙ h, tt)
begins_at (rdata.SVCB x) h = sym (and-true (parameters_emittable (map service.Parameters.parameter_of x.svc_params))) ∙ h
begins_at (rdata.TXT x) h = emittable_short base.TXT.txt_shape (base.TXT.txt_fields x) h
begins_at v h = tt

-- and nothing is kept at first
pub begins_kept : (v : RData) → DataKept v 0 0 None
begins_kept (rdata.OPT x) = refl
begins_kept v = tt

whole : (v : RData) → data_left v 0 0 0 ≡ canonical (fields_of v).kinds (fields_of v).values
unfolding field_octets
whole (rdata.TXT x) = sym (append-nil (flat_map string x.txt_data))
whole v = refl

first_options : (v : RData) → data_options_left v 0 0 0 ≡ data_options v
first_options (rdata.OPT x) = refl
first_options v = refl

-- a cursor at the first position of a value, which is tested
pub begun : (v : RData) (b : Bool) → (IsTrue b ↔ (can_emit v ≡ true)) → let r = begins (course_of data_course (if b then Some v else None)) in
    (r.octets ≡ data_octets v) × (r.options ≡ (if can_emit v then data_options v else 0))
    × (r.all_options ≡ (if can_emit v then data_options v else 0)) × (r.windows ≡ (if can_emit v then data_windows v 0 0 else 0))
begun v true h = rw (h.0 refl) (whole v, first_options v, refl, refl)
begun v false h = rw (cannot (can_emit v) h.1) (refl, refl, refl, refl)
