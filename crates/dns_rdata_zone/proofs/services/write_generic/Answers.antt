use Rattle.std.proofs.Common.{◌≡◌, ℕ, ◌+◌, List, ◌++◌, refl, ◌∙◌, ap, drop, length, arith}
use Rattle.std.proofs.Output.{has_written_append, has_written_of_eq}
use Rattle.dns_fields.specs.{Labels.lowname, declared.Kind.TheVariants.Number, Fields.field_octets}
use Rattle.dns_rdata.specs.Data.{data_octets}
use Rattle.dns_rdata_zone.proofs.ServiceDigits.{service_generic}
use Rattle.dns_rdata_zone.proofs.services.write_generic.Goals as goal

pub returns : goal.returns
returns g c = λ p ok.
    let x = c.args.x.now in
    let whole = data_octets c.args.rdata.now in
    let first = c.in_ok-write.ensures.writes p refl in
    let front : c.as_slice.result.now ≡ field_octets (Number 2) x.svc_priority = c.as_slice.ensures.value ∙ c.two.ensures.value
    ∙ ap (λ (t : List ℕ). t ++ field_octets (Number 2) x.svc_priority) c.new-head.ensures in
    let behind : c.octets_behind-octets.result.octets ≡ drop (length (lowname x.target_name) + 2) whole =
    c.octets_behind-octets.ensures ∙ ap (λ (n : ℕ). drop (n + 2) whole) c.len.ensures.value in
    has_written_of_eq _ _ _ _ _ (service_generic x c.in-Some.count _ c.as_slice.result.now whole _ c.requires c.in-Some.ensures.some front behind
    (omega (arith, c.len-2.ensures.value, c.len-2.ensures.room)))
    (has_written_append _ _ _ _ _ _ first (c.write_digits.ensures first.plain ok))
