use Rattle.std.proofs.Common.{◌≡◌, ℕ, ◌*◌, List, [], ◌++◌, ◌∙◌, ap, arith, take}
use Rattle.std.proofs.Output.{has_written_of_eq}
use Rattle.hex.specs.Hex.{encode_lower}
use Rattle.dns_rdata_zone.specs.Tokens.{tokens_from}
use Rattle.dns_fields.specs.{Fields.field_octets, declared.Kind.TheVariants.Number}
use Rattle.dns_rdata_options.specs.ClientSubnet.{prefix_octets}
use Rattle.dns_rdata_zone.proofs.OptionDigits.{subnet_head}
use Rattle.dns_rdata_zone.proofs.options.write_subnet.Goals as goal

pub returns : goal.returns
returns g c = λ p ok.
    let family = c.args.family in
    let source = c.args.source in
    let scope = c.args.scope in
    let address = take (prefix_octets source) c.args.address.now in
    let head : c.as_slice-octets.result.now ≡ ((([] ++ field_octets (Number 2) family) ++ field_octets (Number 1) source) ++ field_octets (Number 1) scope)
    ++ address =
    cc (
      c.as_slice-octets.ensures.value,
      c.octets.ensures.value,
      c.asked_octets.ensures.value,
      c.one-2.ensures.value,
      c.one.ensures.value,
      c.two.ensures.value,
      c.new-head.ensures,
    ) in
    let low = c.ranges.source.fits in
    let high = c.ranges.scope.fits in
    has_written_of_eq _ _ _ _ _ (ap (λ (s : List ℕ). tokens_from (2 * c.args.left) (encode_lower s)) (head ∙ subnet_head family source scope address (omega (arith, low)) (omega (arith, high))))
    (c.write.ensures.writes p ok)
