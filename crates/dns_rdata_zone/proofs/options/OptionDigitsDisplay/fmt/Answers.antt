use Rattle.std.proofs.Common.{◌≡◌, ℕ, ◌*◌, List, [], ◌++◌, ◌∙◌, ap, refl}
use Rattle.std.proofs.Output.{has_written_append, has_written_of_eq}
use Rattle.hex.specs.Hex.{encode_lower}
use Rattle.dns_fields.specs.{declared.Kind.TheVariants.Number, Fields.field_octets, Tlvs.option_octets}
use Rattle.dns_rdata_options.specs.{EdnsCode.edns_code_number, EdnsOption.option_value}
use Rattle.dns_rdata_zone.specs.Tokens.{tokens_from}
use Rattle.dns_rdata_zone.proofs.OptionDigits.{pair_digits}
use Rattle.dns_rdata_zone.proofs.options.OptionDigitsDisplay.fmt.Goals as goal

pub returns-clause-writes : goal.returns-clause-writes
returns-clause-writes g c = λ p ok.
    let code = edns_code_number c.args.self.now.0.now.0 in
    let len = c.option_len-len.result in
    let value = option_octets (option_value c.args.self.now.0.now.1) in
    let head : c.as_slice-octets.result.now ≡ ([] ++ field_octets (Number 2) code) ++ field_octets (Number 2) len =
    cc (c.as_slice-octets.ensures.value, c.two-2.ensures.value, c.two.ensures.value, c.new-head.ensures, c.from.ensures) in
    let first = c.in_ok-write.ensures.writes p refl in
    has_written_of_eq _ _ _ _ _
    (ap (λ (t : List ℕ). tokens_from (2 * c.args.self.now.1) (encode_lower t) ++ tokens_from (2 * c.left_after.result) (encode_lower value)) head
    ∙ pair_digits code len c.args.self.now.1 c.left_after.result value c.option_len-len.ensures c.left_after.ensures)
    (has_written_append _ _ _ _ _ _ first (c.write-2.ensures.writes first.plain ok))
