use Rattle.std.proofs.{Common.◌*◌, Common.[], Common.◌∷◌, Common.rules, Output.has_written_append, Output.has_written_of_eq}
use Rattle.std.specs.Fmt.{HasWritten}
use Rattle.hex.specs.Hex.{encode_lower}
use Rattle.dns_rdata_zone.specs.Tokens.{tokens_from}
use Rattle.dns_rdata_zone.proofs.ServiceDigits.{octets_more, octets_all}
use Rattle.dns_rdata_zone.proofs.services.write_digits.Goals as goal

pub octets-preserved : goal.octets-preserved
octets-preserved g c = λ p.
    let i = c.octets.invariant p in
    let put = g.W.Write.write_str_gives in
    let next : HasWritten put c.octets.f (tokens_from (2 * c.octets.left) (encode_lower (c.in-Some.octet ∷ []))) c.write.new.self =
    let plain = i.1.plain in search rules in (
      _,
      has_written_append put _ _ _ _ _ i.1 next,
      octets_more i.0 c.in-Some.octet c.octets.left c.left_after-left.result c.octets.octets.octets c.next.new.self.octets _ c.in-Some.ensures.octets i.2 c.left_after-left.ensures,
    )

pub returns-in-None : goal.returns-in-None
returns-in-None g c = λ p ok.
    let i = c.octets.invariant p in
    has_written_of_eq _ _ _ _ _ (octets_all (2 * c.octets.left) i.0 c.octets.octets.octets _ c.in-None.ensures.octets.0 i.2) i.1
