use Rattle.std.proofs.Common.{refl, arith}
use Rattle.std.proofs.lemmas.Grind.{common_steps}
use Rattle.dns_message.proofs.header.header_of.Goals as goal

pub returns : goal.returns
returns c = record {
  flags = c.number_at-flags.result;
  numbers = (
    2,
    c.number_at-id.ensures,
    (
      4,
      c.number_at-flags.ensures,
      (
        6,
        c.number_at-question_count.ensures,
        (8, c.number_at-answer_count.ensures, (10, c.number_at-authority_count.ensures, (12, c.number_at-additional_count.ensures, refl))),
      ),
    ),
  );
  bits = record {
    response = c.is_set-response.ensures;
    opcode = grind (arith, common_steps);
    authoritative = c.is_set-authoritative.ensures;
    truncated = c.is_set-truncated.ensures;
    recursion_desired = c.is_set-recursion_desired.ensures;
    recursion_available = c.is_set-recursion_available.ensures;
    authentic_data = c.is_set-authentic_data.ensures;
    checking_disabled = c.is_set-checking_disabled.ensures;
    rcode = grind (arith, common_steps);
  };
}
