use Rattle.std.proofs.Common.{inl, inr, refl, arith}
use Rattle.dns_rdata_service.proofs.Splits.{is_err}
use Rattle.dns_check.proofs.Splits.{stays_then}
use Rattle.dns_rdata_service.proofs.ValueReads.{text_behind, names_truncated, names_wrong, names_refused}
use Rattle.dns_rdata_service.proofs.svcb.alpn.AlpnBinDecodable.read.Goals as goal

pub returns-in_err-read_character_data-clause-reads : goal.returns-in_err-read_character_data-clause-reads
returns-in_err-read_character_data-clause-reads c =
    let l = c.in_err-read_character_data.ensures.lacking in
    rw (is_err _ _ c.from_residual-in_err-read_character_data.ensures.1) (names_refused _ (stays_then c.names.invariant.behind c.in_err-read_character_data.ensures.taken.behind)
    (inr (inr (inl (l.0, names_truncated c.names.invariant (omega (arith, c.len-in-names.ensures.left)) l.1)))))

pub returns-in_err-read_character_data-clause-refused : goal.returns-in_err-read_character_data-clause-refused
returns-in_err-read_character_data-clause-refused c =
    let l = c.in_err-read_character_data.ensures.lacking in
    rw (is_err _ _ c.from_residual-in_err-read_character_data.ensures.1) (inr (inr (inl (l.0, names_truncated c.names.invariant (omega (arith, c.len-in-names.ensures.left)) l.1))))

pub returns-then-not-is_text-clause-refused : goal.returns-then-not-is_text-clause-refused
returns-then-not-is_text-clause-refused c =
    inr (inr (inr (
      refl,
      names_wrong c.names.invariant c.in_ok-read_character_data.ensures.taken
          (λ u. let t = c.if-not-is_text.ensures.1 (rw c.unverified-name.ensures u) in absurd (cc t)),
    )))

pub returns-then-not-is_text-clause-reads : goal.returns-then-not-is_text-clause-reads
returns-then-not-is_text-clause-reads c =
    names_refused _ (stays_then c.names.invariant.behind (text_behind c.in_ok-read_character_data.ensures.taken)) (returns-then-not-is_text-clause-refused c)
