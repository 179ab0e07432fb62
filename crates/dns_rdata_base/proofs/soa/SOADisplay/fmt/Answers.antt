use Rattle.std.proofs.{Common.◌≡◌, Common.ℕ, Common.List, Common.[], Common.◌∷◌, Common.◌++◌, Common.append_assoc, Output.has_written_of_eq}
use Rattle.std.specs.{Prelude.codes, Fmt.decimal, Fmt.signed_decimal}
use Rattle.dns_labels.specs.Text.{name_text}
use Rattle.dns_rdata_base.proofs.soa.SOADisplay.fmt.Goals as goal

seven : (a b c d e f g : List ℕ) → (a ++ 32 ∷ (b ++ 32 ∷ (c ++ 32 ∷ (d ++ 32 ∷ (e ++ 32 ∷ (f ++ 32 ∷ [])))))) ++ g ≡ a ++ codes " " ++ b ++ codes " " ++ c
    ++ codes " " ++ d ++ codes " " ++ e ++ codes " " ++ f ++ codes " " ++ g
seven a b c d e f g = simp append_assoc

pub returns-clause-writes : goal.returns-clause-writes
returns-clause-writes g c =
    let x = c.args.self.now in
    λ p ok. has_written_of_eq _ _ _ _ _ (seven (name_text x.mname) (name_text x.rname) (decimal x.serial) (signed_decimal x.refresh)
    (signed_decimal x.retry) (signed_decimal x.expire) (decimal x.minimum)) (c.write.ensures.writes p ok)
