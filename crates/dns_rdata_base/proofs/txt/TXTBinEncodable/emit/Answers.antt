use Rattle.std.proofs.Common.{◌≡◌, ◌+◌, ◌++◌, ◌∷◌, List, ℕ, take, drop, ◌∙◌, subst, arith}
use Rattle.std.proofs.lemmas.Result.{err_from_is_err_and}
use Rattle.dns_fields.specs.declared.Kind.{TheVariants.CharacterStrings}
use Rattle.dns_names_wire.specs.Terms.{StoppedField}
use Rattle.dns_names_wire.proofs.FieldWrites.{stopped_first}
use Rattle.dns_rdata_base.proofs.TextLists.{stopped_strings, list_at}
use Rattle.dns_rdata_base.proofs.txt.TXTBinEncodable.emit.Goals as goal

pub returns-in_err-emit_character_data : goal.returns-in_err-emit_character_data
returns-in_err-emit_character_data c =
    let p = err_from_is_err_and c.from_residual.result c.from_residual.ensures.1 in
    let x = c.string-item.result in
    let i = c.loop-string.string-index in
    let xs = c.as_slice-string-items.result.now in
    let split : take i xs ++ x ∷ drop (i + 1) xs ≡ c.args.self.now.txt_data = list_at i xs x c.string-item.is (omega arith) ∙ c.as_slice-string-items.ensures in
    let stopped = stopped_strings (take i xs) x (drop (i + 1) xs) c.loop-string.invariant
    (rw c.as_slice.ensures.value at c.in_err-emit_character_data.ensures.emits) in
    let e = stopped_first (subst (λ (ss : List (List ℕ)). StoppedField c.in_err-emit_character_data.field-0.0 c.args.encoder.now CharacterStrings ss
    c.emit_character_data.new.self) split stopped) in
    rw (p.1, p.2) (record { emits = e; extends = e.extends })
