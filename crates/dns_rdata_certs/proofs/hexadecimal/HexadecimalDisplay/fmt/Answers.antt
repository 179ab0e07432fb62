use Rattle.std.proofs.Common.{◌≡◌, ℕ, ◌/◌, ◌%◌, List, [], ◌∷◌, ◌++◌, rules, refl, sym, ap, ◌∙◌, append_assoc, append-nil}
use Rattle.std.specs.Prelude.{slice_index}
use Rattle.std.proofs.{Output.has_written_append, Output.has_written_of_eq, lemmas.List.nil_from_length}
use Rattle.hex.specs.Hex.{encode_lower, encode_with, lower_digits}
use Rattle.dns_rdata_certs.proofs.hexadecimal.HexadecimalDisplay.fmt.Goals as goal

-- the digits of a list that grows
encode_with-append : (t xs ys : List ℕ) → encode_with t (xs ++ ys) ≡ encode_with t xs ++ encode_with t ys
unfolding encode_with
encode_with-append t [] ys = refl
encode_with-append t (x ∷ xs) ys = ap (λ (r : List ℕ). slice_index t (x / 16) ∷ slice_index t (x % 16) ∷ r) (encode_with-append t xs ys)

pub loop-chunk-init : goal.loop-chunk-init
loop-chunk-init g c = (search rules, tt, search rules, λ plain. ([], search rules, search rules))

pub loop-chunk-preserved : goal.loop-chunk-preserved
loop-chunk-preserved g c =
    let chunk = c.in-Some.chunk.now in
    let steps = c.in-Some.ensures.steps in
    let shown : c.in-Ok-from_utf8.text.now ≡ encode_lower chunk = c.in-Ok-from_utf8.ensures.cases.0 ∙ c.in-Ok.ensures.written in (
      search rules,
      tt,
      steps.0 ∙ c.loop-chunk.invariant.2,
      λ plain.
          let so_far = c.loop-chunk.invariant.3 plain in (
            so_far.0 ++ c.in-Ok-from_utf8.text.now,
            has_written_append _ _ _ _ _ _ so_far.1 (search rules),
            append_assoc so_far.0 _ _
                ∙ ap (λ (t : List ℕ). so_far.0 ++ t) (rw shown (sym (encode_with-append lower_digits chunk _) ∙ ap encode_lower (sym steps.1.0)))
                ∙ so_far.2,
          ),
    )

pub returns-clause-writes : goal.returns-clause-writes
unfolding encode_with
returns-clause-writes g c = λ plain _.
    let so_far = c.loop-chunk.invariant.3 plain in
    let none = nil_from_length _ c.in-None.ensures.steps.1.0 in
    has_written_of_eq _ _ _ _ _ (rw (none, append-nil) at so_far.2) so_far.1
