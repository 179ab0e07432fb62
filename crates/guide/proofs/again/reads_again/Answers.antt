use Rattle.std.proofs.Common.{◌≡◌, ℕ, List, [], ◌++◌, arith, length, refl, sym, ◌∙◌, ap}
use Rattle.guide.proofs.ReadBack.{elsewhere, told}
use Rattle.guide.proofs.again.reads_again.Goals as goal

pub returns : goal.returns
returns c =
    let again = c.in_ok-emit.ensures.again c.args.record_type _ _ _ c.in_ok-read.ensures.found (omega arith) in
    -- nothing precedes the message in its vector
    let none : c.emit.new.encoder.before ≡ [] = c.in_ok-emit.ensures.keeps.before ∙ ap (λ w. w.before) c.new-encoder.ensures ∙ c.new-octets.ensures.items in
    let same = c.regions_hold.ensures.one _ _ _ _ again.value c.in_ok-read-2.field-0 again.fills
    (elsewhere (sym (ap (λ d. d.message) c.new-decoder-2.ensures ∙ c.as_slice.ensures.value ∙ c.into_bytes-written.ensures.octets ∙ ap (λ (l : List ℕ). l ++ c.emit.new.encoder.octets) none)) (rw (c.new-encoder.ensures, c.new-decoder-2.ensures) refl) (omega (arith, c.new-2.ensures, c.len-length.ensures.value, c.len-length.ensures.small, ap (λ w. length w.octets) c.new-encoder.ensures)) c.in_ok-read-2.ensures.found) in
    c.eq.ensures.value ∙ told c.in_ok-read.field-0 again.same same
