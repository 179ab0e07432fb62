use Rattle.std.proofs.Common.{◌≡◌, ℕ, ◌+◌, ◌-◌, List, ◌++◌, length, take, drop, get_or, ap, ◌∙◌, arith, length-take}
use Rattle.dns_view.specs.TypeList.{block_types, types_after}
use Rattle.dns_view.proofs.TypeLists.{fits_types}
use Rattle.dns_view.proofs.bitmap.types.next_type.Goals as goal

pub windows-preserved : goal.windows-preserved
windows-preserved c =
    let rest = c.windows.rest.now in
    let n = c.in_ok-len.len in
    let fits = c.in_ok-len.ensures.fits in
    let size : n ≡ 2 + n - 2 = omega arith in
    let after : List ℕ = types_after 0 (take (length rest - (2 + n)) (drop (2 + n) rest)) in (
      c.windows.invariant.0 ∙ ap (λ (x : List ℕ). x ++ types_after 0 rest) c.in_default.ensures.none ∙ fits_types n rest fits
          ∙ ap (λ (k : ℕ). block_types (get_or rest 0 0, take k (drop 2 rest)) ++ after) size,
      omega (arith, length-take (2 + n - 2) (drop 2 rest), fits.most),
    )
