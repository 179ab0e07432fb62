use Rattle.std.proofs.Common.{◌≡◌, ◌==◌, true, List, ℕ, length, arith, sym, subst}
use Rattle.std.proofs.lemmas.{List.nil_from_length, Bool.Decides.nat_tests}
use Rattle.dns_view.specs.Putting.{Put}
use Rattle.dns_view.proofs.Puts.{put_none}
use Rattle.dns_view.proofs.put.put_octets.Goals as goal

pub returns-then-is_empty : goal.returns-then-is_empty
returns-then-is_empty c =
    let none : (length c.args.octets.now == 0) ≡ true = sym c.if-is_empty.ensures in
    let zero : length c.args.octets.now ≡ 0 = grind (arith, nat_tests) in
    subst (λ (s : List ℕ). Put c.args.out.now c.args.out.now c.args.at c.args.at s) (sym (nil_from_length c.args.octets.now zero))
    (put_none c.args.out.now c.args.at)
