use Rattle.std.proofs.Common.{arith}
use Rattle.dns_view.proofs.NameOrders.{name_ends, moved_name, whole_same, whole_front, same_names, plain_names}
use Rattle.dns_view.proofs.name.order.order_names.Goals as goal

pub returns-then-same-first-clause-names : goal.returns-then-same-first-clause-names
returns-then-same-first-clause-names c =
    let first = c.in-Some.ensures.run in
    let same = whole_same c.args.x c.args.a.now c.args.y c.args.b.now c.in-Some.first c.same_front-same.result c.if-same-first.true
    c.same_front-same.ensures.same in
    record {
      is = λ u i v j is as_is. (
        same_names first c.requires.left c.requires.right same u i v j is as_is,
        omega (arith, name_ends first c.requires.left is, c.if-same-first.true),
        omega (arith, name_ends (moved_name first same) c.requires.right as_is, c.if-same-first.true),
      );
    }

pub returns-clause-names : goal.returns-clause-names
returns-clause-names c =
    let first = c.in-Some.ensures.run in
    let second = c.in-Some-uncompressed_len.ensures.run in
    let front = whole_front c.args.x c.args.a.now c.args.y c.args.b.now c.in-Some.first c.same_front-same.result c.same_front-same.ensures.same in
    record {
      is = λ u i v j is as_is. (
        plain_names first c.requires.left second c.requires.right front (omega arith) (omega arith) (omega arith) c.compare_lowered.ensures u i v j is as_is,
        name_ends first c.requires.left is,
        name_ends second c.requires.right as_is,
      );
    }
