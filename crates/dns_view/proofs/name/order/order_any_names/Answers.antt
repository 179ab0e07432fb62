use Rattle.std.proofs.Common.{arith}
use Rattle.dns_fields.proofs.NameLaws.{name_same}
use Rattle.dns_view.proofs.NamesPut.{put_front}
use Rattle.dns_view.proofs.name.order.order_any_names.Goals as goal

pub returns-in-Some-put_name-clause-names : goal.returns-in-Some-put_name-clause-names
returns-in-Some-put_name-clause-names c = record {
  is = λ u i v j is as_is.
      let x = put_front u c.in-Some.ensures.some (omega (arith, c.in-Some.ensures.few)) is in
      let y = put_front v c.in-Some-put_name.ensures.some (omega (arith, c.in-Some-put_name.ensures.few)) as_is in
      (rw (← x, ← y) c.octets_cmp.ensures, (name_same c.in-Some.ensures.some.is is).1, (name_same c.in-Some-put_name.ensures.some.is as_is).1);
}
