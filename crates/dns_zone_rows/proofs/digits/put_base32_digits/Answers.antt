use Rattle.std.proofs.Common.{◌≡◌, ℕ, ◌<◌, ◌≤◌, ◌-◌, arith, lit<, sym, ◌∙◌}
use Rattle.dns_zone_rows.proofs.Base32Steps.{digit_alone, digit_with_octet, octet_fits, unit_same}
use Rattle.dns_zone_rows.proofs.digits.put_base32_digits.Goals.{then-held-ge3+in_ok-push, else-held-ge3}
use Rattle.dns_zone_rows.proofs.digits.put_base32_digits.Goals as goal

pub overflow_cast-bits : goal.overflow_cast-bits
overflow_cast-bits c =
    let small = octet_fits c.loop-c.held c.loop-c.bits c.in-Some.digit c.if-held-ge3.true c.loop-c.invariant.small c.in-Some.ensures.small in
    omega (arith, small)

pub loop-c-preserved : goal.loop-c-preserved
loop-c-preserved c = elim c.if-held-ge3.branch [
  | then-held-ge3+in_ok-push w ↦ rw (w.bits-is, w.held-is, w.octets-is, unit_same (c.loop-c.held - 3) (few c.loop-c.held c.loop-c.invariant.few)) (digit_with_octet c.args.text.now c.args.octets.now.items c.loop-c.octets.items _
      c.loop-c.bits c.loop-c.held c.loop-c.c-index c.in-Some.digit c.loop-c.invariant c.loop-c-test.true (sym c.base32_digit.ensures.value ∙ c.in-Some.is)
      c.in-Some.ensures.small w.if-held-ge3.true w.in_ok-push.ensures.items)
  | else-held-ge3 w ↦ rw (w.bits-is, w.held-is, w.octets-is) (digit_alone c.args.text.now c.args.octets.now.items c.loop-c.octets.items
      c.loop-c.bits c.loop-c.held c.loop-c.c-index c.in-Some.digit c.loop-c.invariant c.loop-c-test.true (sym c.base32_digit.ensures.value ∙ c.in-Some.is)
      c.in-Some.ensures.small w.if-held-ge3.false)
]
  where
    few : (held : ℕ) → held ≤ 7 → held - 3 ≤ 7
    few held h = omega (arith, h)
