use Rattle.std.proofs.Common.{arith, inl, inr, refl}
use Rattle.std.proofs.lemmas.List.{length-drop}
use Rattle.dns_check.proofs.Subnets.{family_first, head_first, subnet_held}
use Rattle.dns_check.proofs.options.check_subnet.Goals as goal

pub returns-in-None-clause-refused : goal.returns-in-None-clause-refused
returns-in-None-clause-refused c =
    let octets = family_first c.args.octets.now _ c.from_be_bytes-family.ensures (omega arith) (λ i. omega (arith, c.type_inv.octets i)) in
    inr (inl (record { family = _; rest = _; octets = octets; small = omega arith; unknown = c.in-None.ensures.unknown; error = refl }))

pub returns-then-most-size-clause-refused : goal.returns-then-most-size-clause-refused
returns-then-most-size-clause-refused c =
    let known = c.in-Some.ensures.known in
    let head = head_first c.args.octets.now _ c.from_be_bytes-family.ensures (omega arith) (λ i. omega (arith, c.type_inv.octets i)) known.0 in
    rw known.1 (inr (inr (inr (inl (record { family = _; source = _; scope = _; rest = _; head = head; long = omega (arith, known.1); error = refl })))))

pub returns-then-octets-size-clause-refused : goal.returns-then-octets-size-clause-refused
returns-then-octets-size-clause-refused c =
    let known = c.in-Some.ensures.known in
    let head = head_first c.args.octets.now _ c.from_be_bytes-family.ensures (omega arith) (λ i. omega (arith, c.type_inv.octets i)) known.0 in
    let short = length-drop 4 c.args.octets.now in
    inr (inr (inr (inr (record {
      family = _;
      source = _;
      scope = _;
      rest = _;
      head = head;
      most = omega (arith, known.1);
      short = omega
          (arith, short);
      error = refl;
    }))))

pub returns-clause-found : goal.returns-clause-found
returns-clause-found c =
    subnet_held c.args.octets.now c.from_be_bytes-family.result (omega arith) (λ i. omega (arith, c.type_inv.octets i)) c.from_be_bytes-family.ensures
    c.in-Some.ensures.known.0 (omega (arith, c.in-Some.ensures.known.1, c.if-most-size.false)) c.if-octets-size.false
