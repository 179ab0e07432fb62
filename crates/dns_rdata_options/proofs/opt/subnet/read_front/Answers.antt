use Rattle.std.proofs.Common.{ℕ, arith, ◌+◌, ◌-◌, ◌≡◌, ◌∙◌, ap, take, drop, get_or, inl, inr, refl}
use Rattle.std.proofs.lemmas.List.{length-drop}
use Rattle.std.specs.declared.net.ip_addr.IpAddr.{IpAddr}
use Rattle.dns_rdata_options.specs.ClientSubnet.{prefix_octets, address_of}
use Rattle.dns_rdata_options.proofs.Subnets.{subnet_stands}
use Rattle.dns_check.proofs.Subnets.{family_first, head_first}
use Rattle.dns_rdata_options.proofs.opt.subnet.read_front.Goals as goal

pub returns-in_default-clause-refused : goal.returns-in_default-clause-refused
returns-in_default-clause-refused c =
    let octets = family_first c.args.octets.now _ c.from_be_bytes-family.ensures (omega arith) (λ i. omega (arith, c.type_inv.octets i)) in
    inr (inl (record { family = _; rest = _; octets = octets; small = omega arith; unknown = c.in_default.ensures.unknown; error = refl }))

pub returns-then-read-len-clause-refused : goal.returns-then-read-len-clause-refused
returns-then-read-len-clause-refused c =
    let known = c.in-Some.ensures.known in
    let head = head_first c.args.octets.now _ c.from_be_bytes-family.ensures (omega arith) (λ i. omega (arith, c.type_inv.octets i)) known.0 in
    rw known.1 (inr (inr (inr (inl (record { family = _; source = _; scope = _; rest = _; head = head; long = omega (arith, known.1); error = refl })))))

pub returns-then-octets-len-clause-refused : goal.returns-then-octets-len-clause-refused
returns-then-octets-len-clause-refused c =
    let known = c.in-Some.ensures.known in
    let head = head_first c.args.octets.now _ c.from_be_bytes-family.ensures (omega arith) (λ i. omega (arith, c.type_inv.octets i)) known.0 in
    let short = length-drop 4 c.args.octets.now in
    inr (inr (inr (inr (record { family = _; source = _; scope = _; rest = _; head = head; most = omega (arith, known.1); short = omega (arith, short); error = refl }))))

pub returns-clause-read : goal.returns-clause-read
returns-clause-read c =
    subnet_stands c.args.octets.now c.from_be_bytes-family.result c.new.result (omega arith) (λ i. omega (arith, c.type_inv.octets i)) c.from_be_bytes-family.ensures
    c.in-Some.ensures.known.0 (omega (arith, c.in-Some.ensures.known.1, c.if-read-len.false)) c.if-octets-len.false
    (c.new.ensures ∙ ap (λ (a : IpAddr). record { address = a; source_prefix = get_or c.args.octets.now 2 0; scope_prefix = get_or c.args.octets.now 3 0 })
    (c.address_of-address.ensures ∙ ap (λ (n : ℕ). address_of c.from_be_bytes-family.result (take n (drop 4 c.args.octets.now)))
    (let e : 4 + prefix_octets (get_or c.args.octets.now 2 0) - 4 ≡ prefix_octets (get_or c.args.octets.now 2 0) = omega arith in e)))
