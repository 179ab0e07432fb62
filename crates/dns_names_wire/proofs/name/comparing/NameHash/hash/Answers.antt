use Rattle.dns_labels.proofs.Lowered.{lowered-of}
use Rattle.dns_names_wire.proofs.name.comparing.NameHash.hash.Goals as goal

pub returns : goal.returns
returns g c =
    let low = lowered-of c.self.inside.octets c.self.invariant.0 in
    let fed = rw c.as_slice.ensures.value at c.hash_lowered.ensures in
    let mark = rw (fed, c.get.ensures) at c.hash.ensures in
    rw (← c.self.view_is) (rw low mark)
