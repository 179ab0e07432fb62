use Rattle.std.proofs.Common.{◌∙◌, sym, ap}
use Rattle.dns_labels.specs.Comparing.{lowered_octets}
use Rattle.dns_labels.proofs.Lowered.{lowered-of}
use Rattle.dns_names_wire.proofs.name.Name.label_octets.Goals as goal

pub returns-clause-lowercased : goal.returns-clause-lowercased
returns-clause-lowercased c = rw (← c.self.view_is) (lowered-of c.self.inside.octets c.self.invariant.0 ∙ ap lowered_octets (sym c.as_slice.ensures.value))

pub returns-clause-uncompressed : goal.returns-clause-uncompressed
returns-clause-uncompressed c = rw (← c.self.view_is) (c.as_slice.ensures.value ∙ c.self.invariant.0.same)
