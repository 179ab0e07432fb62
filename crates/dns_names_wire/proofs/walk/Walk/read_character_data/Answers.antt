use Rattle.dns_names_wire.proofs.Strings.{text_taken}
use Rattle.dns_names_wire.proofs.walk.Walk.read_character_data.Goals as goal

pub returns-clause-taken : goal.returns-clause-taken
returns-clause-taken c = text_taken c.in_ok-len.ensures.taken c.in_ok-octets.ensures.taken
