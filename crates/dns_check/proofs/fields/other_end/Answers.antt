use Rattle.dns_check.proofs.FieldEnds.{taken_to}
use Rattle.dns_check.proofs.fields.other_end.Goals as goal

pub returns-in-CharacterString : goal.returns-in-CharacterString
returns-in-CharacterString c = rw c.in-CharacterString.is c.letters_end.ensures

pub returns-in-Ok : goal.returns-in-Ok
returns-in-Ok c = rw c.index.ensures.offset (taken_to (rw c.at-walk.ensures at c.in-Ok.ensures))
