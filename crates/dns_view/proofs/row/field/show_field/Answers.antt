use Rattle.std.proofs.Common.{refl, arith}
use Rattle.dns_view.proofs.FieldAt.{number_shown, number_missing, octets_shown, name_shown, string_shown, string_missing, strings_shown, rest_shown}
use Rattle.dns_view.proofs.FieldAt.{options_shown, parameters_shown, bitmap_shown}
use Rattle.dns_view.proofs.row.field.show_field.Goals as goal

pub returns-in-Some : goal.returns-in-Some
returns-in-Some c = number_shown c.in-Number.is c.at-walk.ensures c.in-Some.ensures.some

pub returns-in-None : goal.returns-in-None
returns-in-None c = number_missing _ c.in-Number.is c.at-walk.ensures c.in-None.ensures.none

pub returns-in-Octets : goal.returns-in-Octets
returns-in-Octets c = octets_shown _ c.in-Octets.is refl

pub at-requires-clause-named : goal.at-requires-clause-named
at-requires-clause-named c = c.requires.named c.in-Name.is

pub returns-in-Name : goal.returns-in-Name
returns-in-Name c = name_shown _ c.in-Name.is c.at.ensures.message c.at.ensures.offset

pub returns-then-here-end : goal.returns-then-here-end
returns-then-here-end c = string_shown _ c.in-CharacterString.is refl

pub returns-else-here-end : goal.returns-else-here-end
returns-else-here-end c = string_missing _ c.in-CharacterString.is (omega arith)

pub returns-in-CharacterStrings : goal.returns-in-CharacterStrings
returns-in-CharacterStrings c = strings_shown _ c.in-CharacterStrings.is refl

pub returns-in-Rest : goal.returns-in-Rest
returns-in-Rest c = rest_shown _ c.in-Rest.is refl

pub returns-in-Options : goal.returns-in-Options
returns-in-Options c = options_shown _ (omega arith) (omega arith) refl c.in-Options.is

pub returns-in-Parameters : goal.returns-in-Parameters
returns-in-Parameters c = parameters_shown _ (omega arith) (omega arith) refl c.in-Parameters.is

pub returns-in-Bitmap : goal.returns-in-Bitmap
returns-in-Bitmap c = bitmap_shown _ (omega arith) (omega arith) refl c.in-Bitmap.is
