use Rattle.std.proofs.Common.{refl}
use Rattle.dns_message.specs.Readings.{question_of}
use Rattle.dns_message.proofs.question.question_at.Goals as goal

pub at-name-requires-clause-named : goal.at-name-requires-clause-named
at-name-requires-clause-named c =
    let is = c.requires.found.is in
    record { name = c.requires.found.name; end = is.fields.0; is = is.fields.1.is }

pub returns : goal.returns
returns c = record {
  question = question_of c.args.offset c.requires.found.name c.args.asked;
  is = c.requires.found.is;
  shows = record {
    index = refl;
    offset = refl;
    message = c.at-name.ensures.message;
    name = c.at-name.ensures.offset;
    type = c.from-query_type.ensures.0;
    class = refl;
  };
}
