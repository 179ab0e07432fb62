use Rattle.std.proofs.Common.{refl}
use Rattle.dns_message.specs.Readings.{record_of}
use Rattle.dns_message.proofs.record_ref.record_at.Goals as goal

pub at-owner-requires-clause-named : goal.at-owner-requires-clause-named
at-owner-requires-clause-named c =
    let has = c.requires.found.is.fields in
    record { name = c.requires.found.owner; end = has.fields.0; is = has.fields.1.is }

pub returns-in-Ok-clause-gives : goal.returns-in-Ok-clause-gives
returns-in-Ok-clause-gives c = record {
  entry = record_of c.args.offset c.requires.found.owner c.args.fixed;
  is = c.requires.found.is;
  item = record {
    section = refl;
    index = refl;
    offset = refl;
    message = c.at-owner.ensures.message;
    owner = c.at-owner.ensures.offset;
    type = c.from-record_type.ensures.0;
    class = refl;
    ttl = refl;
    content = c.in-Ok.ensures.found;
  };
}

pub returns-in-Err-clause-gives : goal.returns-in-Err-clause-gives
returns-in-Err-clause-gives c = record {
  entry = record_of c.args.offset c.requires.found.owner c.args.fixed;
  is = c.requires.found.is;
  item = record { section = refl; index = refl; offset = refl; reason = c.in-Err.reason; fault = refl; rejected = c.in-Err.ensures.refused };
}
