-- What is read of a question or a record after its name.
use Rattle.std.specs.Prelude.{ℕ, List}
use Rattle.dns_fields.specs.Labels.{DomainName}
use Rattle.dns_message.specs.declared.{reading.Asked.Asked, reading.FixedFields.FixedFields}
use Rattle.dns_message.specs.{Questions.Question, Questions.IsQuestion, Records.Record, Records.IsRecord}

abbrev pub question_of : ℕ → DomainName → Asked → Question
question_of p name a = record { offset = p; name = name; type = a.query_type; class = a.class }

-- a question is encoded at p, and these are its numbers and its end
pub record IsAsked (m : List ℕ) (p : ℕ) (a : Asked) : Type 0 where
  pub name : DomainName
  pub is : IsQuestion m p (question_of p name a) a.end

abbrev pub record_of : ℕ → DomainName → FixedFields → Record
record_of p owner f = record {
  offset = p;
  owner = owner;
  type = f.record_type;
  class = f.class;
  ttl = f.ttl;
  rdlength = f.rdlength;
  rdata = f.rdata;
}

-- a record is encoded at p, and these are its numbers, the offset of its RDATA, and its end
pub record IsFound (m : List ℕ) (p : ℕ) (f : FixedFields) : Type 0 where
  pub owner : DomainName
  pub is : IsRecord m p (record_of p owner f) f.end
