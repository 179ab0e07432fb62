-- The fields that are read of a record are those of every record at its offset.
use Rattle.std.proofs.Common.{◌≡◌, ℕ, List, [], ◌∷◌, ap, subst}
use Rattle.dns_fields.specs.{Fields.Values, Fields.Stands}
use Rattle.dns_fields.specs.declared.Kind.{Kind, TheVariants.Number, TheVariants.Name}
use Rattle.dns_fields.proofs.Laws.{stands_same}
use Rattle.dns_message.specs.Records.{Record, IsRecord}
use Rattle.dns_message.specs.Readings.{IsFound, record_of}
use Rattle.dns_message.specs.declared.reading.FixedFields.{FixedFields}
use Rattle.dns_message.proofs.Fields.{rdata_same}
