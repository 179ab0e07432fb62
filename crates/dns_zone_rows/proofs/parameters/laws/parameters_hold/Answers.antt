use Rattle.dns_zone_rows.proofs.{OneReading.one_reading, WrittenLists.names_read, WrittenLists.plain_items_read, WrittenTokens.tokens_read}
use Rattle.dns_zone_rows.proofs.parameters.laws.parameters_hold.Goals as goal

pub returns : goal.returns
returns c = record { one = one_reading; tokens = tokens_read; names = names_read; items = plain_items_read }
