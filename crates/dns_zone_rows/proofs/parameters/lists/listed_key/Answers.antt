use Rattle.std.proofs.Common.{sym, ◌∙◌, ap}
use Rattle.dns_rdata_service.specs.SvcParamKey.{key_number}
use Rattle.dns_zone_rows.proofs.KeyNames.{key_once}
use Rattle.dns_zone_rows.proofs.parameters.lists.listed_key.Goals as goal

pub returns-then-number-eq0-clause-reads : goal.returns-then-number-eq0-clause-reads
returns-then-number-eq0-clause-reads c = record {
  none = λ n is. is.other (is.number ∙ ap key_number (key_once is.key c.in-Some.key c.args.item.now is.named c.in-Some.ensures.some) ∙ sym c.number-number.ensures ∙ c.if-number-eq0.true);
}
