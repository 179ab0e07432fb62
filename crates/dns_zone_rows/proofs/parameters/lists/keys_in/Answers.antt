use Rattle.std.specs.{List.AllZip, Option.option_copied}
use Rattle.dns_tokens.specs.Reads.{Decides}
use Rattle.dns_zone_rows.specs.ParameterLists.{items_in, IsListedKey}
use Rattle.dns_zone_tokens.proofs.FirstSteps.{exit_with}
use Rattle.dns_zone_rows.proofs.ParameterItems.{one_item, last_item, none_of}
use Rattle.dns_zone_rows.proofs.parameters.lists.keys_in.Goals as goal

pub returns-in_err-key-clause-reads : goal.returns-in_err-key-clause-reads
returns-in_err-key-clause-reads c = exit_with (Decides (AllZip IsListedKey (items_in c.args.text.now)) (λ keys. keys.items)) c.in_err-key.field-0.0 c.from_residual.result c.from_residual.ensures.1
    (none_of IsListedKey c.in_err-key.field-0.0 c.args.text.now c.items.rest.now c.first_item.result.0.now (option_copied c.first_item.result.1) c.items.keys.items
    c.items.invariant c.first_item.ensures.divided c.in_err-key.ensures.reads)

pub items-preserved : goal.items-preserved
items-preserved c =
    one_item IsListedKey c.args.text.now c.items.rest.now c.in-Some.more.now c.first_item.result.0.now c.items.keys.items c.push.new.self.items c.in_ok-key.key
    c.items.invariant (rw c.in-Some.is at c.first_item.ensures.divided) c.in_ok-key.ensures.reads c.in_ok-push.ensures.items

pub returns-in-None-clause-reads : goal.returns-in-None-clause-reads
returns-in-None-clause-reads c =
    last_item IsListedKey c.args.text.now c.items.rest.now c.first_item.result.0.now c.items.keys.items c.push.new.self.items c.in_ok-key.key c.items.invariant
    (rw c.in-None.is at c.first_item.ensures.divided) c.in_ok-key.ensures.reads c.in_ok-push.ensures.items
