use Rattle.std.proofs.Common.{[], ◌∷◌, ◌++◌, refl, ◌∙◌}
use Rattle.std.specs.Option.{option_copied}
use Rattle.dns_tokens.specs.Reads.{Decides}
use Rattle.dns_zone_rows.specs.ParameterLists.{IsItem, IsList}
use Rattle.dns_zone_tokens.proofs.FirstSteps.{exit_with}
use Rattle.dns_zone_rows.proofs.ParameterItems.{one_item, last_item, none_of, no_list, joined_more}
use Rattle.dns_zone_rows.proofs.parameters.lists.list_of.Goals as goal

pub returns-in_err-push_item-clause-reads : goal.returns-in_err-push_item-clause-reads
returns-in_err-push_item-clause-reads c =
    let e = c.in_err-push_item.field-0.0 in
    let text = c.args.text.now in exit_with (Decides (IsList c.args.item text) (λ x. x)) e c.from_residual-in_err-push_item.result c.from_residual-in_err-push_item.ensures.1
    (no_list c.args.item e text (none_of (IsItem c.args.item) e text c.items.rest.now c.first_item.result.0.now (option_copied c.first_item.result.1) c.items.invariant.0
    c.items.invariant.1 c.first_item.ensures.divided c.in_err-push_item.ensures.reads))

pub items-preserved : goal.items-preserved
items-preserved c =
    let parts = c.items.invariant.0 in
    let pushed = c.in_ok-push_item.ensures.reads in (
      parts ++ pushed.part ∷ [],
      one_item (IsItem c.args.item) c.args.text.now c.items.rest.now c.in-Some.more.now c.first_item.result.0.now parts _ pushed.part c.items.invariant.1
          (rw c.in-Some.is at c.first_item.ensures.divided) pushed.is refl,
      joined_more parts pushed.part c.items.octets.items c.push_item.new.octets.items c.items.invariant.2 pushed.same,
    )

pub returns-in-None-clause-reads : goal.returns-in-None-clause-reads
returns-in-None-clause-reads c =
    let parts = c.items.invariant.0 in
    let pushed = c.in_ok-push_item.ensures.reads in record {
      parts = parts ++ pushed.part ∷ [];
      each = last_item (IsItem c.args.item) c.args.text.now c.items.rest.now c.first_item.result.0.now parts _ pushed.part c.items.invariant.1
          (rw c.in-None.is at c.first_item.ensures.divided) pushed.is refl;
      joined = c.from_vec.ensures ∙ joined_more parts pushed.part c.items.octets.items c.push_item.new.octets.items c.items.invariant.2 pushed.same;
    }
