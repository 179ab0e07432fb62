use Rattle.std.proofs.{Common.rules, Common.◌≡◌, Common.◌++◌, Common.arith, lemmas.List.append-nil}
use Rattle.dns_rdata_service.proofs.ParameterSteps.{item_gives}
use Rattle.dns_rdata_service.proofs.steps.hint_item.Goals as goal

pub returns-clause-item : goal.returns-clause-item
returns-clause-item g c =
    let same : c.octets.new.self ++ c.none.result ≡ g.T.Address.octets c.index-addresses-item.result =
    rw (c.none.ensures, append-nil, c.octets.ensures.value, c.requires.empty) c.to_octets.ensures in (
      item_gives g.T.Address.octets c.args.addresses.now c.args.item c.index-addresses-item.result _ (omega (arith, c.if-item-addresses.false)) c.index-addresses-item.is same,
      search rules,
    )
