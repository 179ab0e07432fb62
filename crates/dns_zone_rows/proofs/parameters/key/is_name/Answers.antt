use Rattle.dns_zone_rows.proofs.KeyNames.{number_name, name_shortest}
use Rattle.dns_zone_rows.proofs.parameters.key.is_name.Goals as goal

pub returns-in-Key : goal.returns-in-Key
returns-in-Key c = rw c.in-Key.is (
  λ t. number_name _ c.args.text.now (rw c.in-Key.is at c.requires) (c.is_shortest.ensures.0 t),
  λ name. c.is_shortest.ensures.1 (name_shortest _ c.args.text.now name),
)
