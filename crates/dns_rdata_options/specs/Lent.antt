-- What an `OPT` ends as, where its list of options is lent for change.
use denote.RattleType.{RattleType}
use denote.Struct.Tuple.{Tuple}
use Rattle.std.specs.Prelude.{[], ◌∷◌}
use Rattle.std.specs.{Borrow.Lends, Borrow.MutBor, Borrow.Fml, contracts.impls.GlobalAllocator.TheImpl.ghosts}
use Rattle.std.specs.contracts.alloc.Global as global
use Rattle.std.specs.contracts.vec.Vec as vec
use Rattle.dns_rdata_options.specs.contracts.opt.code.EdnsCode as code
use Rattle.dns_rdata_options.specs.contracts.opt.option.EdnsOption as option
use Rattle.dns_rdata_options.specs.contracts.opt.OPT.{the_row}

-- a list of options with their codes, as the logic names the type
abbrev pub list_row : RattleType
list_row = vec.the_row (Tuple (code.the_row ∷ option.the_row ∷ [])) global.the_row ghosts

-- once the list is no longer lent, the record holds what it was left as
abbrev pub LendsOptions : MutBor the_row.Denot → MutBor list_row.Denot → Fml
LendsOptions s r = Lends the_row list_row s r (λ w. w.items)
