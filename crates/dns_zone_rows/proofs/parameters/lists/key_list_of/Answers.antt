use Rattle.std.proofs.Common.{◌≡◌, true, false, sym, subst}
use Rattle.std.specs.List.Sorted.{IsStrictlyIncreasing}
use Rattle.dns_zone_rows.proofs.ParameterValues.{no_rise}
use Rattle.dns_zone_rows.proofs.parameters.lists.key_list_of.Goals as goal

pub returns-then-not-is_rising-clause-reads : goal.returns-then-not-is_rising-clause-reads
returns-then-not-is_rising-clause-reads c =
    no_rise c.args.text.now c.in_ok-keys.keys.items c.sort_unstable.new.self.items c.in_ok-keys.ensures.reads c.sort_unstable.ensures.permutation
    c.sort_unstable.ensures.sorted
    (λ h. let both : false ≡ true = c.if-not-is_rising.ensures.1 (subst IsStrictlyIncreasing (sym c.as_slice.ensures.value) h) in absurd (cc))
