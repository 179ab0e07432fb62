use Rattle.std.proofs.Common.{sym, ◌∙◌}
use Rattle.dns_rdata.proofs.Views.{view_compared}
use Rattle.dns_rdata.proofs.view.RDataRef.compare.Goals as goal

pub returns-then-eq : goal.returns-then-eq
returns-then-eq c = λ m p n t v l q k u w a f b g.
    let e = sym a.type ∙ c.eq.ensures.exact.0 c.if-eq.true ∙ b.type in
    (e, view_compared m l p n q k t u v w c.args.self.now c.args.other.now c.compare.result a f b g e c.compare.ensures)
