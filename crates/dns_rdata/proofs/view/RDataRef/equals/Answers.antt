use Rattle.std.proofs.Common.{◌∙◌}
use Rattle.dns_rdata.proofs.Views.{view_equal, view_apart}
use Rattle.dns_rdata.proofs.view.RDataRef.equals.Goals as goal

pub returns-in-Some : goal.returns-in-Some
returns-in-Some c = λ m p n t v l q k u w a f b g. c.is_eq.ensures ∙ view_equal v w c.in-Some.order (c.in-Some.ensures m p n t v l q k u w a f b g).1

pub returns-in-None : goal.returns-in-None
returns-in-None c = λ m p n t v l q k u w a f b g. view_apart v w f g (c.in-None.ensures m p n t v l q k u w a f b g)
