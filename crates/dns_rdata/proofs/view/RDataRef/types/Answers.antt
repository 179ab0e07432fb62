use Rattle.std.proofs.Common.{[], refl, sym, ◌∙◌}
use Rattle.dns_rdata.proofs.ViewLists.{windows_octets, windows_fit, types_listed, types_none}
use Rattle.dns_rdata.proofs.view.RDataRef.types.Goals as goal

pub returns-in-Some-clause-order : goal.returns-in-Some-clause-order
returns-in-Some-clause-order c = λ m p n t is. record {
  csync = λ e windows h. c.of.ensures windows h.fit (c.in-Some.ensures.lookup.0.2 ∙ windows_octets (c.octets.ensures m p n t is) h);
  other = λ ne. absurd (ne (sym is.type ∙ c.in-CSYNC.is));
}

pub returns-in-Some-clause-set : goal.returns-in-Some-clause-set
returns-in-Some-clause-set c = λ m p n t v is f. types_listed c.of.result is f c.in-CSYNC.is
    ((returns-in-Some-clause-order c m p n t is).csync (sym is.type ∙ c.in-CSYNC.is))

pub returns-in-None-clause-order : goal.returns-in-None-clause-order
returns-in-None-clause-order c = λ m p n t is. record {
  csync = λ e windows h. absurd (windows_fit (c.octets.ensures m p n t is) h c.in-None.ensures.lookup.0);
  other = λ ne. absurd (ne (sym is.type ∙ c.in-CSYNC.is));
}

pub returns-in-None-clause-set : goal.returns-in-None-clause-set
returns-in-None-clause-set c = λ m p n t v is f. types_listed c.of-in-None.result is f c.in-CSYNC.is
    ((returns-in-None-clause-order c m p n t is).csync (sym is.type ∙ c.in-CSYNC.is))

pub returns-in_default : goal.returns-in_default
returns-in_default c = let none = c.of-in_default.ensures [] tt refl in record {
  set = λ m p n t v is f. types_none c.of-in_default.result is f c.in_default.not-CSYNC none;
  order = λ m p n t is. record { csync = λ e. absurd (c.in_default.not-CSYNC (is.type ∙ e)); other = λ ne. none };
}
