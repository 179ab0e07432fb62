use Rattle.std.proofs.Common.{ap, length, ◌∙◌}
use Rattle.dns_rdata.proofs.ViewLists.{a_told, aaaa_told, address_none}
use Rattle.dns_rdata.proofs.view.RDataRef.ip_addr.Goals as goal

pub returns-in-A : goal.returns-in-A
returns-in-A c = λ m p n t v is f. a_told is f c.in-A.is (λ a l e. c.ipv4_of.ensures a (ap length (c.octets.ensures m p n t is) ∙ l) (c.octets.ensures m p n t is ∙ e))

pub returns-in-AAAA : goal.returns-in-AAAA
returns-in-AAAA c = λ m p n t v is f. aaaa_told is f c.in-AAAA.is (λ a l e.
    c.ipv6_of.ensures a (ap length (c.octets-in-AAAA.ensures m p n t is) ∙ l) (c.octets-in-AAAA.ensures m p n t is ∙ e))

pub returns-in_default : goal.returns-in_default
returns-in_default c = λ m p n t v is f. address_none is f c.in_default.not-A c.in_default.not-AAAA
