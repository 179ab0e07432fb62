use Rattle.std.proofs.Common.{sym, ◌∙◌}
use Rattle.dns_view.proofs.NamesShown.{other_mark, same_lowered}
use Rattle.dns_view.proofs.name.name_ref.NameRef.is_name.Goals as goal

pub returns-then-not-is_fqdn : goal.returns-then-not-is_fqdn
returns-then-not-is_fqdn c = λ x q is. other_mark x c.args.name.now is.qualified (sym c.is_fqdn.ensures ∙ c.if-not-is_fqdn.true)

pub returns : goal.returns
returns c = λ x q is. same_lowered x c.args.name.now _ _ c.eq_ignore_ascii_case.result c.plain_octets-count.ensures.octets (c.plain_octets-count.ensures.labels x q is)
    c.label_octets.ensures.lowercased is.qualified (sym c.is_fqdn.ensures ∙ c.if-not-is_fqdn.false) c.eq_ignore_ascii_case.ensures.test
