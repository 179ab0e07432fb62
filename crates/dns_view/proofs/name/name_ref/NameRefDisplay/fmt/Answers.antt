use Rattle.std.proofs.Common.{◌∙◌, subst}
use Rattle.std.specs.Fmt.{HasWritten}
use Rattle.dns_fields.specs.Labels.{DomainName}
use Rattle.dns_labels.specs.Text.{name_text}
use Rattle.dns_view.proofs.NamesShown.{plain_shown}
use Rattle.dns_view.proofs.name.name_ref.NameRefDisplay.fmt.Goals as goal

pub returns-clause-writes : goal.returns-clause-writes
returns-clause-writes g c = λ plain ok.
    subst (λ (x : DomainName). HasWritten g.W.Write.write_str_gives c.args.f.now (name_text x) c.write.new.self)
    (c.new.ensures ∙ plain_shown _ c.args.self.now.named c.plain_octets-count.ensures.labels) (c.write.ensures.writes plain ok)
