use Rattle.std.proofs.Common.{refl}
use Rattle.dns_check.proofs.FieldEnds.{number_ends, octets_ends, string_ends, other_ends, rest_ends}
use Rattle.dns_check.proofs.fields.field_end.Goals as goal

pub returns-in_default-rule : goal.returns-in_default-rule
returns-in_default-rule c = number_ends _ _ _ _ _ _ _ c.in-Number.is c.in_default-rule.not-KnownFlags c.index-at.ensures.octets c.octets_end.ensures

pub returns-in-KnownFlags : goal.returns-in-KnownFlags
returns-in-KnownFlags c = other_ends _ _ _ _ _ _ c.in-Number.is (λ e. cc) c.message.ensures c.index-at.ensures.offset c.other_end.ensures

pub returns-in-Octets : goal.returns-in-Octets
returns-in-Octets c = octets_ends _ _ _ _ _ _ _ c.in-Octets.is c.octets_end-in-Octets.ensures

pub returns-in_default-rule-2 : goal.returns-in_default-rule-2
returns-in_default-rule-2 c =
    string_ends _ _ _ _ _ _ c.in-CharacterString.is c.in_default-rule-2.not-Letters c.in_default-rule-2.not-Tag c.index-at.ensures.octets c.string_end.ensures

pub returns-in-Letters : goal.returns-in-Letters
returns-in-Letters c = other_ends _ _ _ _ _ _ c.in-CharacterString.is (λ e. cc) c.message-in-Letters.ensures c.index-at.ensures.offset c.other_end-in-Letters.ensures

pub returns-then-at-start : goal.returns-then-at-start
returns-then-at-start c = rest_ends _ _ _ _ _ _ c.in-Rest.is c.index-at.ensures.offset c.requires.before c.if-at-start.true c.octets_end-then-at-start.ensures

pub returns-in_default : goal.returns-in_default
returns-in_default c = other_ends _ _ _ _ _ _ refl c.in_default.not-Name c.message-in_default.ensures c.index-at.ensures.offset c.other_end-in_default.ensures
