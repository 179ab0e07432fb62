-- Formats: the fields of RDATA, and what is asked of each.
use Rattle.std.specs.Prelude.{ℕ, List, [], ◌∷◌}
use Rattle.dns_fields.specs.{Fields.Values, Fields.Stands}
use Rattle.dns_rows.specs.{declared.row.Part.Part, Table.kinds_of}
use Rattle.dns_registry.specs.declared.{format.Format.Format, rule.FieldRule.FieldRule}
use Rattle.dns_registry.specs.FieldRules.{Passes}

-- the kinds of the fields, and what is asked of each, as far as something is asked
pub record FormatRow : Type 0 where
  pub parts : List Part
  pub rules : List FieldRule

abbrev pub format_row : List Part → List FieldRule → FormatRow
format_row parts rules = record { parts = parts; rules = rules }

abbrev pub row_of_format : Format → FormatRow
row_of_format f = format_row f.parts.now f.rules.now

-- Of fields that are encoded one after the other from p to e, each is as its rule asks.
abbrev pub AllPass : (m : List ℕ) (p : ℕ) (parts : List Part) (rules : List FieldRule) (vs : Values (kinds_of parts)) (e : ℕ)
    → Stands m p (kinds_of parts) vs e → Type 0
AllPass m p [] rules vs e s = Unit {0}
AllPass m p (part ∷ parts) [] vs e s = Unit {0}
AllPass m p (part ∷ parts) (rule ∷ rules) vs e s = Passes rule m p part.kind vs.0 s.0 × AllPass m s.0 parts rules vs.1 e s.2
