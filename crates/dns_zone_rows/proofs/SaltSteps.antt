-- A salt is `-`, or hexadecimal digits.
use Rattle.std.proofs.Common.{◌≡◌, ◌⊎◌, inl, inr, List, ℕ, Result, Ok, Err, IfErr}
use Rattle.dns_fields.specs.Tlvs.{string as string_octets}
use Rattle.dns_types.specs.declared.error.ParseError.{ParseError}
use Rattle.dns_types.specs.declared.error.ParseError.TheVariants as parse
use Rattle.dns_tokens.proofs.Steps.{unless_map}
use Rattle.dns_zone_tokens.specs.{Tokens.Token, ZoneReads.NoValueOf, ZoneReads.PutsAs, ZoneReads.WrongToken}
use Rattle.dns_zone_tokens.proofs.{FirstSteps.or_then, NamePuts.if_err}
use Rattle.dns_zone_rows.specs.Rows.{IsHyphen, hex_string, salt}

no_salt : {token : Token} → (IsHyphen token → ⊥) → NoValueOf hex_string token → NoValueOf salt token
no_salt {token} other lacks = record { none = none }
  where
    none : (octets : List ℕ) → salt.is octets token → ⊥
    none octets (inl is) = other is.0
    none octets (inr is) = lacks.none octets is

pub salt_puts : {T : Type 0} (r : Result T ParseError) (before after : List ℕ) (token : Token) → (IsHyphen token → ⊥)
    → PutsAs hex_string string_octets r before after token → PutsAs salt string_octets r before after token
salt_puts (Ok x) before after token other h = record { value = h.value; is = inr h.is; same = h.same }
salt_puts (Err e) before after token other h = unless_map e (NoValueOf hex_string token) (NoValueOf salt token) (no_salt other) h

pub salt_why : {T : Type 0} (r : Result T ParseError) (wrong : ParseError) (token : Token) → (IsHyphen token → ⊥)
    → IfErr r (λ e. (e ≡ parse.Memory) ⊎ WrongToken hex_string wrong token e) → IfErr r (λ e. (e ≡ parse.Memory) ⊎ WrongToken salt wrong token e)
salt_why r wrong token other = if_err _ _ r (λ e. or_then (λ w. (w.0, no_salt other w.1)))
