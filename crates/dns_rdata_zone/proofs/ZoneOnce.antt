-- A text gives at most one value.
use Rattle.std.proofs.Common.{◌≡◌, ℕ, List, [], ◌∷◌, Option, Some, None, Result, Ok, inl, inr, sym, ◌∙◌, subst}
use Rattle.std.specs.Prelude.{length}
use Rattle.hex.specs.declared.error.FromHexError.{FromHexError}
use Rattle.dns_fields.specs.Labels.{DomainName}
use Rattle.dns_rdata.specs.declared.record_data.RData.{RData}
use Rattle.dns_rdata.proofs.DataLaws.{one_value}
use Rattle.dns_types.specs.declared.record_type.RecordType.{RecordType}
use Rattle.dns_zone_rows.specs.{RowTable.zone_row_of, Rows.RowShape}
use Rattle.dns_zone_rows.proofs.Once.{row_once}
use Rattle.dns_zone_tokens.specs.{Remaining.AreUnknown, Tokens.Token, declared.tokens_error.TokensError.TokensError}
use Rattle.dns_rdata_zone.specs.ZoneGives.{AreUnknownData, AreUnmarked, GiveByRow, TokensGive, AreDataOf}
use Rattle.dns_rdata_zone.specs.ZoneReads.{OneGiven}

pub same_tokens : (r : Result (List Token) TokensError) (a b : List Token) → r ≡ Ok a → r ≡ Ok b → a ≡ b
same_tokens r a b e f = let both : ◌≡◌ {A = Result (List Token) TokensError} (Ok a) (Ok b) = sym e ∙ f in cc

same_hex : (r : Result (List ℕ) FromHexError) (a b : List ℕ) → r ≡ Ok a → r ≡ Ok b → a ≡ b
same_hex r a b e f = cc

pub unknown_once : (a b : List ℕ) (tokens : List Token) → AreUnknown a tokens → AreUnknown b tokens → a ≡ b
unknown_once a b [] h k = absurd h
unknown_once a b (first ∷ tokens) h k = same_hex _ a b h.2.digits k.2.digits

pub not_both : (octets : List ℕ) (tokens : List Token) → AreUnknownData octets tokens → AreUnmarked tokens → ⊥
not_both octets [] h k = h
not_both octets (first ∷ tokens) h k = k h.0

data_once : (a b : List ℕ) (tokens : List Token) → AreUnknownData a tokens → AreUnknownData b tokens → a ≡ b
data_once a b [] h k = absurd h
data_once a b (first ∷ tokens) h k = unknown_once a b tokens h.1 k.1

pub by_row_once : (origin : Option DomainName) (zone_row : Option RowShape) (a b : List ℕ) (tokens : List Token) → GiveByRow origin zone_row a tokens
    → GiveByRow origin zone_row b tokens → a ≡ b
by_row_once origin (Some zone_row) a b tokens h k = row_once origin zone_row a b tokens h k
by_row_once origin None a b tokens h k = absurd h

pub tokens_once : (origin : Option DomainName) (t : RecordType) (a b : List ℕ) (tokens : List Token) → TokensGive origin t a tokens
    → TokensGive origin t b tokens → a ≡ b
tokens_once origin t a b tokens (inl h) (inl k) = data_once a b tokens h k
tokens_once origin t a b tokens (inl h) (inr k) = absurd (not_both a tokens h k.0)
tokens_once origin t a b tokens (inr h) (inl k) = absurd (not_both b tokens k h.0)
tokens_once origin t a b tokens (inr h) (inr k) = by_row_once origin (zone_row_of t) a b tokens h.1 k.1

pub data_one : (octets : List ℕ) (t : RecordType) (v w : RData) → AreDataOf octets t v → AreDataOf octets t w → v ≡ w
data_one octets t v w h k = one_value octets 0 (length octets) t v w h.fills k.fills

pub one_given : OneGiven
one_given origin t text v w h k =
    let tokens : k.gives.tokens ≡ h.gives.tokens = same_tokens _ k.gives.tokens h.gives.tokens k.gives.divided h.gives.divided in
    let give : TokensGive origin t k.octets h.gives.tokens = subst (λ (ws : List Token). TokensGive origin t k.octets ws) tokens k.gives.give in
    let octets : h.octets ≡ k.octets = tokens_once origin t h.octets k.octets h.gives.tokens h.gives.give give in
    data_one k.octets t v w (subst (λ (o : List ℕ). AreDataOf o t v) octets h.is_data) k.is_data
