-- The text of a value, by its zone row or as unknown data, gives its octets, and tells them.
use Rattle.std.proofs.Common.{◌≡◌, ◌≢◌, ◌⊎◌, ℕ, ◌^◌, ◌<◌, Bool, true, false, cond, List, [], ◌∷◌, ◌++◌, length, decimal, codes, inl, inr, Option, Some, Result}
use Rattle.std.proofs.Common.{Ok, refl, sym, ◌∙◌, ap, subst, append_assoc, arith}
use Rattle.dns_fields.specs.{Labels.DomainName, Octets.AreOctets}
use Rattle.dns_types.specs.{declared.record_type.RecordType.RecordType}
use Rattle.dns_zone_tokens.specs.{Forms.text, Remaining.AreUnknown, Remaining.joined, declared.tokens_error.TokensError.TokensError}
use Rattle.dns_zone_tokens.specs.Tokens.{Token, between, tokens_read_from}
use Rattle.hex.specs.{Hex.encode_lower, Hex.decode_of as hex_of, declared.error.FromHexError.FromHexError}
use Rattle.hex.proofs.HexLemmas.{decode_of-encode_lower}
use Rattle.dns_zone_rows.proofs.Once.{row_once}
use Rattle.dns_zone_rows.specs.{RowTable.zone_row_of, Rows.RowShape, Rows.RowGives}
use Rattle.dns_rdata_zone.specs.{Generic.generic, Tokens.in_tokens, Printable.ArePrintable, ZoneGives.GiveByRow, ZoneGives.AreUnmarked, ZoneGives.TextGives}
use Rattle.dns_rdata_zone.proofs.{TokenForms.number_form, RestForms.hex_form, RestForms.hex_none, RestForms.hex_run, RestForms.hex_some}
use Rattle.dns_rdata_zone.proofs.RowForms.{RowText, bytes_of, decimal_run, decimal_some}
use Rattle.dns_rdata_zone.proofs.TokenTokens.{digit_tokens, tokens_divided, tokens_joined}
use Rattle.dns_rdata_zone.proofs.Dividing.{AreDivided, divided_then, bare_token, plain_divided, bare_divided, mark_begins}

-- ---- unknown data

mark_divided : AreDivided (92 ∷ 35 ∷ []) (bare_token (92 ∷ 35 ∷ []) ∷ [])
mark_divided = bare_divided (92 ∷ 35 ∷ []) mark_begins ((omega arith, omega arith), ((omega arith, omega arith), tt))

-- length and digits
unknown_divided : (s : List ℕ) → s ≢ [] → AreOctets s → length s < 2 ^ 64
    → AreDivided (decimal (length s) ++ 32 ∷ in_tokens (encode_lower s)) (bare_token (decimal (length s)) ∷ digit_tokens (encode_lower s))
unknown_divided s some h small =
    divided_then (plain_divided (decimal (length s)) (decimal_some (length s) small) (decimal_run (length s) small)) (tokens_divided (encode_lower s) (hex_some s some) (hex_run s h))

generic_is : (d e : List ℕ) → codes "\\# " ++ d ++ codes " " ++ e ≡ (92 ∷ 35 ∷ []) ++ 32 ∷ (d ++ 32 ∷ e)
generic_is d e = simp append_assoc

-- the tokens after `\#`
abbrev pub unknown_tokens : List ℕ → List Token
unknown_tokens [] = bare_token (codes "0") ∷ []
unknown_tokens (c ∷ s) = bare_token (decimal (length (c ∷ s))) ∷ digit_tokens (encode_lower (c ∷ s))

pub generic_divided : (s : List ℕ) → AreOctets s → length s < 2 ^ 64 → AreDivided (generic s) (bare_token (92 ∷ 35 ∷ []) ∷ unknown_tokens s)
generic_divided [] h small = divided_then mark_divided (plain_divided (codes "0") (λ e. absurd (cc e)) (refl, tt))
generic_divided (c ∷ s) h small =
    subst (λ (t : List ℕ). AreDivided t (bare_token (92 ∷ 35 ∷ []) ∷ unknown_tokens (c ∷ s))) (sym (generic_is (decimal (length (c ∷ s))) (in_tokens (encode_lower (c ∷ s)))))
    (divided_then mark_divided (unknown_divided (c ∷ s) (λ e. absurd (cc e)) h small))

unknown_are : (s : List ℕ) → AreOctets s → length s < 2 ^ 16 → AreUnknown s (unknown_tokens s)
unknown_are [] h small = (record { bare = refl; digits = (omega arith, (omega arith, tt)); value = refl }, omega arith, record { bare = tt; digits = hex_none })
unknown_are (c ∷ s) h small = ((number_form 2 (length (c ∷ s)) (omega (arith, small)) (omega (arith, small))).0, small, hex_form (c ∷ s) h)

pub unknown_text : (origin : Option DomainName) (t : RecordType) (s : List ℕ) → AreOctets s → length s < 2 ^ 16 → TextGives origin t s (generic s)
unknown_text origin t s h small = record {
  tokens = bare_token (92 ∷ 35 ∷ []) ∷ unknown_tokens s;
  divided = (generic_divided s h (omega (arith, small))).last;
  give = inl (record { bare = refl; octets = refl }, unknown_are s h small);
}

-- ---- the unknown-data form tells its octets

-- the octets of the tokens after the first, one after the other
behind_first : List Token → List ℕ
behind_first [] = []
behind_first (x ∷ tokens) = joined tokens

same_tokens : (a b : List Token) → ◌≡◌ {A = Result (List Token) TokensError} (Ok a) (Ok b) → a ≡ b
same_tokens a b e = cc e

both_none : (s : List ℕ) → bare_token (codes "0") ∷ [] ≡ unknown_tokens s → [] ≡ s
unfolding behind_first
both_none [] e = refl
both_none (c ∷ s) e = absurd (hex_some (c ∷ s) (λ f. absurd (cc f)) (sym (ap behind_first e ∙ tokens_joined (encode_lower (c ∷ s)))))

behind_same : (a b : List ℕ) → AreOctets a → AreOctets b → unknown_tokens a ≡ unknown_tokens b → a ≡ b
unfolding behind_first
behind_same [] b h k e = both_none b e
behind_same (c ∷ s) [] h k e = sym (both_none (c ∷ s) (sym e))
behind_same (c ∷ s) (d ∷ u) h k e =
    let digits : encode_lower (c ∷ s) ≡ encode_lower (d ∷ u) =
    sym (tokens_joined (encode_lower (c ∷ s))) ∙ ap behind_first e ∙ tokens_joined (encode_lower (d ∷ u)) in
    same_ok (c ∷ s) (d ∷ u) (sym (decode_of-encode_lower (c ∷ s) (bytes_of (c ∷ s) h)) ∙ ap hex_of digits ∙ decode_of-encode_lower (d ∷ u) (bytes_of (d ∷ u) k)) where
      same_ok : (x y : List ℕ) → ◌≡◌ {A = Result (List ℕ) FromHexError} (Ok x) (Ok y) → x ≡ y
      same_ok x y f = cc f

rest_of : List Token → List Token
rest_of [] = []
rest_of (x ∷ tokens) = tokens

pub generic_same : (a b : List ℕ) → AreOctets a → AreOctets b → length a < 2 ^ 64 → length b < 2 ^ 64 → generic a ≡ generic b → a ≡ b
unfolding rest_of
generic_same a b h k small fits e =
    let tokens = same_tokens _ _ (sym (generic_divided a h small).last ∙ ap (tokens_read_from (between 0 false)) e ∙ (generic_divided b k fits).last) in
    behind_same a b h k (ap rest_of tokens)

-- ---- a zone row's text

-- the text is that of a zone row of the type, and gives these octets
pub record OwnText (origin : Option DomainName) (t : RecordType) (text octets : List ℕ) : Type 0 where
  pub zone_row : RowShape
  pub of : zone_row_of t ≡ Some zone_row
  pub reads : RowText origin zone_row.fields zone_row.rest text octets

pub own_gives : {origin : Option DomainName} {t : RecordType} {text octets : List ℕ} → OwnText origin t text octets → TextGives origin t octets text
own_gives {origin = origin} {octets = octets} h = record {
  tokens = h.reads.tokens;
  divided = h.reads.divided.last;
  give = inr (h.reads.unmarked, subst (λ (r : Option RowShape). GiveByRow origin r octets h.reads.tokens) (sym h.of) (record { fields = h.reads.gives }));
}

same_row : (o : Option RowShape) (a b : RowShape) → o ≡ Some a → o ≡ Some b → a ≡ b
same_row o a b e f = cc

-- two texts of a type that are the same
pub own_same : {origin : Option DomainName} {t : RecordType} {a b x y : List ℕ} → OwnText origin t a x → OwnText origin t b y → a ≡ b → x ≡ y
own_same {origin = origin} {t = t} {x = x} {y = y} h k e =
    let zone_row : k.zone_row ≡ h.zone_row = same_row (zone_row_of t) k.zone_row h.zone_row k.of h.of in
    let tokens : k.reads.tokens ≡ h.reads.tokens =
    same_tokens _ _ (sym k.reads.divided.last ∙ ap (tokens_read_from (between 0 false)) (sym e) ∙ h.reads.divided.last) in
    let gives : RowGives origin h.zone_row y h.reads.tokens =
    subst (λ (ws : List Token). RowGives origin h.zone_row y ws) tokens (subst (λ (r : RowShape). RowGives origin r y k.reads.tokens) zone_row (record { fields = k.reads.gives })) in
    row_once origin h.zone_row x y h.reads.tokens (record { fields = h.reads.gives }) gives

mark_not : (tokens rest : List Token) → tokens ≡ bare_token (92 ∷ 35 ∷ []) ∷ rest → AreUnmarked tokens → ⊥
mark_not tokens rest e h = (subst AreUnmarked e h) (record { bare = refl; octets = refl })

-- a text of a zone row is not in the unknown-data form
pub own_not_generic : {origin : Option DomainName} {t : RecordType} {a x : List ℕ} (s : List ℕ) → OwnText origin t a x → AreOctets s → length s < 2 ^ 64
    → a ≡ generic s → ⊥
own_not_generic s h k small e =
    mark_not h.reads.tokens (unknown_tokens s) (same_tokens _ _ (sym h.reads.divided.last ∙ ap (tokens_read_from (between 0 false)) e ∙ (generic_divided s k small).last)) h.reads.unmarked

-- ---- a text of either form

abbrev pub TextIs : Option DomainName → RecordType → List ℕ → List ℕ → Type 0
TextIs origin t text octets = (text ≡ generic octets) ⊎ OwnText origin t text octets

pub text_gives : {origin : Option DomainName} {t : RecordType} {text octets : List ℕ} → AreOctets octets → length octets < 2 ^ 16 → TextIs origin t text octets
    → TextGives origin t octets text
text_gives {origin = origin} {t = t} {octets = octets} h small (inl e) =
    subst (λ (s : List ℕ). TextGives origin t octets s) (sym e) (unknown_text origin t octets h small)
text_gives h small (inr own) = own_gives own

pub text_same : {origin : Option DomainName} {t : RecordType} {a b x y : List ℕ} → AreOctets x → AreOctets y → length x < 2 ^ 64 → length y < 2 ^ 64
    → TextIs origin t a x → TextIs origin t b y → a ≡ b → x ≡ y
text_same {x = x} {y = y} h k small fits (inl e) (inl f) same = generic_same x y h k small fits (sym e ∙ same ∙ f)
text_same {x = x} h k small fits (inl e) (inr own) same = absurd (own_not_generic x own h small (sym same ∙ e))
text_same {y = y} h k small fits (inr own) (inl f) same = absurd (own_not_generic y own k fits (same ∙ f))
text_same h k small fits (inr own) (inr other) same = own_same own other same

-- either is printable
pub text_printable : {origin : Option DomainName} {t : RecordType} {text octets : List ℕ} → AreOctets octets → length octets < 2 ^ 64
    → TextIs origin t text octets → ArePrintable text
text_printable {octets = octets} h small (inl e) = subst ArePrintable (sym e) (generic_divided octets h small).printable
text_printable h small (inr own) = own.reads.divided.printable

-- one of two texts
pub one_of : {origin : Option DomainName} {t : RecordType} (b : Bool) {own other octets : List ℕ} → (b ≡ true → OwnText origin t own octets)
    → other ≡ generic octets
    → TextIs origin t (cond b own other) octets
one_of true h e = inr (h refl)
one_of false h e = inl e
