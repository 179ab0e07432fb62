-- Octets of base64 in tokens.
use Rattle.std.proofs.Common.{◌≡◌, ◌⊎◌, ℕ, List, ◌++◌, length, take, drop, Result, Ok, Err, IfErr, OnOk, refl, sym, ◌∙◌, ap, inl, inr}
use Rattle.std.proofs.lemmas.List.{take-append-drop}
use Rattle.base64.specs.{Engines.standard, GeneralPurpose.decode_of as base64_of}
use Rattle.dns_types.specs.declared.error.ParseError.{ParseError}
use Rattle.dns_types.specs.declared.error.ParseError.TheVariants as parse
use Rattle.dns_tokens.specs.Reads.{UnlessParseMemory}
use Rattle.dns_tokens.proofs.Steps.{unless_map, unless_all}
use Rattle.dns_zone_tokens.specs.{Tokens.Cursor}
use Rattle.dns_zone_tokens.specs.Remaining.{joined, AreJoined, AreBase64, TookAll, NoneOfAll, PutsAll}

-- tokens that cannot be joined are no base64
pub no_joined : (e : ParseError) (cursor : Cursor) → UnlessParseMemory e (NoneOfAll AreJoined cursor) → UnlessParseMemory e (NoneOfAll AreBase64 cursor)
no_joined e cursor h = unless_map e (NoneOfAll AreJoined cursor) (NoneOfAll AreBase64 cursor)
    (λ no. record { none = λ v tokens divided is. no.none (joined tokens) tokens divided (record { bare = is.bare; same = refl }) }) h

-- the tokens that were joined are no base64
none_given : {digits : List ℕ} {cursor : Cursor} → TookAll AreJoined digits cursor → ((given : List ℕ) → base64_of standard digits ≡ Ok given → ⊥)
    → NoneOfAll AreBase64 cursor
none_given {digits} took fails = record {
  none = λ v tokens divided is.
      let same : tokens ≡ took.tokens = cc in
      fails v (ap (base64_of standard) (took.value.same ∙ ap joined (sym same)) ∙ is.digits);
}

-- what was decoded of them is appended
pub base64_put : {T : Type 0} (wrong : ParseError) (r : Result T ParseError) (before after digits : List ℕ) {cursor : Cursor}
    → TookAll AreJoined digits cursor
    → OnOk r (base64_of standard digits ≡ Ok (drop (length before) after)) → OnOk r (take (length before) after ≡ before)
    → IfErr r (λ e. (e ≡ parse.Memory) ⊎ ((e ≡ wrong) × ((given : List ℕ) → base64_of standard digits ≡ Ok given → ⊥)))
    → PutsAll AreBase64 r before after cursor
base64_put wrong (Ok x) before after digits took ok kept fails = record {
  tokens = took.tokens;
  divided = took.divided;
  octets = drop (length before) after;
  given = record { bare = took.value.bare; digits = ap (base64_of standard) (sym took.value.same) ∙ ok };
  same = sym (ap (λ (front : List ℕ). front ++ drop (length before) after) (sym kept) ∙ take-append-drop (length before) after);
}
base64_put wrong (Err e) before after digits took ok kept (inl memory) = rw memory tt
base64_put wrong (Err e) before after digits took ok kept (inr (says, fails)) = unless_all e (none_given took fails)
