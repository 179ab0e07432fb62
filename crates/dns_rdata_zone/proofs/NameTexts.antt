-- Names of zone files.
use Rattle.std.proofs.Common.{◌≡◌, ◌⊎◌, ℕ, false, ◌+◌, List, [], ◌∷◌, ◌++◌, length, Option, Result, Ok, Err, refl, sym, ◌∙◌, ap, subst, codes}
use Rattle.std.proofs.lemmas.List.{append-nil}
use Rattle.std.specs.{Result.IsErrAnd, Prelude.IfOk, Prelude.IfErr}
use Rattle.dns_fields.specs.{Names.IsNameIn, Names.whole, Labels.DomainName, Labels.IsName, Labels.full_name, Labels.wire}
use Rattle.dns_fields.proofs.NameLaws.{name_same}
use Rattle.dns_names_wire.specs.State.{Reading}
use Rattle.dns_types.specs.declared.error.ParseError.{ParseError}
use Rattle.dns_types.specs.declared.error.ParseError.TheVariants as parse
use Rattle.dns_tokens.specs.Reads.{UnlessParseMemory}
use Rattle.dns_tokens.proofs.Steps.{unless_map}
use Rattle.dns_zone_rows.specs.{Rows.RowGives, RowTexts.row_texts, RegistryTexts.no_more, declared.zone_row.ZoneRow.ZoneRow, RowFaults.row_value, RowFaults.RowFault}
use Rattle.dns_zone_tokens.specs.{FieldTexts.name_called, NameTokens.IsNameToken, NameTokens.name_octets, Tokens.Token, Tokens.Cursor, Tokens.tokens_at, Tokens.seen_at, Tokens.seen_from, Tokens.between, Tokens.zone_tokens}
use Rattle.dns_zone_tokens.specs.Remaining.{TookAll, NoneOfAll}
use Rattle.dns_zone_tokens.proofs.FirstSteps.{exit_with, or_then}
use Rattle.dns_rdata_zone.specs.NameTexts.{IsZoneName, IsNoZoneName, ZoneNameFault, name_row}

-- ---- uncompressed octets

whole_name : (y : DomainName) → IsName y → IsNameIn (name_octets y) 0 (full_name y) (0 + length (wire y.labels) + 1)
whole_name y is = record { stands = whole [] is.labels refl refl; fits = is.fits; qualified = refl }

-- the name that is read at the front is the one whose octets they are
pub read_whole : (octets : List ℕ) (old : Reading) (x : DomainName) (end : ℕ) → old ≡ record { message = octets; index = 0 }
    → IsNameIn old.message old.index x end → (y : DomainName) → octets ≡ name_octets y → IsName y → x ≡ full_name y
read_whole octets old x end start is y same name =
    let at : IsNameIn octets 0 x end = subst (λ (o : Reading). IsNameIn o.message o.index x end) start is in
    let there : IsNameIn (name_octets y) 0 x end = subst (λ (s : List ℕ). IsNameIn s 0 x end) same at in
    (name_same there (whole_name y name)).0

-- ---- the tokens of a name

-- there is one token, which is the name with these octets
pub record OneName (origin : Option DomainName) (octets : List ℕ) (tokens : List Token) : Type 0 where
  pub token : Token
  pub alone : tokens ≡ token ∷ []
  pub value : DomainName
  pub is : IsNameToken origin value token
  pub same : octets ≡ name_octets value

one_name : (origin : Option DomainName) (octets : List ℕ) (tokens : List Token) → RowGives origin name_row octets tokens → OneName origin octets tokens
one_name origin octets [] g = absurd g.fields
one_name origin octets (token ∷ tokens) g =
    let f = g.fields in
    record {
      token = token;
      alone = ap (λ (ws : List Token). token ∷ ws) f.others.0;
      value = f.first.value;
      is = f.first.is;
      same = f.same ∙ ap (λ (s : List ℕ). f.front ++ s) f.others.1 ∙ append-nil f.front ∙ f.first.same;
    }

name_given : (origin : Option DomainName) (token : Token) (value : DomainName) → IsNameToken origin value token
    → RowGives origin name_row (name_octets value) (token ∷ [])
name_given origin token value is = record {
  fields = record { front = name_octets value; behind = []; same = sym (append-nil (name_octets value)); first = record { value = value; is = is; same = refl }; others = (refl, refl) };
}

-- ---- what is returned

pub name_found : (r : Result DomainName ParseError) (origin : Option DomainName) (text octets s : List ℕ) (cursor : Cursor)
    → tokens_at cursor ≡ zone_tokens text → s ≡ octets
    → TookAll (RowGives origin name_row) octets cursor → IfOk r (λ x. (y : DomainName) → s ≡ name_octets y → IsName y → x ≡ full_name y)
    → IfOk r (IsZoneName origin text)
name_found (Err e) origin text octets s cursor starts same took h = tt
name_found (Ok x) origin text octets s cursor starts same took h =
    let one = one_name origin octets took.tokens took.value in
    record {
      token = one.token;
      divided = sym starts ∙ took.divided ∙ ap Ok one.alone;
      value = one.value;
      is = one.is;
      same = h one.value (same ∙ one.same) one.is.is_name;
    }

pub name_refused : {T : Type 0} (r : Result T ParseError) (e : ParseError) (origin : Option DomainName) (text : List ℕ) (cursor : Cursor)
    → IsErrAnd r (λ y. y ≡ e)
    → tokens_at cursor ≡ zone_tokens text → UnlessParseMemory e (NoneOfAll (RowGives origin name_row) cursor)
    → IfErr r (λ e. UnlessParseMemory e (IsNoZoneName origin text))
name_refused r e origin text cursor h starts none = exit_with (λ r. IfErr r (λ e. UnlessParseMemory e (IsNoZoneName origin text))) e r h
    (unless_map e (NoneOfAll (RowGives origin name_row) cursor) (IsNoZoneName origin text)
    (λ no. record { none = λ x is. no.none (name_octets is.value) (is.token ∷ []) (starts ∙ is.divided) (name_given origin is.token is.value is.is) }) none)

pub name_fault : {T : Type 0} (r : Result T ParseError) (e : ParseError) (origin : Option DomainName) (text : List ℕ) (zone_row : ZoneRow) (cursor : Cursor)
    → IsErrAnd r (λ y. y ≡ e)
    → tokens_at cursor ≡ zone_tokens text → seen_at cursor ≡ seen_from (between 0 false) text → (e ≡ parse.Memory) ⊎ RowFault origin zone_row cursor e → row_value zone_row ≡ name_row
    → row_texts zone_row ≡ name_called (codes "name") ∷ no_more ∷ []
    → IfErr r (λ e. (e ≡ parse.Memory) ⊎ ZoneNameFault origin text e)
name_fault r e origin text zone_row cursor h starts seen why shape texts =
    exit_with (λ r. IfErr r (λ e. (e ≡ parse.Memory) ⊎ ZoneNameFault origin text e)) e r h
    (or_then (λ fault. record { zone_row = zone_row; shape = shape; texts = texts; cursor = cursor; starts = starts; seen = seen; has = fault }) why)
