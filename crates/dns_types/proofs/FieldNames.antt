-- The field that a text about a token names.
use Rattle.std.proofs.Common.{◌≡◌, ℕ, ◌+◌, ◌<◌, ◌≤◌, List, ◌++◌, length, drop, codes, sym, ◌∙◌, ap, arith}
use Rattle.std.specs.{Str.Pattern.StripsSuffix, Str.Pattern.FindsTextSuffix, Str.Pattern.LacksTextAt, Str.Pattern.RFindsText, Str.Pattern.SplitsAroundMatch}
use Rattle.std.proofs.Math.Seq.{drop-append_seam}
use Rattle.std.proofs.lemmas.List.{append_assoc, append_cancel_left, append_cancel_right, length-append, take-append-drop}
use Rattle.dns_types.specs.{Errors.NamesField, Errors.IsAbout, declared.error.ParseError.ParseError}
use Rattle.dns_types.specs.declared.error.ParseError.TheVariants as parse

abbrev pub Strips : List ℕ → List ℕ → Type 0
Strips = StripsSuffix (FindsTextSuffix (codes " token"))

-- what is left before ` token`
stripped : (text front : List ℕ) → Strips text front → text ≡ front ++ codes " token"
stripped text front (n, (_, split, _), is, _) = split ∙ ap (λ (x : List ℕ). x ++ codes " token") (sym is)

-- a text that goes on with another has it there
goes_on : (text front behind : List ℕ) → text ≡ front ++ behind → (length front ≤ length text) × (drop (length front) text ≡ behind)
goes_on text front behind e =
    let long : length text ≡ length front + length behind = ap length e ∙ length-append front behind in
    (omega arith, ap (drop (length front)) e ∙ drop-append_seam front behind)

-- without ` in `, it names no field
pub no_field : (text front : List ℕ) → Strips text front → ((i : ℕ) → i ≤ length front → LacksTextAt (codes " in ") front i)
    → (name : List ℕ) → NamesField text name → ⊥
no_field text front strips lacks name is =
    let same : front ≡ is.front ++ codes " in " ++ name =
    append_cancel_right front (is.front ++ codes " in " ++ name) (codes " token") (sym (stripped text front strips) ∙ is.spelled) in
    let on = goes_on front is.front (codes " in " ++ name) (same ∙ append_assoc is.front (codes " in ") name) in
    lacks (length is.front) on.0 name on.1

-- what follows the last ` in ` is the name
pub names_field : (text front before name : List ℕ) → Strips text front → SplitsAroundMatch (RFindsText (codes " in ")) front before name → NamesField text name
names_field text front before name strips (i, j, (none, at), is_before, is_name, ordered, long, all) =
    let cut : front ≡ before ++ codes " in " ++ name =
    sym (take-append-drop i front) ∙ rw (at.split, sym is_before, sym is_name) (sym (append_assoc before (codes " in ") name)) in
    record {
      front = before;
      spelled = stripped text front strips ∙ ap (λ (x : List ℕ). x ++ codes " token") cut;
      last = λ earlier later e.
          let on = goes_on front earlier (codes " in " ++ later) (cut ∙ e ∙ append_assoc earlier (codes " in ") later) in
          no_later (length earlier) (length before) (λ past. none (length earlier) (omega arith) on.0 later on.1);
    }
  where
    no_later : (a b : ℕ) → (b < a → ⊥) → a ≤ b
    no_later a b h = omega (arith, h)

-- a text names one field
one_name : {text a b : List ℕ} → NamesField text a → NamesField text b → a ≡ b
one_name {text} {a} {b} x y =
    let same : x.front ++ codes " in " ++ a ≡ y.front ++ codes " in " ++ b =
    append_cancel_right (x.front ++ codes " in " ++ a) (y.front ++ codes " in " ++ b) (codes " token") (sym x.spelled ∙ y.spelled) in
    let low : length x.front ≤ length y.front = y.last x.front a (sym same) in
    let high : length y.front ≤ length x.front = x.last y.front b same in
    let long : length y.front ≡ length x.front = omega (arith, low, high) in
    let x_on = goes_on text x.front (codes " in " ++ a ++ codes " token") (x.spelled ∙ in_two x.front a) in
    let y_on = goes_on text y.front (codes " in " ++ b ++ codes " token") (y.spelled ∙ in_two y.front b) in
    let on : codes " in " ++ a ++ codes " token" ≡ codes " in " ++ b ++ codes " token" = sym x_on.1 ∙ ap (λ (n : ℕ). drop n text) (sym long) ∙ y_on.1 in
    append_cancel_left (codes " in ") a b (append_cancel_right (codes " in " ++ a) (codes " in " ++ b) (codes " token") on)
  where
    in_two : (front name : List ℕ) → front ++ codes " in " ++ name ++ codes " token" ≡ front ++ (codes " in " ++ name ++ codes " token")
    in_two front name =
        append_assoc (front ++ codes " in ") name (codes " token") ∙ append_assoc front (codes " in ") (name ++ codes " token")
        ∙ ap (λ (s : List ℕ). front ++ s) (sym (append_assoc (codes " in ") name (codes " token")))

-- an error is about one field
pub one_field : (e : ParseError) (a b : List ℕ) → IsAbout e a → IsAbout e b → a ≡ b
one_field (parse.MissingToken missing) a b x y = x ∙ sym y
one_field (parse.Message text) a b x y = one_name x y
one_field e a b x y = absurd x
