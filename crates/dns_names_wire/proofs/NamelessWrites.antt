-- Numbers and octets that are appended at once, and fields behind others.
use Rattle.std.proofs.Common.{◌≡◌, ℕ, ◌<◌, ◌≤◌, ◌%◌, List, [], ◌∷◌, ◌++◌, length, refl, sym, ap, ◌∙◌, arith, append_assoc, subst, Result, Ok, Err}
use Rattle.std.proofs.lemmas.List.{length-append, append-nil}
use Rattle.std.specs.Int.{bytes_high_first}
use Rattle.dns_names_wire.specs.{Terms.AppendedField, Terms.Appended, Terms.WithinLimit, Terms.Stopped, Terms.Emits, Terms.EmitsField, State.Writing}
use Rattle.dns_fields.specs.Fields.{Values, Wrote, WroteField, AllFit, canonical, field_octets}
use Rattle.dns_fields.specs.declared.Kind.{Kind, TheVariants.Number, TheVariants.Octets, TheVariants.CharacterString, TheVariants.Rest}
use Rattle.dns_fields.specs.declared.RDataEncoding.{RDataEncoding}
use Rattle.dns_types.specs.declared.error.ProtoError.{ProtoError}
use Rattle.dns_names_wire.proofs.FieldWrites.{keeps_then, emits_then, because_map, all_tail}
use Rattle.dns_fields.proofs.FieldLaws.{wrote_tail}

-- ---- numbers that are appended as one run of octets

-- kinds whose octets are the same wherever they are written
abbrev pub AreNameless : List Kind → Type 0
AreNameless [] = Unit {0}
AreNameless (Number w ∷ kinds) = AreNameless kinds
AreNameless (Octets n ∷ kinds) = AreNameless kinds
AreNameless (Rest ∷ kinds) = AreNameless kinds
AreNameless (CharacterString ∷ kinds) = AreNameless kinds
AreNameless x = ⊥

nameless_then : (mode : RDataEncoding) (m : List ℕ) (k : Kind) (kinds : List Kind) (vs : Values (k ∷ kinds))
    → WroteField mode m k vs.0 (m ++ field_octets k vs.0)
    → ((next : List ℕ) → Wrote mode next kinds vs.1 (next ++ canonical kinds vs.1)) → Wrote mode m (k ∷ kinds) vs (m ++ canonical (k ∷ kinds) vs)
nameless_then mode m k kinds vs f g =
    let next = m ++ field_octets k vs.0 in
    (next, f, subst (λ (x : List ℕ). Wrote mode next kinds vs.1 x) (append_assoc m (field_octets k vs.0) (canonical kinds vs.1)) (g next))

wrote_nameless : (mode : RDataEncoding) (m : List ℕ) (kinds : List Kind) (vs : Values kinds) → AreNameless kinds → AllFit kinds vs
    → Wrote mode m kinds vs (m ++ canonical kinds vs)
unfolding field_octets
wrote_nameless mode m [] vs p f = append-nil m
wrote_nameless mode m (Number w ∷ kinds) vs p f =
    nameless_then mode m (Number w) kinds vs (record { is = (f.0, refl) }) (λ next. wrote_nameless mode next kinds vs.1 p f.1)
wrote_nameless mode m (Octets n ∷ kinds) vs p f =
    nameless_then mode m (Octets n) kinds vs (record { is = (f.0, refl) }) (λ next. wrote_nameless mode next kinds vs.1 p f.1)
wrote_nameless mode m (Rest ∷ kinds) vs p f = nameless_then mode m Rest kinds vs (record { is = refl }) (λ next. wrote_nameless mode next kinds vs.1 p f.1)
wrote_nameless mode m (CharacterString ∷ kinds) vs p f =
    nameless_then mode m CharacterString kinds vs (record { is = (f.0, refl) }) (λ next. wrote_nameless mode next kinds vs.1 p f.1)
wrote_nameless mode m x vs p f = absurd p

-- the canonical octets of such fields, appended at once, are the fields
pub emits_nameless : (kinds : List Kind) (vs : Values kinds) (s : List ℕ) (r : Result (Unit {0}) ProtoError) (old new : Writing) → AreNameless kinds
    → AllFit kinds vs → s ≡ canonical kinds vs → EmitsField Rest s r old new → Emits kinds vs r old new
unfolding field_octets
emits_nameless kinds vs s (Ok x) old new p f e h =
    record {
      keeps = h.keeps;
      fields = subst (λ (o : List ℕ). Wrote old.mode old.octets kinds vs o)
          (sym (h.field.is ∙ ap (λ (o : List ℕ). old.octets ++ o) e)) (wrote_nameless old.mode old.octets kinds vs p f);
    }
emits_nameless kinds vs s (Err x) old new p f e h =
    record { extends = h.extends; why = because_map x _ _ _ _ (λ r. record { full = rw (← e) r.full }) (λ u. let e = u.unfit in absurd (cc e)) h.why }

-- an octet before others, as the number that it is
pub octet_then : (n : ℕ) (s t : List ℕ) → n < 256 → s ≡ t → n ∷ s ≡ bytes_high_first 1 n ++ t
octet_then n s t h e =
    let small : n ≡ n % 256 = omega (arith, h) in
    ap (λ (x : ℕ). x ∷ s) small ∙ ap (λ (x : List ℕ). n % 256 ∷ x) e

-- the octets of a number before others
pub number_then : (w n : ℕ) (s t : List ℕ) → s ≡ t → bytes_high_first w n ++ s ≡ bytes_high_first w n ++ t
number_then w n s t e = ap (λ (x : List ℕ). bytes_high_first w n ++ x) e

-- the values of fields and of others behind them
abbrev pub joined : (kinds others : List Kind) → Values kinds → Values others → Values (kinds ++ others)
joined [] others vs ws = ws
joined (k ∷ kinds) others vs ws = (vs.0, joined kinds others vs.1 ws)

-- The first of some fields was appended where all of them were, and the others behind it.
first_appended : (k : Kind) (kinds : List Kind) (vs : Values (k ∷ kinds)) (w b : Writing) (f : Appended w.mode w (k ∷ kinds) vs b)
    → AppendedField w k vs.0 (record w { octets = f.fields.0 })
first_appended k kinds vs w b f =
    let t = all_tail w.mode kinds vs.1 f.fields.0 b.octets f.fields.2 in
    let room : WithinLimit w (record w { octets = f.fields.0 }) =
    λ n old limit. omega (arith, f.keeps.room n old limit, ap length t.1, length-append f.fields.0 t.0) in
    record { keeps = record { before = refl; limit = refl; mode = refl; target = refl; room = room }; field = f.fields.1 }

others_appended : (k : Kind) (kinds : List Kind) (vs : Values (k ∷ kinds)) (w b : Writing) (f : Appended w.mode w (k ∷ kinds) vs b)
    → Appended w.mode (record w { octets = f.fields.0 }) kinds vs.1 b
others_appended k kinds vs w b f =
    let t = wrote_tail f.fields.1 in
    let longer : length w.octets ≤ length f.fields.0 = omega (arith, ap length t.1, length-append w.octets t.0) in
    let room : WithinLimit (record w { octets = f.fields.0 }) b = λ n old limit. f.keeps.room n (omega (arith, old, longer)) limit in
    record { keeps = record { before = f.keeps.before; limit = f.keeps.limit; mode = f.keeps.mode; target = f.keeps.target; room = room }; fields = f.fields.2 }

-- fields are emitted, and then others
pub emits_more : (kinds others : List Kind) (vs : Values kinds) (ws : Values others) (r : Result (Unit {0}) ProtoError) (w b n : Writing)
    → Appended w.mode w kinds vs b → Emits others ws r b n → Emits (kinds ++ others) (joined kinds others vs ws) r w n
emits_more [] others vs ws (Ok x) w b n f g =
    let same : Wrote b.mode w.octets others ws n.octets = subst (λ (o : List ℕ). Wrote b.mode o others ws n.octets) f.fields g.fields in
    record { keeps = keeps_then f.keeps g.keeps; fields = subst (λ (mode : RDataEncoding). Wrote mode w.octets others ws n.octets) f.keeps.mode same }
emits_more [] others vs ws (Err e) w b n f g =
    let octets = g.extends.octets ∙ ap (λ (x : List ℕ). x ++ g.extends.tail) f.fields in
    record {
      extends = record { keeps = keeps_then f.keeps g.extends.keeps; tail = g.extends.tail; octets = octets };
      why = because_map e _ _ _ _ (λ r. record { full = omega (arith, r.full, f.keeps.limit, ap length f.fields) }) (λ u. u) g.why;
    }
emits_more (k ∷ kinds) others vs ws r w b n f g =
    emits_then (kinds ++ others) (joined kinds others vs.1 ws) r n (first_appended k kinds vs w b f)
    (emits_more kinds others vs.1 ws r (record w { octets = f.fields.0 }) b n (others_appended k kinds vs w b f) g)

pub stopped_more : (e : ProtoError) (kinds others : List Kind) (vs : Values kinds) (ws : Values others) (w b n : Writing) → Appended w.mode w kinds vs b
    → Stopped e b others ws n → Stopped e w (kinds ++ others) (joined kinds others vs ws) n
stopped_more e kinds others vs ws w b n f g = emits_more kinds others vs ws (Err e) w b n f g
