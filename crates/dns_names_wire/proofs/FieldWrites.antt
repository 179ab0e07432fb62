-- Writing fields one after the other.
use Rattle.std.proofs.Common.{◌≡◌, ℕ, ◌≤◌, List, [], ◌∷◌, ◌++◌, length, refl, sym, ap, ◌∙◌, arith, append_assoc, subst, Result, Ok, Err}
use Rattle.std.proofs.{lemmas.List.length-append, lemmas.List.append-nil, Math.Bool.and-false}
use Rattle.std.specs.Result.{IsErrAnd}
use Rattle.dns_names_wire.specs.{Terms.Stopped, Terms.Emits, Terms.EmitsAs, Terms.EmitsField, State.Writing}
use Rattle.dns_names_wire.specs.Terms.{AppendedField, Appended, Keeps, WithinLimit, Extends, NoRoomField, NoRoom, UnfitField, Unfit, Because, StoppedField}
use Rattle.dns_fields.specs.Fields.{Value, Values, Wrote, is_emittable, canonical, field_octets}
use Rattle.dns_fields.specs.declared.Kind.{Kind, TheVariants.Octets, TheVariants.Rest}
use Rattle.dns_fields.specs.declared.RDataEncoding.{RDataEncoding}
use Rattle.dns_types.specs.declared.error.ProtoError.{ProtoError}
use Rattle.dns_fields.proofs.FieldLaws.{wrote_tail}
use Rattle.dns_types.specs.declared.error.ProtoError.TheVariants as proto

-- octets that end within the limit
pub within_limit : (w e : Writing) → length e.octets ≤ w.limit → WithinLimit w e
within_limit w e h = λ n old limit. omega (arith, h, limit)

-- as many octets as there were
pub as_long : (w e : Writing) → length e.octets ≤ length w.octets → WithinLimit w e
as_long w e h = λ n old limit. omega (arith, h, old)

pub keeps_same : (w : Writing) → Keeps w w
keeps_same w = record { before = refl; limit = refl; mode = refl; target = refl; room = as_long w w (omega arith) }

pub keeps_then : {w b e : Writing} → Keeps w b → Keeps b e → Keeps w e
keeps_then f g = record {
  limit = g.limit ∙ f.limit;
  mode = g.mode ∙ f.mode;
  before = g.before ∙ f.before;
  target = g.target ∙ f.target;
  room = λ n old limit. g.room n (f.room n old limit) (omega (arith, limit, f.limit));
}

pub appended_last : (w : Writing) → Appended w.mode w [] tt w
appended_last w = record { keeps = keeps_same w; fields = refl }

pub appended_then : {w b e : Writing} {k : Kind} {v : Value k} {kinds : List Kind} {vs : Values kinds} → AppendedField w k v b
    → Appended b.mode b kinds vs e → Appended w.mode w (k ∷ kinds) (v, vs) e
appended_then {w} {b} {e} {kinds = kinds} {vs = vs} f g =
    let behind = subst (λ (mode : RDataEncoding). Wrote mode b.octets kinds vs e.octets) f.keeps.mode g.fields in
    record { keeps = keeps_then f.keeps g.keeps; fields = (b.octets, f.field, behind) }

pub extends_then : {w b e : Writing} {k : Kind} {v : Value k} → AppendedField w k v b → Extends b e → Extends w e
extends_then {w} {b} {e} f g =
    let t = wrote_tail f.field in
    let octets = g.octets ∙ ap (λ (x : List ℕ). x ++ g.tail) t.1 ∙ append_assoc w.octets t.0 g.tail in
    record { keeps = keeps_then f.keeps g.keeps; tail = t.0 ++ g.tail; octets = octets }

pub no_room_first : {w : Writing} {k : Kind} {v : Value k} {kinds : List Kind} {vs : Values kinds} → NoRoomField w k v → NoRoom w (k ∷ kinds) (v, vs)
no_room_first {w} {k} {v} {kinds} {vs} n = record { full = omega (arith, n.full, length-append (field_octets k v) (canonical kinds vs)) }

pub no_room_then : {w b : Writing} {k : Kind} {v : Value k} {kinds : List Kind} {vs : Values kinds} → AppendedField w k v b → NoRoom b kinds vs
    → NoRoom w (k ∷ kinds) (v, vs)
no_room_then {w} {b} {k} {v} {kinds} {vs} f n =
    let t = wrote_tail f.field in
    let size = length-append (field_octets k v) (canonical kinds vs) in
    record { full = omega (arith, n.full, f.keeps.limit, t.2, ap length t.1, length-append w.octets t.0, size) }

pub unfit_first : {k : Kind} {v : Value k} {kinds : List Kind} {vs : Values kinds} → UnfitField k v → Unfit (k ∷ kinds) (v, vs)
unfit_first {k} {v} {kinds} {vs} u = record { unfit = rw u.unfit refl }

pub unfit_then : {k : Kind} {v : Value k} {kinds : List Kind} {vs : Values kinds} → Unfit kinds vs → Unfit (k ∷ kinds) (v, vs)
unfit_then {k} {v} {kinds} {vs} u = record { unfit = rw u.unfit (and-false (is_emittable k v)) }

pub because_map : (e : ProtoError) (P Q R S : Type 0) → (P → R) → (Q → S) → Because e P Q → Because e R S
because_map proto.Memory P Q R S f g h = tt
because_map proto.MaxBufferSizeExceeded P Q R S f g h = f h
because_map (proto.Message t) P Q R S f g h = g h
because_map (proto.Decode d) P Q R S f g h = h

pub stopped_first : {e : ProtoError} {w n : Writing} {k : Kind} {v : Value k} {kinds : List Kind} {vs : Values kinds} → StoppedField e w k v n
    → Stopped e w (k ∷ kinds) (v, vs) n
stopped_first {e} s = record { extends = s.extends; why = because_map e _ _ _ _ no_room_first unfit_first s.why }

pub stopped_then : {e : ProtoError} {w b n : Writing} {k : Kind} {v : Value k} {kinds : List Kind} {vs : Values kinds} → AppendedField w k v b
    → Stopped e b kinds vs n → Stopped e w (k ∷ kinds) (v, vs) n
stopped_then {e} f s = record { extends = extends_then f s.extends; why = because_map e _ _ _ _ (no_room_then f) unfit_then s.why }

-- the second field is refused
pub stopped_second : {e : ProtoError} {w b n : Writing} {k j : Kind} {v : Value k} {u : Value j} {kinds : List Kind} {vs : Values kinds}
    → StoppedField e b j u n
    → AppendedField w k v b → Stopped e w (k ∷ j ∷ kinds) (v, (u, vs)) n
stopped_second s f = stopped_then f (stopped_first s)

-- an error on the way, returned by `?`
pub exit_emit : {kinds : List Kind} {vs : Values kinds} {old new : Writing} (r : Result (Unit {0}) ProtoError) (e : ProtoError) → IsErrAnd r (λ y. y ≡ e)
    → Stopped e old kinds vs new → Emits kinds vs r old new
exit_emit (Ok x) e h f = elim h [ ]
exit_emit {kinds = kinds} {vs = vs} {old = old} {new = new} (Err y) e h f = subst (λ (z : ProtoError). Stopped z old kinds vs new) (sym h) f

-- ---- fields behind a field

pub emits_then : {w b : Writing} {k : Kind} {v : Value k} (kinds : List Kind) (vs : Values kinds) (r : Result (Unit {0}) ProtoError) (e : Writing)
    → AppendedField w k v b → Emits kinds vs r b e → Emits (k ∷ kinds) (v, vs) r w e
emits_then kinds vs (Ok x) e f g = appended_then f g
emits_then kinds vs (Err y) e f g = stopped_then f g

-- ---- a record of one field

pub emits_one : (k : Kind) (v : Value k) (r : Result (Unit {0}) ProtoError) (old new : Writing) → EmitsField k v r old new → Emits (k ∷ []) (v, tt) r old new
emits_one k v (Ok x) old new h = record { keeps = h.keeps; fields = (new.octets, h.field, refl) }
emits_one k v (Err e) old new h = stopped_first h

-- octets of a known number are octets
pub octets_emit : (n : ℕ) (s : List ℕ) (r : Result (Unit {0}) ProtoError) (old new : Writing) → length s ≡ n → EmitsField Rest s r old new
    → EmitsField (Octets n) s r old new
unfolding field_octets
octets_emit n s (Ok x) old new e h = record { keeps = h.keeps; field = record { is = (e, h.field.is) } }
octets_emit n s (Err e) old new l h =
    record { extends = h.extends; why = because_map e _ _ _ _ (λ r. record { full = r.full }) (λ u. record { unfit = u.unfit }) h.why }

-- in another mode, and the earlier one put back
mode_back : {mode : RDataEncoding} {old new : Writing} → Keeps (record old { mode = mode }) new → Keeps old (record new { mode = old.mode })
mode_back h = record { before = h.before; limit = h.limit; mode = refl; target = h.target; room = h.room }

in_mode : (kinds : List Kind) (vs : Values kinds) (mode : RDataEncoding) (r : Result (Unit {0}) ProtoError) (old new : Writing)
    → Emits kinds vs r (record old { mode = mode }) new → EmitsAs mode kinds vs r old (record new { mode = old.mode })
in_mode kinds vs mode (Ok x) old new h = record { keeps = mode_back h.keeps; fields = h.fields }
in_mode kinds vs mode (Err e) old new h = record {
  extends = record { keeps = mode_back h.extends.keeps; tail = h.extends.tail; octets = h.extends.octets };
  why = because_map e _ _ _ _ (λ n. record { full = n.full }) (λ u. u) h.why;
}

pub emitted_as : (kinds : List Kind) (vs : Values kinds) (mode earlier : RDataEncoding) (r : Result (Unit {0}) ProtoError) (old set emitted new : Writing)
    → earlier ≡ old.mode → set ≡ record old { mode = mode } → Emits kinds vs r set emitted → new ≡ record emitted { mode = earlier }
    → EmitsAs mode kinds vs r old new
emitted_as kinds vs mode earlier r old set emitted new e s h n =
    let x : Emits kinds vs r (record old { mode = mode }) emitted = subst (λ (w : Writing). Emits kinds vs r w emitted) s h in
    let y : EmitsAs mode kinds vs r old (record emitted { mode = earlier }) =
    subst (λ (m : RDataEncoding). EmitsAs mode kinds vs r old (record emitted { mode = m })) (sym e) (in_mode kinds vs mode r old emitted x) in
    subst (λ (w : Writing). EmitsAs mode kinds vs r old w) (sym n) y

pub ruleset writing = (appended_last, appended_then, exit_emit, stopped_first, stopped_second, stopped_then)

-- ---- what was there stands

pub all_tail : (mode : RDataEncoding) (kinds : List Kind) (vs : Values kinds) (m m' : List ℕ) → Wrote mode m kinds vs m' → (t : List ℕ) × (m' ≡ m ++ t)
all_tail mode [] vs m m' h = ([], h ∙ sym (append-nil m))
all_tail mode (k ∷ kinds) vs m m' h =
    let t = wrote_tail h.1 in
    let u = all_tail mode kinds vs.1 h.0 m' h.2 in
    (t.0 ++ u.0, u.1 ∙ ap (λ (x : List ℕ). x ++ u.0) t.1 ∙ append_assoc m t.0 u.0)

pub emits_extend : (mode : RDataEncoding) (kinds : List Kind) (vs : Values kinds) (r : Result (Unit {0}) ProtoError) (old new : Writing)
    → EmitsAs mode kinds vs r old new → Extends old new
emits_extend mode kinds vs (Ok x) old new h =
    let t = all_tail mode kinds vs old.octets new.octets h.fields in record { keeps = h.keeps; tail = t.0; octets = t.1 }
emits_extend mode kinds vs (Err e) old new h = h.extends
