-- Windows of a set, given step by step and written one behind the other.
use Rattle.std.proofs.{lemmas.List.append-nil, lemmas.List.drop_all, lemmas.List.drop-drop, lemmas.List.nil_from_length, Common.append_assoc, Common.sym}
use Rattle.std.proofs.Common.{◌≡◌, ℕ, ◌+◌, ◌%◌, ◌<◌, ◌≤◌, List, [], ◌∷◌, ◌++◌, length, take, drop, length-take-le, length-append, refl, ap, ◌∙◌, arith}
use Rattle.std.specs.List.{flat_map}
use Rattle.dns_fields.specs.{Bitmaps.block, Bitmaps.minimal, Bitmaps.Block, Bitmaps.IsTypeSet, declared.Kind.TheVariants.Number, Fields.field_octets}
use Rattle.dns_fields.specs.{declared.Kind.TheVariants.Bitmap, declared.Kind.TheVariants.Rest}
use Rattle.dns_canonical.specs.Steps.{StepAt, Ended, PassedWindow}
use Rattle.dns_rdata_policy.specs.{Steps.csync_left, Steps.csync_windows, declared.csync.CSYNC.CSYNC}
use Rattle.dns_rdata_policy.proofs.WindowOctets.{minimal_none}
use Rattle.dns_types.specs.declared.error.ProtoError.{ProtoError}
use Rattle.dns_names_wire.specs.{Terms.AppendedField, Terms.StoppedField, State.Writing}
use Rattle.dns_names_wire.proofs.FieldWrites.{keeps_same, keeps_then, extends_then, because_map}

-- the window at an index, in the octets of a head
pub record WindowMade (v : List ℕ) (i number len count : ℕ) (octets head : List ℕ) : Type 0 where
  pub few : len ≤ 32
  pub long : length octets ≡ 32
  pub small : number < 256
  pub next : minimal (drop i v) ≡ (number, take len octets) ∷ minimal (drop count (drop i v))
  pub made : head ≡ (([] ++ field_octets (Number 1) number) ++ field_octets (Number 1) len) ++ take len octets

head_is : {v : List ℕ} {i number len count : ℕ} {octets head : List ℕ} → WindowMade v i number len count octets head
    → head ≡ block (number, take len octets)
unfolding field_octets
head_is {number = number} {len = len} {octets = octets} w =
    let size : length (take len octets) ≡ len = length-take-le len octets (omega (arith, w.few, w.long)) in
    let first : number % 256 ≡ number = omega (arith, w.small) in
    let second : len % 256 ≡ len = omega (arith, w.few) in
    w.made ∙ rw (first, second, size) refl

-- the octets of a head, those of the windows behind it, and how many these are
parted : (v : List ℕ) {i number len count : ℕ} {octets head : List ℕ} → WindowMade v i number len count octets head
    → (flat_map block (minimal (drop i v)) ≡ head ++ flat_map block (minimal (drop (i + count) v))) × (2 ≤ length head)
    × (length (minimal (drop i v)) ≡ length (minimal (drop (i + count) v)) + 1)
parted v {i} {number} {len} {count} {octets} {head} w =
    let next : minimal (drop i v) ≡ (number, take len octets) ∷ minimal (drop (i + count) v) =
    w.next ∙ ap (λ (x : List ℕ). (number, take len octets) ∷ minimal x) (drop-drop count i v) in
    (rw (head_is w) (ap (flat_map block) next), omega (arith, ap length (head_is w)), ap length next ∙ omega arith)

pub window_given : (x : CSYNC) (i number len count j : ℕ) (octets head : List ℕ) → WindowMade x.type_bit_maps i number len count octets head
    → StepAt (csync_left x) 1 i j head (record { tail = []; step = 1; part = i + count; item = 0 })
window_given x i number len count j octets head w =
    let p = parted x.type_bit_maps w in
    record { octets = rw append-nil p.0; after = omega arith; more = omega (arith, p.1, length-append head []); few = omega arith }

-- one pass made it
pub window_passed : (x : CSYNC) (old new i number len count : ℕ) (octets head : List ℕ) → WindowMade x.type_bit_maps i number len count octets head
    → new ≡ old + 1
    → PassedWindow old new (csync_windows x) 1 i head (record { tail = []; step = 1; part = i + count; item = 0 })
window_passed x old new i number len count octets head w pass =
    let p = parted x.type_bit_maps w in
    record { passes = omega (arith, p.2, pass); one = omega (arith, pass); begun = omega (arith, pass, p.1, length-append head []) }

pub window_none : (x : CSYNC) (i j : ℕ) (head : List ℕ) → length x.type_bit_maps ≤ i → head ≡ [] → Ended (csync_left x) 1 i j head
window_none x i j head h e = record {
  octets = ap (λ (l : List ℕ). flat_map block (minimal l)) (drop_all i x.type_bit_maps h) ∙ ap (flat_map block) minimal_none;
  nothing = e;
}

-- ---- written one behind the other

-- the blocks of the numbers in front were written, and the rest is left
pub record LeftWindows (v rest : List ℕ) (old now : Writing) : Type 0 where
  pub written : List ℕ
  pub appended : AppendedField old Rest written now
  pub set : IsTypeSet rest
  pub left : flat_map block (minimal v) ≡ written ++ flat_map block (minimal rest)

pub left_first : {v : List ℕ} (w : Writing) → IsTypeSet v → LeftWindows v v w w
left_first w s =
    let none = sym (append-nil w.octets) in
    record { written = []; appended = record { keeps = keeps_same w; field = record { is = none } }; set = s; left = refl }

-- with a block in front of what is left
left_block : {v rest : List ℕ} {old now : Writing} (b : Block) (more : List ℕ) (f : LeftWindows v rest old now) → minimal rest ≡ b ∷ minimal more
    → flat_map block (minimal v) ≡ (f.written ++ block b) ++ flat_map block (minimal more)
left_block b more f next = f.left ∙ ap (λ bs. f.written ++ flat_map block bs) next
    ∙ sym (append_assoc f.written (block b) (flat_map block (minimal more)))

pub left_next : {v rest : List ℕ} {old now new : Writing} (b : Block) (more : List ℕ) → LeftWindows v rest old now → minimal rest ≡ b ∷ minimal more
    → IsTypeSet more
    → AppendedField now Rest (block b) new → LeftWindows v more old new
left_next {old = old} b more f next set a = record {
  written = f.written ++ block b;
  appended = record {
    keeps = keeps_then f.appended.keeps a.keeps;
    field = record { is = a.field.is ∙ ap (λ s. s ++ block b) f.appended.field.is ∙ append_assoc old.octets f.written (block b) };
  };
  set = set;
  left = left_block b more f next;
}

-- the block is refused
pub left_stopped : {v rest : List ℕ} {old now new : Writing} (error : ProtoError) (b : Block) (more : List ℕ) → LeftWindows v rest old now
    → minimal rest ≡ b ∷ minimal more → StoppedField error now Rest (block b) new → StoppedField error old Bitmap v new
unfolding field_octets
left_stopped error b more f next s =
    let is = ap length f.appended.field.is in
    let whole = ap length (left_block b more f next) in
    record {
      extends = extends_then f.appended s.extends;
      why = because_map error _ _ _ _ (λ n. record { full = omega (arith, n.full, f.appended.keeps.limit, is, whole, length-append {A = ℕ}) })
          (λ u. let e = u.unfit in absurd (cc e)) s.why;
    }

-- no number is left
pub left_none : {v rest : List ℕ} {old now : Writing} → IsTypeSet v → length rest ≡ 0 → LeftWindows v rest old now → AppendedField old Bitmap v now
left_none {v} {rest} {old} set e f =
    let none : minimal rest ≡ [] = ap minimal (nil_from_length rest e) ∙ minimal_none in
    let whole : f.written ≡ flat_map block (minimal v) = sym (f.left ∙ ap (λ bs. f.written ++ flat_map block bs) none ∙ append-nil f.written) in
    record { keeps = f.appended.keeps; field = record { is = (set, f.appended.field.is ∙ ap (λ s. old.octets ++ s) whole) } }
