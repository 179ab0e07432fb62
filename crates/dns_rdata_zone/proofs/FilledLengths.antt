-- What was read from a message has few octets.
use Rattle.std.proofs.Common.{◌≡◌, ℕ, suc, ◌+◌, ◌*◌, ◌≤◌, List, [], ◌∷◌, map, length, inl, inr, ◌⊎◌, refl, ap, arith, length-append}
use Rattle.std.specs.{List.flat_map, List.AllByRecursion, List.range_with_len, Int.bytes_high_first}
use Rattle.dns_fields.specs.Fields.{Value, Values, field_octets, Field, Stands, CompleteOptions, TruncatedOptions, option_tlvs}
use Rattle.dns_fields.specs.declared.Kind.{Kind, TheVariants.Number, TheVariants.Octets, TheVariants.Name, TheVariants.CharacterString}
use Rattle.dns_fields.specs.declared.Kind.{TheVariants.CharacterStrings, TheVariants.Rest, TheVariants.Options, TheVariants.Parameters, TheVariants.Bitmap}
use Rattle.dns_fields.specs.Tlvs.{Numbered, tlv, tlvs, as_tlv, AllHeld, OptionValue, Subnet, OpaqueOption, option_octets, OptionHeld, ParameterValue, Mandatory}
use Rattle.dns_fields.specs.{Labels.wire, Bitmaps.Block, Bitmaps.block, Bitmaps.IsBlock, Bitmaps.minimal, Bitmaps.window, Bitmaps.windows, Bitmaps.with_block}
use Rattle.dns_fields.specs.Tlvs.{Alpn, NoDefaultAlpn, Port, Ipv4Hint, Ipv6Hint, Opaque, parameter_octets, ParameterHeld, IsBody}
use Rattle.dns_fields.proofs.{Bitmaps.minimal_fit, FieldLaws.field_inside, Tlvs.length-tlv}
use Rattle.dns_rdata.specs.{Data.fields_of, declared.record_data.RData.RData, WholeOctets.whole_octets, WholeOctets.all_whole}
use Rattle.dns_rdata.specs.declared.record_data.RData.TheVariants as rdata

-- ---- tlvs: a value has no more octets than those that hold it

held_short : {V : Type 0} (Held : ℕ → List ℕ → V → Type 0) (octets : V → List ℕ)
    → ((k : ℕ) (d : List ℕ) (v : V) → Held k d v → length (octets v) ≤ length d)
    → (xs : List (Numbered (List ℕ))) (vs : List (Numbered V)) → AllHeld Held xs vs → length (tlvs (map (as_tlv octets) vs)) ≤ length (tlvs xs)
held_short Held octets own [] [] h = omega arith
held_short Held octets own [] (y ∷ vs) h = absurd h
held_short Held octets own (x ∷ xs) [] h = omega arith
held_short Held octets own (x ∷ xs) (y ∷ vs) h = omega (
  arith,
  own y.0 x.1 y.1 h.1,
  held_short Held octets own xs vs h.2,
  length-tlv x,
  length-tlv (as_tlv octets y),
  length-append (tlv x) (tlvs xs),
  length-append (tlv (as_tlv octets y)) (tlvs (map (as_tlv octets) vs)),
)

option_short : (k : ℕ) (d : List ℕ) (v : OptionValue) → OptionHeld k d v → length (option_octets v) ≤ length d
option_short k d (Subnet f s c a) h = omega (arith, ap length h.3, length-append (option_octets (Subnet f s c a)) h.2)
option_short k d (OpaqueOption s) h = omega (arith, ap length h.1)

pub body_short : (d : List ℕ) (v : ParameterValue) → IsBody d v → length (parameter_octets v) ≤ length d
body_short d (Mandatory keys) h = omega (arith, ap length h)
body_short d (Alpn names) h = omega (arith, ap length h.1)
body_short d NoDefaultAlpn h = omega arith
body_short d (Port n) h = omega (arith, ap length h.1, length-append (bytes_high_first 2 n) h.0)
body_short d (Ipv4Hint a) h = omega (arith, ap length h)
body_short d (Ipv6Hint a) h = omega (arith, ap length h)
body_short d (Opaque s) h = omega (arith, ap length h)

options_short : (m : List ℕ) (p n q : ℕ) (v : List (Numbered OptionValue)) → p ≤ q → CompleteOptions m p v q ⊎ ((v ≡ []) × TruncatedOptions m n p q)
    → p + length (tlvs (option_tlvs v)) ≤ q
options_short m p n q v inside (inl w) = let ends = w.at.ends in omega (arith, ends, held_short OptionHeld option_octets option_short w.read v w.held)
options_short m p n q v inside (inr c) = let none = ap (λ (l : List (Numbered OptionValue)). length (tlvs (option_tlvs l))) c.0 in omega (arith, inside, none)

-- ---- bitmaps: at most 256 windows, of at most 34 octets each

blocks_short : (bs : List Block) → AllByRecursion IsBlock bs → length (flat_map block bs) ≤ 34 * length bs
blocks_short [] h = omega arith
blocks_short (b ∷ bs) h =
    let most = h.0.most in
    omega (arith, most, blocks_short bs h.1, length-append (block b) (flat_map block bs))

one_more : (k : ℕ) (w : List ℕ) (bs : List Block) → length (with_block k w bs) ≤ suc (length bs)
one_more k [] bs = omega arith
one_more k (x ∷ w) bs = omega arith

windows_few : (v ks : List ℕ) → length (windows v ks) ≤ length ks
windows_few v [] = omega arith
windows_few v (k ∷ ks) = omega (arith, one_more k (window v k) (windows v ks), windows_few v ks)

all_windows : length (range_with_len 0 256) ≡ 256
all_windows = refl

bitmap_short : (v : List ℕ) → length (flat_map block (minimal v)) ≤ 8704
bitmap_short v =
    let few : length (minimal v) ≤ 256 = unfold minimal in omega (arith, windows_few v (range_with_len 0 256), all_windows) in
    omega (arith, few, blocks_short (minimal v) (minimal_fit v))

-- ---- fields

field_short : (m : List ℕ) (p : ℕ) (k : Kind) (v : Value k) (q : ℕ) → Field m p k v q → p + length (whole_octets k v) ≤ q + 8704
unfolding field_octets
field_short m p (Number w) v q f = let ends = f.is.1.ends in omega (arith, ends)
field_short m p (Octets n) v q f = let ends = f.is.1.ends in omega (arith, ends)
field_short m p Name v q f =
    let fits = f.is.fits in
    let inside = (field_inside f).0 in
    omega (arith, fits, inside, length-append (wire v.labels) (0 ∷ []))
field_short m p CharacterString v q f = let ends = f.is.1.ends in omega (arith, ends)
field_short m p CharacterStrings v q f = let ends = f.is.1.ends in omega (arith, ends)
field_short m p Rest v q f = let ends = f.is.ends in omega (arith, ends)
field_short m p Options v q f = let inside = (field_inside f).0 in omega (arith, options_short m p _ q v inside f.is)
field_short m p Parameters v q f =
    let ends = f.is.at.ends in
    omega (arith, ends, held_short ParameterHeld parameter_octets (λ k d w h. body_short d w h.2) f.is.read v f.is.held)
field_short m p Bitmap v q f = let inside = (field_inside f).0 in omega (arith, inside, bitmap_short v)

pub all_short : (m : List ℕ) (p : ℕ) (kinds : List Kind) (vs : Values kinds) (e : ℕ) → Stands m p kinds vs e
    → p + length (all_whole kinds vs) ≤ e + 8704 * length kinds
all_short m p [] vs e h = omega (arith, h)
all_short m p (k ∷ kinds) vs e h =
    omega (arith, field_short m p k vs.0 h.0 h.1, all_short m h.0 kinds vs.1 e h.2, length-append (whole_octets k vs.0) (all_whole kinds vs.1))

pub few_fields : (v : RData) → length (fields_of v).kinds ≤ 7
few_fields (rdata.SOA x) = omega arith
few_fields v = omega arith
