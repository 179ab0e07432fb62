-- Fields that are written with uncompressed names.
use Rattle.std.proofs.Common.{◌≡◌, ◌≢◌, ◌∙◌, ℕ, List, [], ◌∷◌, ◌++◌, sym, ap, subst, append_assoc, Result, Ok, Err, OnOk}
use Rattle.std.proofs.lemmas.List.{append-nil}
use Rattle.dns_fields.specs.{declared.RDataEncoding.RDataEncoding, declared.RDataEncoding.TheVariants.StandardRecord, declared.RDataEncoding.TheVariants.Other}
use Rattle.dns_fields.specs.Fields.{Value, Values, Wrote, IsWrittenAs, field_octets}
use Rattle.dns_fields.specs.declared.Kind.{Kind, TheVariants.Number, TheVariants.Octets, TheVariants.Name, TheVariants.CharacterString}
use Rattle.dns_fields.specs.declared.Kind.{TheVariants.CharacterStrings, TheVariants.Rest, TheVariants.Options, TheVariants.Parameters, TheVariants.Bitmap}
use Rattle.dns_types.specs.declared.error.ProtoError.{ProtoError}
use Rattle.dns_names_wire.specs.{State.Writing, Terms.EmitsAs}
use Rattle.dns_names_wire.proofs.FieldWrites.{emitted_as}
use Rattle.dns_rdata.specs.{declared.record_data.RData.RData, Data.fields_of, WholeOctets.whole_octets, WholeOctets.all_whole, WholeOctets.whole_data}

other_whole : Other ≢ StandardRecord
other_whole e = absurd cc

-- a field that is written with uncompressed names has its octets there
wrote_field : (m : List ℕ) (k : Kind) (v : Value k) (m' : List ℕ) → IsWrittenAs Other m k v m' → m' ≡ m ++ whole_octets k v
unfolding field_octets
wrote_field m (Number w) v m' h = h.1
wrote_field m (Octets n) v m' h = h.1
wrote_field m Name v m' h = h.whole other_whole
wrote_field m CharacterString v m' h = h.1
wrote_field m CharacterStrings v m' h = h.1
wrote_field m Rest v m' h = h
wrote_field m Options v m' h = h.1
wrote_field m Parameters v m' h = h.2
wrote_field m Bitmap v m' h = h.1

pub wrote_whole : (m : List ℕ) (kinds : List Kind) (vs : Values kinds) (m' : List ℕ) → Wrote Other m kinds vs m' → m' ≡ m ++ all_whole kinds vs
wrote_whole m [] vs m' h = h ∙ sym (append-nil m)
wrote_whole m (k ∷ kinds) vs m' h =
    wrote_whole h.0 kinds vs.1 m' h.2 ∙ ap (λ (l : List ℕ). l ++ all_whole kinds vs.1) (wrote_field m k vs.0 h.0 h.1.is)
    ∙ append_assoc m (whole_octets k vs.0) (all_whole kinds vs.1)

pub emits_whole : (v : RData) (r : Result (Unit {0}) ProtoError) (old new : Writing)
    → EmitsAs Other (fields_of v).kinds (fields_of v).values r old new → OnOk r (new.octets ≡ old.octets ++ whole_data v)
emits_whole v (Ok x) old new h = wrote_whole old.octets (fields_of v).kinds (fields_of v).values new.octets h.fields
emits_whole v (Err e) old new h = tt

-- in the mode for it, and the earlier one put back
pub emitted_whole : (v : RData) (earlier : RDataEncoding) (r : Result (Unit {0}) ProtoError) (old set emitted new : Writing) → earlier ≡ old.mode
    → set ≡ record old { mode = Other }
    → EmitsAs Other (fields_of v).kinds (fields_of v).values r set emitted → new ≡ record emitted { mode = earlier }
    → EmitsAs Other (fields_of v).kinds (fields_of v).values r old new
emitted_whole v earlier r old set emitted new e s h n =
    let kinds = (fields_of v).kinds in
    let mode : set.mode ≡ Other = ap (λ (w : Writing). w.mode) s in
    emitted_as kinds (fields_of v).values Other earlier r old set emitted new e s
    (subst (λ (m : RDataEncoding). EmitsAs m kinds (fields_of v).values r set emitted) (sym mode) h) n
