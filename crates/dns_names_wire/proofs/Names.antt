-- Names that are read by a decoder and written by an encoder.
use Rattle.std.proofs.Common.{◌≡◌, ℕ, Bool, ◌+◌, ◌<◌, ◌≤◌, length, List, [], Result, Ok, Err, ◌∙◌, ap, sym, arith, subst, refl}
use Rattle.std.proofs.lemmas.List.{append-nil}
use Rattle.std.specs.Result.{OnOk, OnErr, IfErr}
use Rattle.dns_labels.specs.{Messages.Written, Messages.StaysInVector, Labels.AreNameOctets, Labels.name_of}
use Rattle.dns_fields.specs.{declared.RDataEncoding.RDataEncoding, declared.Kind.TheVariants.Name, Fields.field_octets, Names.NameWrote, Names.IsNameIn}
use Rattle.dns_fields.specs.{Labels.DomainName}
use Rattle.dns_fields.proofs.NameLaws.{lowname_length, name_inside}
use Rattle.dns_types.specs.declared.error.ProtoError.{ProtoError}
use Rattle.dns_names_wire.specs.Terms.{NoRoomField, UnfitField, Because, EmitsField, TookField, StaysBehind}
use Rattle.dns_names_wire.specs.State.{Reading, Writing}
use Rattle.dns_names_wire.proofs.FieldWrites.{because_map, within_limit, as_long}

no_room_name : (w : Writing) (octets : List ℕ) (mark : Bool) → AreNameOctets octets → w.limit < length w.octets + (length octets + 1)
    → NoRoomField w Name (name_of octets mark)
unfolding field_octets
no_room_name w octets mark n h = record { full = omega (arith, h, lowname_length (name_of octets mark), ap length n.same) }

-- what an encoder shows of its fields
abbrev pub shown : Written → ℕ → RDataEncoding → Writing
shown m limit mode = record { before = m.before; octets = m.items; limit = limit; mode = mode; target = m.vector }

-- a name that was appended, or rejected, is emitted so
emitted_fields : (a b : Written) (octets : List ℕ) (mark : Bool) (limit : ℕ) (mode : RDataEncoding) (r : Result (Unit {0}) ProtoError)
    → AreNameOctets octets → StaysInVector a b
    → OnOk r ((m : Bool) → NameWrote mode a.items (name_of octets m) b.items) → OnOk r (length b.items ≤ limit) → OnErr r (b.items ≡ a.items)
    → IfErr r (λ e. Because e (limit < length a.items + (length octets + 1)) ⊥)
    → EmitsField Name (name_of octets mark) r (shown a limit mode) (shown b limit mode)
emitted_fields a b octets mark limit mode (Ok x) n stays wrote room same full = record {
  keeps = record {
    before = stays.before;
    limit = refl;
    mode = refl;
    target = stays.vector;
    room = within_limit (shown a limit mode) (shown b limit mode) room;
  };
  field = record { is = wrote mark };
}
emitted_fields a b octets mark limit mode (Err e) n stays wrote room same full = record {
  extends = record {
    keeps = record {
      before = stays.before;
      limit = refl;
      mode = refl;
      target = stays.vector;
      room = as_long (shown a limit mode) (shown b limit mode) (omega (arith, ap length same));
    };
    tail = [];
    octets = same ∙ sym (append-nil a.items);
  };
  why = because_map e _ _ (NoRoomField (shown a limit mode) Name (name_of octets mark)) (UnfitField Name (name_of octets mark))
      (no_room_name (shown a limit mode) octets mark n) absurd full;
}

pub emitted_name : {w : Writing} {a : Written} (b : Written) {limit : ℕ} {mode : RDataEncoding} → shown a limit mode ≡ w → (octets : List ℕ) (mark : Bool)
    (r : Result (Unit {0}) ProtoError) → AreNameOctets octets → StaysInVector a b
    → OnOk r ((m : Bool) → NameWrote mode a.items (name_of octets m) b.items) → OnOk r (length b.items ≤ limit) → OnErr r (b.items ≡ a.items)
    → IfErr r (λ e. Because e (limit < length a.items + (length octets + 1)) ⊥) → EmitsField Name (name_of octets mark) r w (shown b limit mode)
emitted_name {w} {a} b {limit} {mode} v octets mark r n stays wrote room same full =
    subst (λ (x : Writing). EmitsField Name (name_of octets mark) r x (shown b limit mode)) v
    (emitted_fields a b octets mark limit mode r n stays wrote room same full)

-- a name that was taken stands where the decoder was
pub took_name : {old new : Reading} {x : DomainName} → TookField old Name x new → StaysBehind old new × IsNameIn old.message old.index x new.index
took_name f = (record { message = f.message; index = (name_inside f.field.is).0 }, f.field.is)
