-- A value that was read is also the value of its own octets with names uncompressed.
use Rattle.std.proofs.Common.{◌≡◌, ℕ, List, [], ◌∷◌, ◌++◌, map, length, inl, refl, sym, ◌∙◌, ap, subst, append_assoc, length-append, arith}
use Rattle.std.specs.{Int.bytes_high_first, List.flat_map}
use Rattle.std.proofs.lemmas.List.{append-nil, drop_at}
use Rattle.dns_fields.specs.{Labels.wire, Names.LabelsStand.whole, Fields.Value, Fields.Values, Fields.Field, Fields.Stands, Fields.Fits}
use Rattle.dns_fields.specs.declared.Kind.{Kind, TheVariants.Number, TheVariants.Octets, TheVariants.Name, TheVariants.CharacterString}
use Rattle.dns_fields.specs.declared.Kind.{TheVariants.CharacterStrings, TheVariants.Rest, TheVariants.Options, TheVariants.Parameters, TheVariants.Bitmap}
use Rattle.dns_fields.specs.Fields.{Lawful, IsFull, field_octets, option_tlvs, parameter_tlvs, canonical}
use Rattle.dns_fields.specs.Tlvs.{string, tlv, tlvs, OptionHeld, OptionFits, option_octets, ParameterHeld, ParameterFits, parameter_octets}
use Rattle.dns_fields.proofs.{Bitmaps.minimal_stands, FieldLaws.field_append, FieldLaws.field_fits, FieldLaws.field_lawful, FieldLaws.field_full}
use Rattle.dns_fields.proofs.{Tlvs.lawful_held, Tlvs.fit_tlvs, NameOffsets.At-appended, Sorted.octets_cmp, Sorted.flat_map_all, Sorted.length_sorted}
use Rattle.dns_rdata.specs.WholeOctets.{whole_octets, all_whole}
use Rattle.dns_rdata_zone.proofs.Digits.{length_low}

own_field : (front : List ℕ) (k : Kind) (v : Value k) → Fits k v → Lawful k v → IsFull k v
    → Field (front ++ whole_octets k v) (length front) k v (length (front ++ whole_octets k v))
unfolding field_octets
own_field front (Number w) v h l q = record { is = (h, At-appended front (bytes_high_first w v)) }
own_field front (Octets n) v h l q = record { is = (h, At-appended front v) }
own_field front Name v h l q =
    let octets = wire v.labels ++ 0 ∷ [] in
    let size = length-append front octets in
    let labels = length-append (wire v.labels) (0 ∷ []) in
    record {
      is = record {
        stands = whole [] h.labels (drop_at front octets (length front) refl) (omega (arith, size, labels));
        fits = h.fits;
        qualified = q;
      };
    }
own_field front CharacterString v h l q = record { is = (h, At-appended front (string v)) }
own_field front CharacterStrings v h l q = record { is = (h, At-appended front (flat_map string v)) }
own_field front Rest v h l q = record { is = At-appended front v }
own_field front Options v h l q = record {
  is = inl (record {
    read = option_tlvs v;
    at = At-appended front (tlvs (option_tlvs v));
    fit = fit_tlvs OptionHeld option_octets OptionFits (λ x fits. fits.0) v h;
    held = lawful_held OptionHeld option_octets v l;
  });
}
own_field front Parameters v h l q = record {
  is = record {
    read = parameter_tlvs v;
    at = At-appended front (tlvs (parameter_tlvs v));
    fit = fit_tlvs ParameterHeld parameter_octets ParameterFits (λ x fits. fits.0) v h.0;
    held = lawful_held ParameterHeld parameter_octets v l;
    rising = h.1;
  };
}
own_field front Bitmap v h l q = record { is = minimal_stands front v h }

-- fields that are encoded somewhere are encoded in their own octets
pub own_fields : (m : List ℕ) (p : ℕ) (front : List ℕ) (kinds : List Kind) (vs : Values kinds) (e : ℕ) → Stands m p kinds vs e
    → Stands (front ++ all_whole kinds vs) (length front) kinds vs (length (front ++ all_whole kinds vs))
own_fields m p front [] vs e h = ap length (sym (append-nil front))
own_fields m p front (k ∷ kinds) vs e h =
    let own = whole_octets k vs.0 in
    let rest = all_whole kinds vs.1 in
    let all : (front ++ own) ++ rest ≡ front ++ (own ++ rest) = append_assoc front own rest in
    let first = field_append rest (own_field front k vs.0 (field_fits h.1) (field_lawful h.1) (field_full h.1)) in
    let others = own_fields m h.0 (front ++ own) kinds vs.1 e h.2 in (
      length (front ++ own),
      subst (λ (o : List ℕ). Field o (length front) k vs.0 (length (front ++ own))) all first,
      subst (λ (o : List ℕ). Stands o (length (front ++ own)) kinds vs.1 (length o)) all others,
    )

-- ---- as many octets

field_length : (k : Kind) (v : Value k) → length (field_octets k v) ≡ length (whole_octets k v)
unfolding field_octets
field_length Name v = length_low v
field_length Options v = length_sorted octets_cmp (map tlv (option_tlvs v)) ∙ ap length (flat_map_all tlv (option_tlvs v))
field_length (Number w) v = refl
field_length (Octets n) v = refl
field_length CharacterString v = refl
field_length CharacterStrings v = refl
field_length Rest v = refl
field_length Parameters v = refl
field_length Bitmap v = refl

pub same_length : (kinds : List Kind) (vs : Values kinds) → length (canonical kinds vs) ≡ length (all_whole kinds vs)
same_length [] vs = refl
same_length (k ∷ kinds) vs = omega (
  arith,
  field_length k vs.0,
  same_length kinds vs.1,
  length-append (field_octets k vs.0) (canonical kinds vs.1),
  length-append (whole_octets k vs.0) (all_whole kinds vs.1),
)
