-- The lowered form is the canonical one.
use Rattle.std.proofs.Common.{◌≡◌, true, List, [], ◌∷◌, refl}
use Rattle.dns_fields.specs.declared.Kind.{Kind}
use Rattle.dns_fields.specs.declared.Kind.TheVariants.{Number, Octets, Name, CharacterString, CharacterStrings, Rest, Options, Parameters, Bitmap}
use Rattle.dns_fields.specs.Fields.{Value, Values, field_octets, canonical}
use Rattle.dns_view.specs.Putting.{form_octets, all_form}

pub form_field : (k : Kind) (v : Value k) → form_octets true k v ≡ field_octets k v
unfolding field_octets
form_field (Number w) v = refl
form_field (Octets n) v = refl
form_field Name v = refl
form_field CharacterString v = refl
form_field CharacterStrings v = refl
form_field Rest v = refl
form_field Options v = refl
form_field Parameters v = refl
form_field Bitmap v = refl

pub form_canonical : (kinds : List Kind) (vs : Values kinds) → all_form true kinds vs ≡ canonical kinds vs
form_canonical [] vs = refl
form_canonical (k ∷ kinds) vs = rw (form_field k vs.0, form_canonical kinds vs.1) refl
