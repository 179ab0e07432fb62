-- No error of a row is out of memory, or that of a type that is never read.
use Rattle.std.proofs.Common.{◌≡◌, ◌≢◌, ℕ, ◌-◌, inl, inr, List, [], ◌∷◌, sym, ◌∙◌}
use Rattle.dns_types.specs.declared.error.DecodeError.{DecodeError}
use Rattle.dns_types.specs.declared.error.DecodeError.TheVariants as decode
use Rattle.dns_fields.specs.declared.Kind.{Kind}
use Rattle.dns_fields.specs.declared.Kind.TheVariants.{Number, Octets, Name, CharacterString, CharacterStrings, Rest, Options, Parameters, Bitmap}
use Rattle.dns_fields.specs.Tlvs.{form_for, ParameterForm, Keys, Names, Nothing, PortNumber, Addresses4, Addresses16, AnyOctets}
use Rattle.dns_names_wire.specs.State.{Reading}
use Rattle.dns_rows.specs.{declared.row.Part.Part, declared.row.Rule.Rule}
use Rattle.dns_rows.specs.declared.row.Rule.TheVariants as rules
use Rattle.dns_check.specs.{Checks.IsRowError, Rows.RowFault, Rows.RowError}
use Rattle.dns_check.specs.Parts.{KindFault, NumberFault, StringFault, EndFault, RestFault}
use Rattle.dns_check.specs.{Tags.IsTagError, ParameterValues.IsFormError, ParameterValues.IsKeyError, Parameters.IsParametersError}
use Rattle.dns_check.specs.{Options.IsSubnetError, Options.IsTlvError, Options.IsNextError, Parameters.IsParameterError}

abbrev pub Known : DecodeError → Type 0
Known e = (e ≢ decode.Memory) × ((k : ℕ) → e ≢ decode.UnknownRecordTypeValue k)

known : {e x : DecodeError} → e ≡ x → Known x → Known e
known is k = ((λ m. k.0 (sym is ∙ m)), (λ n m. k.1 n (sym is ∙ m)))

short : {e : DecodeError} → e ≡ decode.InsufficientBytes → Known e
short is = known is ((λ m. cc m), (λ n m. cc m))

length_read : {e : DecodeError} {a b : ℕ} → e ≡ decode.IncorrectRDataLengthRead a b → Known e
length_read is = known is ((λ m. cc m), (λ n m. cc m))

not_utf8 : {e : DecodeError} → e ≡ decode.Utf8 → Known e
not_utf8 is = known is ((λ m. cc m), (λ n m. cc m))

no_value_there : {e : DecodeError} → e ≡ decode.SvcParamMissingValue → Known e
no_value_there is = known is ((λ m. cc m), (λ n m. cc m))

bad_tag : {e : DecodeError} → e ≡ decode.CaaTagInvalid → Known e
bad_tag is = known is ((λ m. cc m), (λ n m. cc m))

tag_known : (used n t : ℕ) (d : Reading) (e : DecodeError) (new : Reading) → IsTagError used n t d e new → Known e
tag_known used n t d e new (inl h) = length_read h.error
tag_known used n t d e new (inr (inl h)) = bad_tag h.error
tag_known used n t d e new (inr (inr (inl h))) = bad_tag h.error
tag_known used n t d e new (inr (inr (inr h))) = short h.error

form_known : (form : ParameterForm) (body : List ℕ) (e : DecodeError) → IsFormError form body e → Known e
form_known Keys body e (inl h) = no_value_there h.0
form_known Keys body e (inr h) = short h.0
form_known Names body e (inl h) = no_value_there h.0
form_known Names body e (inr (inl h)) = short h.0
form_known Names body e (inr (inr h)) = not_utf8 h.0
form_known Nothing body e h = length_read h.0
form_known PortNumber body e h = short h.0
form_known Addresses4 body e h = short h.0
form_known Addresses16 body e h = short h.0
form_known AnyOctets body e h = absurd h

key_known : (key : ℕ) (body : List ℕ) (e : DecodeError) → IsKeyError key body e → Known e
key_known key body e (inl h) = form_known (form_for key) body e h
key_known key body e (inr h) = not_utf8 h.1

parameter_known : (d : Reading) (e : DecodeError) (new : Reading) → IsParameterError d e new → Known e
parameter_known d e new (inl (inl h)) = short h.0
parameter_known d e new (inl (inr (key, between, took, h))) = short h.0
parameter_known d e new (inr (inl h)) = length_read h.error
parameter_known d e new (inr (inr h)) = key_known h.key h.octets e h.refused

parameters_known : (p n : ℕ) (d : Reading) (e : DecodeError) (new : Reading) → IsParametersError p n d e new → Known e
parameters_known p n d e new (inl h) = parameter_known h.between e new h.refused
parameters_known p n d e new (inr (inl h)) = known h.error ((λ m. cc m), (λ n m. cc m))
parameters_known p n d e new (inr (inr h)) = length_read h.error

subnet_known : (s : List ℕ) (e : DecodeError) → IsSubnetError s e → Known e
subnet_known s e (inl h) = short h.error
subnet_known s e (inr (inl h)) = known h.error ((λ m. cc m), (λ n m. cc m))
subnet_known s e (inr (inr (inl h))) = short h.error
subnet_known s e (inr (inr (inr (inl h)))) = length_read h.error
subnet_known s e (inr (inr (inr (inr h)))) = short h.error

tlv_known : (start n : ℕ) (d : Reading) (e : DecodeError) (new : Reading) → IsTlvError start n d e new → Known e
tlv_known start n d e new (inl h) = short h.error
tlv_known start n d e new (inr (inl h)) = short h.error
tlv_known start n d e new (inr (inr (inl h))) = length_read h.error
tlv_known start n d e new (inr (inr (inr (inl h)))) = length_read h.error
tlv_known start n d e new (inr (inr (inr (inr h)))) = short h.error

next_known : (start n : ℕ) (d : Reading) (e : DecodeError) (new : Reading) → IsNextError start n d e new → Known e
next_known start n d e new (inl h) = tlv_known start n d e new h
next_known start n d e new (inr h) = subnet_known h.body e h.refused

number_known : (r : Rule) (w : ℕ) (old : Reading) (e : DecodeError) (new : Reading) → NumberFault r w old e new → Known e
number_known rules.KnownFlags w old e new (inl h) = short h.0
number_known rules.KnownFlags w old e new (inr h) = known h.error ((λ m. cc m), (λ n m. cc m))
number_known r w old e new h = short h.0

string_known : (r : Rule) (start n : ℕ) (old : Reading) (e : DecodeError) (new : Reading) → StringFault r start n old e new → Known e
string_known rules.Tag start n old e new (inl h) = short h.0
string_known rules.Tag start n old e new (inr h) = tag_known (h.between.index - start) n h.size h.between e new h.refused
string_known rules.Letters start n old e new (inl h) = short h.0
string_known rules.Letters start n old e new (inr h) = known h.0 ((λ m. cc m), (λ n m. cc m))
string_known r start n old e new h = short h.0

end_known : (start n : ℕ) (old : Reading) (e : DecodeError) → EndFault start n old e → Known e
end_known start n old e (inl h) = length_read h.0
end_known start n old e (inr h) = short h.0

rest_known : (r : Rule) (start n : ℕ) (old : Reading) (e : DecodeError) → RestFault r start n old e → Known e
rest_known rules.Some start n old e (inl h) = end_known start n old e h
rest_known rules.Some start n old e (inr h) = length_read h.0
rest_known r start n old e h = end_known start n old e h

kind_known : (k : Kind) (r : Rule) (start n : ℕ) (old : Reading) (e : DecodeError) (new : Reading) → KindFault r k start n old e new → Known e
kind_known (Number w) r start n old e new h = number_known r w old e new h
kind_known (Octets w) r start n old e new h = short h.0
kind_known Name r start n old e new h = known h.0 ((λ m. cc m), (λ n m. cc m))
kind_known CharacterString r start n old e new h = string_known r start n old e new h
kind_known CharacterStrings r start n old e new h = short h.0
kind_known Rest r start n old e new h = rest_known r start n old e h.1
kind_known Bitmap r start n old e new (inl h) = end_known start n old e h.1
kind_known Bitmap r start n old e new (inr h) = known h.error ((λ m. cc m), (λ n m. cc m))
kind_known Parameters r start n old e new (inl h) = length_read h.0
kind_known Parameters r start n old e new (inr h) = parameters_known start n old e new h.1
kind_known Options r start n old e new (inl h) = length_read h.0
kind_known Options r start n old e new (inr h) = next_known old.index (n - (old.index - start)) h.1.between e new h.1.next

fault_known : (parts : List Part) (start n : ℕ) (old : Reading) (e : DecodeError) (new : Reading) → RowFault parts start n old e new → Known e
fault_known [] start n old e new h = absurd h
fault_known (p ∷ parts) start n old e new (inl h) = kind_known p.kind p.rule start n old e new h
fault_known (p ∷ parts) start n old e new (inr h) = fault_known parts start n h.1 e new h.5

pub row_known : (parts : List Part) (n : ℕ) (old : Reading) (e : DecodeError) (new : Reading) → RowError parts n old e new → Known e
row_known parts n old e new (inl h) = length_read h.error
row_known parts n old e new (inr h) = fault_known parts old.index n old e new h.1

pub error_known : (parts : List Part) (n : ℕ) (old : Reading) (e : DecodeError) (new : Reading) → IsRowError parts n old e new → Known e
error_known parts n old e new (inl h) = length_read h.1
error_known parts n old e new (inr h) = row_known parts n old e new h.1
