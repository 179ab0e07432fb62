-- Values of issuer properties: read, and written.
use Rattle.std.proofs.Common.{◌≡◌, ◌≢◌, ℕ, Bool, inl, inr, List, [], ◌∷◌, ◌++◌, Option, Some, None, refl, ap, sym, subst, arith}
use Rattle.std.proofs.lemmas.Str.{IsUtf8-nil, IsUtf8-from_ascii, IsAscii-append, Ascii.IsAscii-nil, Ascii.IsAscii-cons}
use Rattle.std.specs.{List.AllByRecursion, Str.IsAscii, Str.IsUtf8}
use Rattle.dns_types.specs.declared.error.ProtoError.{ProtoError}
use Rattle.dns_fields.specs.Labels.{DomainName}
use Rattle.dns_labels.specs.Text.{IsNameText, OctetText, LabelText, LabelsText, MarkedText, name_text, LabelText.no_octet, LabelText.octet}
use Rattle.dns_labels.specs.Text.{OctetText.plain, OctetText.decimal, OctetText.quoted, LabelsText.last, LabelsText.dotted, LabelsText.joined}
use Rattle.dns_labels.specs.Text.MarkedText.{root, nothing, labelled}
use Rattle.dns_labels.proofs.NameTexts.{one_name, name_reads}
use Rattle.dns_tokens.specs.Octets.{AllOf, Span}
use Rattle.dns_tokens.proofs.TokenSteps.{span_one}
use Rattle.dns_names_wire.specs.NameValues.{IsTextError}
use Rattle.dns_rdata_policy.specs.Issuer.{Parameter, is_no_semicolon, IsParameter, IsNamed, IsWritable, parameter_octets, AreParameters}
use Rattle.dns_rdata_policy.specs.Issuer.{IsIssuerName, IsNameError, IsIssuer, IsIssuerError, parameters_text, issuer_value}
use Rattle.dns_rdata_policy.proofs.IssuerSteps.{Follow, follow_alone, alone_follow, follow_stops, one_list}
use Rattle.dns_types.specs.declared.error.ProtoError.TheVariants as proto

pub issuer_read : (octets front rest : List ℕ) (name : Option DomainName) (xs : List Parameter) → Span is_no_semicolon front octets rest
    → IsIssuerName front name → AreParameters rest xs → IsIssuer octets name xs
issuer_read octets front rest name xs s n h = record { front = front; rest = rest; splits = s; is_name = n; parameters = alone_follow rest xs s.ends h }

name_utf8 : (front : List ℕ) (name : Option DomainName) → IsIssuerName front name → IsUtf8 front
name_utf8 front None h = subst (λ (l : List ℕ). IsUtf8 l) (sym h) IsUtf8-nil
name_utf8 front (Some name) h = h.1

no_text : (front : List ℕ) (name : Option DomainName) → front ≢ [] → ((x : DomainName) → IsNameText x front → ⊥) → IsIssuerName front name → ⊥
no_text front None some none h = some h
no_text front (Some name) some none h = none name h.2

-- what an issuer has where the octets are cut
of_issuer : (octets front rest : List ℕ) (name : Option DomainName) (xs : List Parameter) → Span is_no_semicolon front octets rest
    → IsIssuer octets name xs
    → IsIssuerName front name × AreParameters rest xs
of_issuer octets front rest name xs s i =
    let same = span_one i.splits s in (
      subst (λ (l : List ℕ). IsIssuerName l name) same.0 i.is_name,
      subst (λ (l : List ℕ). AreParameters l xs) same.1
          (follow_alone i.rest xs i.parameters),
    )

-- the name is refused
pub name_stop : (octets front rest : List ℕ) (e : ProtoError) → Span is_no_semicolon front octets rest → IsNameError front e → IsIssuerError octets e
name_stop octets front rest proto.Memory s h = tt
name_stop octets front rest (proto.Decode d) s h = (
  h.0,
  λ name xs i. h.1 (name_utf8 front name (of_issuer octets front rest name xs s i).0),
  λ f r t u. h.1 (subst (λ (l : List ℕ). IsUtf8 l) (span_one t s).0 u),
)
name_stop octets front rest (proto.Message t) s h = (
  λ name xs i. no_text front name h.1 h.2 (of_issuer octets front rest name xs s i).0,
  λ f r t. subst (λ (l : List ℕ). IsUtf8 l) (span_one s t).0 h.0,
)
name_stop octets front rest e s h = absurd h

-- the parameters are refused
pub parameters_stop : (octets front rest : List ℕ) (name : Option DomainName) (e : ProtoError) → Span is_no_semicolon front octets rest
    → IsIssuerName front name → IsTextError e ((xs : List Parameter) → AreParameters rest xs → ⊥) → IsIssuerError octets e
parameters_stop octets front rest name proto.Memory s n h = tt
parameters_stop octets front rest name (proto.Message t) s n h = (
  λ other xs i. h xs (of_issuer octets front rest other xs s i).1,
  λ f r t. subst (λ (l : List ℕ). IsUtf8 l) (span_one s t).0 (name_utf8 front name n),
)
parameters_stop octets front rest name e s n h = absurd h

-- ---- at most one name and list

one_issuer_name : (front : List ℕ) (a b : Option DomainName) → IsIssuerName front a → IsIssuerName front b → a ≡ b
one_issuer_name front None None h k = refl
one_issuer_name front None (Some y) h k = absurd (k.0 h)
one_issuer_name front (Some x) None h k = absurd (h.0 k)
one_issuer_name front (Some x) (Some y) h k = ap (λ (z : DomainName). Some z) (one_name front x y h.2 k.2)

pub one_issuer : (octets : List ℕ) (a b : Option DomainName) (xs ys : List Parameter) → IsIssuer octets a xs → IsIssuer octets b ys → (a ≡ b) × (xs ≡ ys)
one_issuer octets a b xs ys h k =
    let p = of_issuer octets k.front k.rest a xs k.splits h in
    (one_issuer_name k.front a b p.0 k.is_name, one_list k.rest xs ys p.1 (follow_alone k.rest ys k.parameters))

-- ---- what is written

octet_ascii : {n : ℕ} {text : List ℕ} → OctetText n text → IsAscii text
octet_ascii {n} (plain g a b) = IsAscii-cons n [] (omega (arith, g.1)) IsAscii-nil
octet_ascii {n} (quoted g a) = IsAscii-cons 92 (n ∷ []) (omega arith) (IsAscii-cons n [] (omega (arith, g.1)) IsAscii-nil)
octet_ascii (decimal h t o a b c d e) = search (arith, IsAscii-cons, IsAscii-nil)

label_ascii : {label text : List ℕ} → LabelText label text → IsAscii text
label_ascii no_octet = IsAscii-nil
label_ascii (octet front rest o l e) = rw e (IsAscii-append front rest (octet_ascii o) (label_ascii l))

labels_ascii : {labels : List (List ℕ)} {mark : Bool} {text : List ℕ} → LabelsText labels mark text → IsAscii text
labels_ascii (last l) = label_ascii l
labels_ascii (dotted front l e) = rw e (IsAscii-append front (46 ∷ []) (label_ascii l) (IsAscii-cons 46 [] (omega arith) IsAscii-nil))
labels_ascii (joined front rest l more e) =
    rw e (IsAscii-append front (46 ∷ rest) (label_ascii l) (IsAscii-cons 46 rest (omega arith) (labels_ascii more)))

text_utf8 : {labels : List (List ℕ)} {mark : Bool} {text : List ℕ} → MarkedText labels mark text → IsUtf8 text
text_utf8 root = IsUtf8-from_ascii (46 ∷ []) (IsAscii-cons 46 [] (omega arith) IsAscii-nil)
text_utf8 nothing = IsUtf8-nil
text_utf8 {text = text} (labelled l) = IsUtf8-from_ascii text (labels_ascii l)

written_parameters : (xs : List Parameter) → AllByRecursion IsParameter xs → Follow (parameters_text xs) xs
written_parameters [] h = inl (refl, refl)
written_parameters (x ∷ xs) h = inr (
  32 ∷ (parameter_octets x ++ parameters_text xs),
  refl,
  (32 ∷ [], parameters_text xs, refl, refl, h.0, written_parameters xs h.1),
)

written : (front rest : List ℕ) (name : Option DomainName) (xs : List Parameter) → AllOf is_no_semicolon front → IsIssuerName front name
    → Follow rest xs
    → IsIssuer (front ++ rest) name xs
written front rest name xs p n f =
    record { front = front; rest = rest; splits = record { cut = refl; each = p; ends = follow_stops rest xs f }; is_name = n; parameters = f }

pub issuer_written : (name : Option DomainName) (xs : List Parameter) → IsNamed name → IsWritable name → AllByRecursion IsParameter xs
    → IsIssuer (issuer_value name xs) name xs
issuer_written None [] n w h = written [] (59 ∷ []) None [] refl refl (inr ([], refl, refl))
issuer_written None (x ∷ xs) n w h = written [] (parameters_text (x ∷ xs)) None (x ∷ xs) refl refl (written_parameters (x ∷ xs) h)
issuer_written (Some name) xs n w h =
    let text = name_reads name n.0 n.1 in
    written (name_text name) (parameters_text xs) (Some name) xs w.1 (w.0, text_utf8 text.reads, text) (written_parameters xs h)

-- the value of a name and parameters is refused for want of memory alone
pub memory_alone : (octets : List ℕ) (e : ProtoError) → IsIssuerError octets e → (name : Option DomainName) (xs : List Parameter)
    → IsIssuer octets name xs
    → e ≡ proto.Memory
memory_alone octets proto.Memory k name xs i = refl
memory_alone octets (proto.Decode d) k name xs i = absurd (k.1 name xs i)
memory_alone octets (proto.Message t) k name xs i = absurd (k.0 name xs i)
memory_alone octets e k name xs i = absurd k
