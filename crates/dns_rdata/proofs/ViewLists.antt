-- The fields of a value, by the view of its RDATA.
use Rattle.std.proofs.Common.{◌≡◌, ℕ, suc, ◌+◌, ◌-◌, ◌≤◌, ◌<◌, ◌⊎◌, inl, inr, List, [], ◌∷◌, ◌++◌, length, length-drop, take, drop, Option, Some, None, refl, sym, ap, ◌∙◌, arith, subst, Bor}
use Rattle.std.proofs.lemmas.List.{take_all, append-nil, drop-take, drop-drop, length-take-le}
use Rattle.std.specs.List.{flat_map, slice_range}
use Rattle.std.specs.{declared.net.ip_addr.IpAddr.IpAddr, declared.net.ipv4_addr.Ipv4Addr.Ipv4Addr, declared.net.ipv6_addr.Ipv6Addr.Ipv6Addr}
use Rattle.std.specs.Net.Addr.{ipv4_octets, ipv6_octets, segments_of, octets_of}
use Rattle.std.specs.declared.net.ip_addr.IpAddr.TheVariants.{V4, V6}
use Rattle.dns_types.specs.declared.record_type.RecordType.{RecordType}
use Rattle.dns_types.specs.declared.record_type.RecordType.TheVariants as types
use Rattle.dns_fields.specs.declared.Kind.{Kind}
use Rattle.dns_fields.specs.declared.Kind.TheVariants.{CharacterStrings, Options, Parameters, Bitmap}
use Rattle.dns_fields.specs.{Octets.At, Fields.Value, Fields.Values, Fields.IsField}
use Rattle.dns_fields.specs.Tlvs.{string, Numbered, tlvs, AreTlvs, AllHeld, OptionValue, OptionHeld, ParameterValue, ParameterHeld}
use Rattle.dns_fields.specs.Bitmaps.{Block, block}
use Rattle.dns_rows.specs.{declared.row.Part.Part, Table.table, Table.kinds_of}
use Rattle.dns_fields.proofs.{Tlvs.complete_or_truncated, OctetLaws.AreOctets-at, Numbers.length-bytes}
use Rattle.dns_check.specs.{Rows.HasRow, Tlvs.AreComplete}
use Rattle.dns_view.specs.{Shown.ShowsAt, Shown.IsShown, TlvList.NoTlv, TypeList.block_types, TypeList.ListsTypes}
use Rattle.dns_view.specs.declared.row.field.FieldRef.{FieldRef}
use Rattle.dns_view.specs.declared.row.field.FieldRef.TheVariants as shown
use Rattle.dns_check.proofs.Alone.{between_is}
use Rattle.dns_view.proofs.{TlvSteps.no_octets, TypeLists.lists_types}
use Rattle.dns_rdata_base.proofs.Addresses.{octets_of-segments}
use Rattle.dns_rdata.specs.{Data.FieldsOf, Data.fields_of, Data.type_of, Data.Fills, Laws.address_of}
use Rattle.dns_rdata.specs.{declared.record_data.RData.RData, declared.view.RDataRef.RDataRef, Views.IsViewOf}
use Rattle.dns_rdata.specs.declared.record_data.RData.TheVariants as rdata
use Rattle.dns_rdata.specs.ViewFields.{ShowsField}
use Rattle.dns_rdata.specs.ViewLists.{strings_in, options_in, parameters_in, types_in, HasWindows}
use Rattle.dns_rdata.proofs.{Views.meets_row, Values.value_is, Values.value_for-a, Values.value_for-aaaa}

-- ---- what is said of the fields of the row is said of the value

abbrev pub Tells : (List ℕ → ℕ → FieldsOf → Type 0) → List ℕ → ℕ → ℕ → List Part → Type 0
Tells P m p n parts = (h : HasRow m p parts (p + n)) → P m p (record { kinds = kinds_of parts; values = h.values })

tells_as : (P : List ℕ → ℕ → FieldsOf → Type 0) {m l : List ℕ} {p q n k : ℕ} {parts others : List Part} → m ≡ l → p ≡ q → n ≡ k → parts ≡ others
    → Tells P m p n parts → Tells P l q k others
tells_as P {m} {l} {p} {q} {n} {k} {parts} {others} a b c d f =
    subst (λ (x : List ℕ). Tells P x q k others) a
    (subst (λ (x : ℕ). Tells P m x k others) b (subst (λ (x : ℕ). Tells P m p x others) c (subst (λ (x : List Part). Tells P m p n x) d f)))

pub view_tells : (P : List ℕ → ℕ → FieldsOf → Type 0) (m : List ℕ) (p n : ℕ) (t : RecordType) (v : RData) (r : RDataRef) → IsViewOf m p n t r → Fills m p n t v
    → Tells P r.view.message.now r.view.offset r.view.len r.view.row.now → P m p (fields_of v)
view_tells P m p n t v r is f w =
    subst (P m p) (sym f.value.fields) (tells_as P is.view.message is.view.offset is.view.len is.view.row w
    (record { values = f.values; stands = f.region.stands; meets = meets_row (table t) f.values f.region.holds }))

pub kinds_length : (row : List Part) → length (kinds_of row) ≡ length row
kinds_length [] = refl
kinds_length (p ∷ row) = ap suc (kinds_length row)

-- ---- lists by the kinds of the fields

abbrev first_strings : (kinds : List Kind) → Values kinds → List (List ℕ)
first_strings (CharacterStrings ∷ kinds) vs = vs.0
first_strings kinds vs = []

abbrev pub first_options : (kinds : List Kind) → Values kinds → List (Numbered OptionValue)
first_options (Options ∷ kinds) vs = vs.0
first_options kinds vs = []

abbrev pub third_parameters : (kinds : List Kind) → Values kinds → List (Numbered ParameterValue)
third_parameters (a ∷ (b ∷ (Parameters ∷ kinds))) vs = vs.1.1.0
third_parameters kinds vs = []

strings_first : (v : RData) → strings_in v ≡ first_strings (fields_of v).kinds (fields_of v).values
strings_first (rdata.TXT x) = refl
strings_first v = refl

pub options_first : (v : RData) → options_in v ≡ first_options (fields_of v).kinds (fields_of v).values
options_first (rdata.OPT x) = refl
options_first v = refl

pub parameters_third : (v : RData) → parameters_in v ≡ third_parameters (fields_of v).kinds (fields_of v).values
parameters_third (rdata.SVCB x) = refl
parameters_third v = refl

-- ---- the octets of a type of one field

alone : {m x : List ℕ} {p q : ℕ} (n : ℕ) → At m p x q → q ≡ p + n → take n (drop p m) ≡ x
alone {m} {x} {p} {q} n a e =
    let size : q - p ≡ n = omega arith in
    ap (λ (k : ℕ). take k (drop p m)) (sym size) ∙ between_is a

as_type : {m : List ℕ} {p n : ℕ} {t u : RecordType} {v : RData} {r : RDataRef} → IsViewOf m p n t r → Fills m p n t v → r.view.record_type ≡ u → Fills m p n u v
as_type {m} {p} {n} {t} {u} {v} {r} is f e = subst (λ (x : RecordType). Fills m p n x v) (sym is.type ∙ e) f

pub strings_octets : {m : List ℕ} {p n : ℕ} {t : RecordType} {v : RData} {r : RDataRef} → IsViewOf m p n t r → Fills m p n t v → r.view.record_type ≡ types.TXT
    → take n (drop p m) ≡ flat_map string (strings_in v)
strings_octets {m} {p} {n} {t} {v} {r} is f e =
    let g : Fills m p n types.TXT v = as_type is f e in
    let same : strings_in v ≡ g.values.0 = strings_first v ∙ ap (λ (x : FieldsOf). first_strings x.kinds x.values) g.value.fields in
    alone n g.region.stands.1.is.1 g.region.stands.2 ∙ ap (flat_map string) (sym same)

no_strings : (v : RData) → (type_of v ≡ types.TXT → ⊥) → strings_in v ≡ []
no_strings (rdata.TXT x) ne = absurd (ne refl)
no_strings v ne = refl

pub strings_none : {m : List ℕ} {p n : ℕ} {t : RecordType} {v : RData} {r : RDataRef} → IsViewOf m p n t r → Fills m p n t v → (r.view.record_type ≡ types.TXT → ⊥)
    → [] ≡ strings_in v
strings_none {v = v} is f ne = sym (no_strings v (λ e. ne (is.type ∙ sym f.value.type ∙ e)))

-- ---- options

no_options : (v : RData) → (type_of v ≡ types.OPT → ⊥) → options_in v ≡ []
no_options (rdata.OPT x) ne = absurd (ne refl)
no_options v ne = refl

held_nothing : {V : Type 0} (Held : ℕ → List ℕ → V → Type 0) (r : List (Numbered (List ℕ))) (ys : List (Numbered V)) → r ≡ [] → ys ≡ [] → AllHeld Held r ys
held_nothing Held r ys e f = subst (λ (x : List (Numbered (List ℕ))). AllHeld Held x ys) (sym e) (subst (λ (y : List (Numbered _)). AllHeld Held [] y) (sym f) tt)

whole_octets : {o x : List ℕ} → At o 0 x (length o) → o ≡ x
whole_octets {o} {x} a = sym (take_all (length x) o (omega (arith, a.ends))) ∙ a.same

-- what complete options yield, and that truncated ones yield nothing
abbrev pub YieldsOptions : List ℕ → List (Numbered (List ℕ)) → Type 0
YieldsOptions o r = ((xs : List (Numbered (List ℕ))) → AreTlvs xs → o ≡ tlvs xs → r ≡ xs) × ((AreComplete o → ⊥) → r ≡ [])

options_held : (o : List ℕ) (r : List (Numbered (List ℕ))) (v : Value Options) {m : List ℕ} {p q : ℕ} (n : ℕ) → o ≡ take n (drop p m) → q ≡ p + n
    → IsField m p Options v q → YieldsOptions o r → AllHeld OptionHeld r v
options_held o r v n e end (inl c) y =
    subst (λ (x : List (Numbered (List ℕ))). AllHeld OptionHeld x v) (sym (y.0 c.read c.fit (e ∙ alone n c.at end))) c.held
options_held o r v {m} {p} {q} n e end (inr h) y =
    let t = h.1 in
    let none : AreComplete o → ⊥ = λ c. complete_or_truncated (q - p) c.read t.read t.stub c.fit t.fit t.cut (sym (whole_octets c.at) ∙ e ∙ alone n t.at end) in
    held_nothing OptionHeld r v (y.1 none) h.0

pub options_told : {m : List ℕ} {p n : ℕ} {t : RecordType} {v : RData} {r : RDataRef} (o : List ℕ) (result : List (Numbered (List ℕ)))
    → IsViewOf m p n t r → Fills m p n t v → r.view.record_type ≡ types.OPT → o ≡ take n (drop p m) → YieldsOptions o result → AllHeld OptionHeld result (options_in v)
options_told {m} {p} {n} {t} {v} {r} o result is f e same y =
    let g : Fills m p n types.OPT v = as_type is f e in
    let held : options_in v ≡ g.values.0 = options_first v ∙ ap (λ (x : FieldsOf). first_options x.kinds x.values) g.value.fields in
    subst (λ (ys : List (Numbered OptionValue)). AllHeld OptionHeld result ys) (sym held)
    (options_held o result g.values.0 n same g.region.stands.2 g.region.stands.1.is y)

pub options_none : {m : List ℕ} {p n : ℕ} {t : RecordType} {v : RData} {r : RDataRef} (result : List (Numbered (List ℕ))) → IsViewOf m p n t r → Fills m p n t v
    → (r.view.record_type ≡ types.OPT → ⊥) → result ≡ [] → AllHeld OptionHeld result (options_in v)
options_none {v = v} result is f ne none = held_nothing OptionHeld result (options_in v) none (no_options v (λ e. ne (is.type ∙ sym f.value.type ∙ e)))

-- ---- parameters

shown_parameters : (m : List ℕ) (p : ℕ) (f : FieldRef) (v : Value Parameters) (q : ℕ) → IsShown m p f Parameters v q → (s : Bor (List ℕ)) × (f ≡ shown.Parameters s)
shown_parameters m p (shown.Parameters s) v q h = (s, refl)
shown_parameters m p f v q h = absurd h

third_other : (m : List ℕ) (p : ℕ) (kinds : List Kind) (vs : Values kinds) (end : ℕ) (f : FieldRef) → ShowsAt m p 2 kinds vs end f → ((s : Bor (List ℕ)) → f ≡ shown.Parameters s → ⊥)
    → third_parameters kinds vs ≡ []
third_other m p [] vs end f h ne = refl
third_other m p (a ∷ []) vs end f h ne = refl
third_other m p (a ∷ (b ∷ [])) vs end f h ne = refl
third_other m p (a ∷ (b ∷ (Parameters ∷ kinds))) vs end f h ne =
    let (i, first, (j, second, (q, field, rest, shows))) = h in
    let w = shown_parameters m j f vs.1.1.0 q shows.is in absurd (ne w.0 w.1)
third_other m p (a ∷ (b ∷ (k ∷ kinds))) vs end f h ne = refl

third_missing : (kinds : List Kind) (vs : Values kinds) → length kinds ≤ 2 → third_parameters kinds vs ≡ []
third_missing [] vs h = refl
third_missing (a ∷ []) vs h = refl
third_missing (a ∷ (b ∷ [])) vs h = refl
third_missing (a ∷ (b ∷ (k ∷ kinds))) vs h = absurd (omega (arith, h))

-- what parameters yield
abbrev pub YieldsTlvs : List ℕ → List (Numbered (List ℕ)) → Type 0
YieldsTlvs o r = (xs : List (Numbered (List ℕ))) (rest : List ℕ) → AreTlvs xs → o ≡ tlvs xs ++ rest → NoTlv rest → r ≡ xs

third_shown : (m : List ℕ) (p : ℕ) (kinds : List Kind) (vs : Values kinds) (end : ℕ) (s : Bor (List ℕ)) (r : List (Numbered (List ℕ)))
    → ShowsAt m p 2 kinds vs end (shown.Parameters s) → YieldsTlvs s.now r → AllHeld ParameterHeld r (third_parameters kinds vs)
third_shown m p [] vs end s r h y = absurd h
third_shown m p (a ∷ []) vs end s r h y = absurd h.2
third_shown m p (a ∷ (b ∷ [])) vs end s r h y = absurd h.2.2
third_shown m p (a ∷ (b ∷ (Parameters ∷ kinds))) vs end s r h y =
    let (i, first, (j, second, (q, field, rest, shows))) = h in
    let c = field.is in
    let same : s.now ≡ tlvs c.read = sym (between_is shows.is) ∙ between_is c.at in
    let e : r ≡ c.read = y c.read [] c.fit (same ∙ sym (append-nil (tlvs c.read))) no_octets in
    subst (λ (x : List (Numbered (List ℕ))). AllHeld ParameterHeld x vs.1.1.0) (sym e) c.held
third_shown m p (a ∷ (b ∷ (k ∷ kinds))) vs end s r h y = let (i, first, (j, second, (q, field, rest, shows))) = h in absurd shows.is

pub parameters_told : (m : List ℕ) (p n : ℕ) (v : RData) (s : Bor (List ℕ)) (r : List (Numbered (List ℕ))) → ShowsField m p n v 2 (shown.Parameters s)
    → YieldsTlvs s.now r → AllHeld ParameterHeld r (parameters_in v)
parameters_told m p n v s r h y = subst (λ (ys : List (Numbered ParameterValue)). AllHeld ParameterHeld r ys) (sym (parameters_third v))
    (third_shown m p (fields_of v).kinds (fields_of v).values (p + n) s r h y)

pub parameters_other : (m : List ℕ) (p n : ℕ) (v : RData) (f : FieldRef) (r : List (Numbered (List ℕ))) → ShowsField m p n v 2 f
    → ((s : Bor (List ℕ)) → f ≡ shown.Parameters s → ⊥) → r ≡ [] → AllHeld ParameterHeld r (parameters_in v)
parameters_other m p n v f r h ne none = held_nothing ParameterHeld r (parameters_in v) none
    (parameters_third v ∙ third_other m p (fields_of v).kinds (fields_of v).values (p + n) f h ne)

pub parameters_missing : (v : RData) (r : List (Numbered (List ℕ))) → length (fields_of v).kinds ≤ 2 → r ≡ [] → AllHeld ParameterHeld r (parameters_in v)
parameters_missing v r h none = held_nothing ParameterHeld r (parameters_in v) none (parameters_third v ∙ third_missing (fields_of v).kinds (fields_of v).values h)

-- ---- addresses

pub a_told : {m : List ℕ} {p n : ℕ} {t : RecordType} {v : RData} {r : RDataRef} {result : Option IpAddr} → IsViewOf m p n t r → Fills m p n t v
    → r.view.record_type ≡ types.A → ((a : Ipv4Addr) → length (take n (drop p m)) ≡ 4 → take n (drop p m) ≡ ipv4_octets a → result ≡ Some (V4 a)) → result ≡ address_of v
a_told {m} {p} {n} {t} {v} {r} {result} is f e h =
    let g : Fills m p n types.A v = as_type is f e in
    let here = alone n g.region.stands.1.is.1 g.region.stands.2 in
    h (record { octets = g.values.0 }) (ap length here ∙ g.region.stands.1.is.0) here ∙ sym (ap address_of (value_is types.A g.values v g.value ∙ value_for-a g.values))

pub aaaa_told : {m : List ℕ} {p n : ℕ} {t : RecordType} {v : RData} {r : RDataRef} {result : Option IpAddr} → IsViewOf m p n t r → Fills m p n t v
    → r.view.record_type ≡ types.AAAA → ((a : Ipv6Addr) → length (take n (drop p m)) ≡ 16 → take n (drop p m) ≡ ipv6_octets a → result ≡ Some (V6 a)) → result ≡ address_of v
aaaa_told {m} {p} {n} {t} {v} {r} {result} is f e h =
    let g : Fills m p n types.AAAA v = as_type is f e in
    let s = g.values.0 in
    let whole : octets_of (segments_of s) ≡ s = octets_of-segments 8 s g.region.stands.1.is.0
    (AreOctets-at m p s g.region.stands.0 g.region.octets g.region.stands.1.is.1) in
    let here = alone n g.region.stands.1.is.1 g.region.stands.2 in
    h (record { segments = segments_of s }) (ap length here ∙ g.region.stands.1.is.0) (here ∙ sym whole)
    ∙ sym (ap address_of (value_is types.AAAA g.values v g.value ∙ value_for-aaaa g.values))

no_address : (v : RData) → (type_of v ≡ types.A → ⊥) → (type_of v ≡ types.AAAA → ⊥) → address_of v ≡ None
no_address (rdata.A x) ne other = absurd (ne refl)
no_address (rdata.AAAA x) ne other = absurd (other refl)
no_address v ne other = refl

pub address_none : {m : List ℕ} {p n : ℕ} {t : RecordType} {v : RData} {r : RDataRef} → IsViewOf m p n t r → Fills m p n t v
    → (r.view.record_type ≡ types.A → ⊥) → (r.view.record_type ≡ types.AAAA → ⊥) → None ≡ address_of v
address_none {v = v} is f ne other = sym (no_address v (λ e. ne (is.type ∙ sym f.value.type ∙ e)) (λ e. other (is.type ∙ sym f.value.type ∙ e)))

-- ---- types

abbrev third_types : (kinds : List Kind) → Values kinds → List ℕ
third_types (a ∷ (b ∷ (Bitmap ∷ kinds))) vs = vs.1.1.0
third_types kinds vs = []

types_third : (v : RData) → types_in v ≡ third_types (fields_of v).kinds (fields_of v).values
types_third (rdata.CSYNC x) = refl
types_third v = refl

-- the windows of a CSYNC that was read
windows_of : {m : List ℕ} {p n : ℕ} {v : RData} (g : Fills m p n types.CSYNC v) → HasWindows m p n g.region.stands.2.2.1.is.blocks
windows_of {m} {p} {n} g =
    let s = g.region.stands in
    let b = s.2.2.1.is in
    let at : s.2.0 ≡ p + 6 = omega (arith, s.1.is.1.ends, length-bytes 4 g.values.0, s.2.1.is.1.ends, length-bytes 2 g.values.1.0) in
    record {
      fit = b.fit;
      at = subst (λ (i : ℕ). At m i (flat_map block b.blocks) (p + n)) at
          (subst (λ (q : ℕ). At m s.2.0 (flat_map block b.blocks) q) s.2.2.2 b.at);
    }

module _ {m o : List ℕ} {p n : ℕ} {windows : List Block} (is : o ≡ take n (drop p m)) (h : HasWindows m p n windows) where
  size : n ≡ 6 + length (flat_map block windows)
  size = omega (arith, h.at.ends)

  -- the octets after the first six of the RDATA are the windows'
  pub windows_octets : slice_range o 6 (length o) ≡ flat_map block windows
  windows_octets =
      let x = flat_map block windows in
      let cut : drop 6 o ≡ x =
      ap (drop 6) (is ∙ ap (λ (k : ℕ). take k (drop p m)) size) ∙ drop-take 6 (length x) (drop p m)
      ∙ ap (take (length x)) (drop-drop 6 p m) ∙ h.at.same in
      take_all (length o - 6) (drop 6 o) (omega (arith, length-drop 6 o)) ∙ cut

  -- so many octets are there
  pub windows_fit : (length o < 6) ⊎ (length o < length o) → ⊥
  windows_fit few =
      let all : length o ≡ n = ap length is ∙ length-take-le n (drop p m) (omega (arith, h.at.within, length-drop p m)) in
      omega (arith, few, all, size)

-- a result that the windows determine has the types of the value
pub types_listed : {m : List ℕ} {p n : ℕ} {t : RecordType} {v : RData} {r : RDataRef} (result : List ℕ) → IsViewOf m p n t r → Fills m p n t v
    → r.view.record_type ≡ types.CSYNC → ((windows : List Block) → HasWindows m p n windows → result ≡ flat_map block_types windows) → ListsTypes result (types_in v)
types_listed {m} {p} {n} {t} {v} {r} result is f e h =
    let g : Fills m p n types.CSYNC v = as_type is f e in
    let b = g.region.stands.2.2.1.is in
    let same : types_in v ≡ g.values.1.1.0 = types_third v ∙ ap (λ (x : FieldsOf). third_types x.kinds x.values) g.value.fields in
    subst (ListsTypes result) (sym same) (subst (λ (x : List ℕ). ListsTypes x g.values.1.1.0) (sym (h b.blocks (windows_of g))) (lists_types b))

no_types : (v : RData) → (type_of v ≡ types.CSYNC → ⊥) → types_in v ≡ []
no_types (rdata.CSYNC x) ne = absurd (ne refl)
no_types v ne = refl

pub types_none : {m : List ℕ} {p n : ℕ} {t : RecordType} {v : RData} {r : RDataRef} (result : List ℕ) → IsViewOf m p n t r → Fills m p n t v
    → (r.view.record_type ≡ types.CSYNC → ⊥) → result ≡ [] → ListsTypes result (types_in v)
types_none {v = v} result is f ne none =
    subst (ListsTypes result) (sym (no_types v (λ e. ne (is.type ∙ sym f.value.type ∙ e))))
    (subst (λ (x : List ℕ). ListsTypes x []) (sym none) (record { members = λ t. refl; rising = λ rises. refl }))
