-- Options that are made of octets, one after the other.
use Rattle.std.proofs.Common.{◌≡◌, ℕ, ◌+◌, ◌-◌, ◌<◌, ◌≤◌, inl, inr, List, [], ◌∷◌, ◌++◌, length, take, drop, map, refl, sym, ap, ◌∙◌, arith, subst, Ok}
use Rattle.std.proofs.lemmas.List.{map_push}
use Rattle.dns_fields.specs.Tlvs.{Numbered, tlv, tlvs, IsTlv, AllHeld, OptionValue, OptionHeld}
use Rattle.dns_fields.specs.{declared.Kind.TheVariants.Options, Fields.Field, Fields.IsField, Fields.CompleteOptions, Octets.At}
use Rattle.dns_fields.proofs.FieldLaws.{field_same}
use Rattle.dns_names_wire.specs.State.{Reading}
use Rattle.dns_names_wire.proofs.Strings.{at_then}
use Rattle.dns_rows.specs.declared.row.TheConstants as rows
use Rattle.dns_check.specs.{ByRow.RowThere, Parameters.IsTlvAt, Tlvs.AreComplete, Tlvs.TlvThere}
use Rattle.dns_check.proofs.{Alone.options_alone, OptionLists.held_more, Splits.all_append, TlvParts.PartsCounted, TlvParts.parts_first, TlvParts.parts_more}
use Rattle.dns_check.proofs.TlvParts.{parts_end, tlvs_more}
use Rattle.dns_rdata_options.specs.OPT.{HasOptionsOf, IsReadOpt, Pair, opt_fields, pair_of, pair_value}
use Rattle.dns_rdata_options.specs.{EdnsCode.edns_code_number, EdnsCode.edns_code_of, EdnsOption.IsOptionOf, EdnsOption.option_value}
use Rattle.dns_rdata_options.specs.declared.opt.{option.EdnsOption.EdnsOption, code.EdnsCode.EdnsCode}
use Rattle.dns_rdata_options.proofs.OptionValues.{HeldAs, edns_code_number-of, held_code}

-- the pairs of the options up to an offset
pub record Made (octets : List ℕ) (offset : ℕ) (xs : List Pair) : Type 0 where
  pub count : ℕ
  pub parts : PartsCounted octets count offset
  pub complete : CompleteOptions octets 0 (map pair_value xs) offset
  pub read : xs ≡ map pair_of (map pair_value xs)

pub made_none : {xs : List Pair} (octets : List ℕ) → xs ≡ [] → Made octets 0 xs
made_none octets e = subst (Made octets 0) (sym e) (record {
  count = 0;
  parts = parts_first octets;
  complete = record { read = []; at = record { ends = omega arith; within = omega arith; same = refl }; fit = tt; held = tt };
  read = refl;
})

-- one pair more
pub made_more : {octets body : List ℕ} {offset end n : ℕ} {xs ys : List Pair} {code : EdnsCode} (x : EdnsOption) → Made octets offset xs
    → (offset + 4 ≤ end) × (end ≤ length octets) → (t : TlvThere octets offset end)
    → ((key : ℕ) (body : List ℕ) (to : ℕ) → IsTlvAt octets offset key body to → end ≡ to)
    → n ≡ t.key → code ≡ edns_code_of n → body ≡ t.body → IsOptionOf code body x → ys ≡ xs ++ (code, x) ∷ [] → Made octets end ys
made_more {octets} {body} {offset} {end} {n} {xs} {ys} {code} x m room t is key named same h pushed =
    let number : edns_code_number code ≡ t.key = ap edns_code_number named ∙ edns_code_number-of n ∙ key in
    let whole : edns_code_of t.key ≡ code = ap edns_code_of (sym key) ∙ sym named in
    let v : HeldAs t.key t.body x = subst (λ (k : ℕ). HeldAs k t.body x) number
    (held_code code t.body x (ap edns_code_of number ∙ whole) (subst (λ (s : List ℕ). IsOptionOf code s x) same h)) in
    let done = map pair_value xs ++ (t.key, option_value x) ∷ [] in
    let values : done ≡ map pair_value ys =
    sym (ap (map pair_value) pushed ∙ map_push pair_value xs (code, x) ∙ (λ i. map pair_value xs ++ (number i, option_value x) ∷ [])) in
    record {
      count = m.count + 1;
      parts = parts_more m.parts (omega (arith, room.0, room.1)) room.1 room.0 t is;
      complete = record {
        read = m.complete.read ++ (t.key, t.body) ∷ [];
        at = subst (λ (s : List ℕ). At octets 0 s end) (tlvs_more m.complete.read (t.key, t.body)) (at_then m.complete.at t.is.at);
        fit = all_append IsTlv m.complete.read ((t.key, t.body) ∷ []) m.complete.fit (t.is.fits, tt);
        held = subst (λ (vs : List (Numbered OptionValue)). AllHeld OptionHeld (m.complete.read ++ (t.key, t.body) ∷ []) vs) values
            (held_more m.complete.read (map pair_value xs) (t.key, t.body) (option_value x) m.complete.held v.held);
      };
      read = pushed ∙ (λ i. m.read i ++ (sym whole i, v.given i) ∷ []) ∙ sym (map_push pair_of (map pair_value xs) (t.key, option_value x)) ∙ ap (map pair_of) values;
    }

-- all of them
pub made_all : {octets : List ℕ} {offset : ℕ} {xs : List Pair} → Made octets offset xs → AreComplete octets
    → ((key : ℕ) (body : List ℕ) (to : ℕ) → IsTlvAt octets offset key body to → ⊥) → HasOptionsOf octets xs
made_all {octets} {offset} {xs} m c none = record {
  fields = λ v f.
      let own : CompleteOptions octets 0 (map pair_value xs) (length octets) =
      subst (λ (q : ℕ). CompleteOptions octets 0 (map pair_value xs) q) (parts_end m.parts.on c none) m.complete in
      let g : Field octets 0 Options (map pair_value xs) (length octets) = record { is = inl own } in
      ap (λ (l : List (Numbered OptionValue)). (l, tt)) (field_same g f);
}

pub made_read : {octets : List ℕ} {offset : ℕ} {xs : List Pair} → Made octets offset xs → IsReadOpt xs
made_read m = record { given = m.read }

-- octets that end inside an option have none
pub made_cut : {octets : List ℕ} → (AreComplete octets → ⊥) → HasOptionsOf octets []
made_cut {octets} none = record { fields = λ v f. ap (λ (l : List (Numbered OptionValue)). (l, tt)) (of v f.is) } where
  of : (v : List (Numbered OptionValue)) → IsField octets 0 Options v (length octets) → [] ≡ v
  of v (inl c) = absurd (none (record { read = c.read; at = c.at; fit = c.fit }))
  of v (inr h) = sym h.0

-- the options of the octets of a row
pub opt_row : {octets : List ℕ} {x : List Pair} {n : ℕ} {old new : Reading} (h : RowThere rows.OPT n old new)
    → octets ≡ take (new.index - old.index) (drop old.index old.message) → HasOptionsOf octets x → opt_fields x ≡ h.took.fields.values
opt_row {octets} {old = old} {new} h slice made =
    let s = h.took.fields.stands in
    let v = h.took.fields.values.0 in
    let f : IsField old.message old.index Options v new.index = subst (IsField old.message old.index Options v) s.2 s.1.is in
    made.fields v (record { is = options_alone v slice f })
