-- Parameters that are made of octets, one after the other.
use Rattle.std.proofs.Common.{◌≡◌, ℕ, ◌+◌, ◌-◌, ◌≤◌, ◌⊎◌, inl, inr, Ok, Err, List, [], ◌∷◌, ◌++◌, length, take, drop, map, refl, sym, ap, ◌∙◌, arith, subst, append_assoc}
use Rattle.std.proofs.lemmas.List.{append-nil, map_push}
use Rattle.dns_fields.specs.{Fields.Field, Fields.Stands, Fields.Values, Tlvs.IsTlv, Tlvs.Numbered, Tlvs.ParameterHeld, Tlvs.ParameterValue, Tlvs.tlv, Octets.At}
use Rattle.dns_fields.specs.declared.Kind.{Kind, TheVariants.Number, TheVariants.Name, TheVariants.Octets, TheVariants.Parameters}
use Rattle.dns_fields.specs.Labels.{DomainName}
use Rattle.dns_names_wire.specs.{State.Reading, Terms.LacksField, Terms.StaysBehind, Terms.TookField, Terms.moved}
use Rattle.dns_names_wire.proofs.FieldReads.{stands_inside, stands_within, stays, took_stays}
use Rattle.dns_types.specs.declared.error.DecodeError.{DecodeError}
use Rattle.dns_types.specs.declared.error.DecodeError.TheVariants as decode
use Rattle.dns_rows.specs.Rules.{MeetsRow}
use Rattle.dns_rows.specs.declared.row.TheConstants as rows
use Rattle.dns_check.specs.{ByRow.ReadsRow, ByRow.RowThere, Tlvs.TlvThere}
use Rattle.dns_check.proofs.{Alone.between_is, Alone.parameters_alone, CheckedFirst.memory_row, CheckedFirst.row_reads, CheckedFirst.took_first, HeldLists.EndsAt, HeldLists.NoTlv, HeldLists.first_of, HeldLists.none_left}
use Rattle.dns_check.proofs.ParameterLists.{OneOf, StandEach, one_once, parameters_each}
use Rattle.dns_rdata_service.specs.SVCB.{IsReadSvcb, TookService, svcb_facts, svcb_fields, svcb_shape}
use Rattle.dns_rdata_service.specs.declared.svcb.SVCB.{SVCB}
use Rattle.dns_rdata_service.specs.Parameters.{AreRead, Parameter, parameter_from, parameter_of}
use Rattle.dns_rdata_service.specs.{SvcParamKey.key_number, SvcParamKey.key_of, SvcParamValue.IsValueOf, SvcParamValue.value_of}
use Rattle.dns_rdata_service.specs.declared.svcb.{key.SvcParamKey.SvcParamKey, value.SvcParamValue.SvcParamValue}
use Rattle.dns_rdata_service.proofs.SvcbValues.{key_number-of}

-- what is left of any parameters that fill the octets, after those that were made
pub record Made (octets : List ℕ) (offset : ℕ) (ps : List Parameter) : Type 0 where
  pub inside : offset ≤ length octets
  pub read : AreRead ps
  pub rest : (v : List (Numbered ParameterValue)) → Field octets 0 Parameters v (length octets) → (rest : List (Numbered ParameterValue))
      × (v ≡ map parameter_of ps ++ rest) × StandEach OneOf octets offset rest (length octets)

pub made_none : (octets : List ℕ) → Made octets 0 []
made_none octets = record { inside = omega arith; read = refl; rest = λ v f. (v, refl, parameters_each f) }

read_push : (ps : List Parameter) (p : Parameter) → AreRead ps → p ≡ parameter_from (parameter_of p) → AreRead (ps ++ p ∷ [])
read_push ps p g e =
    ap (λ (l : List Parameter). l ++ p ∷ []) g ∙ ap (λ (x : Parameter). map parameter_from (map parameter_of ps) ++ x ∷ []) e
    ∙ sym (ap (map parameter_from) (map_push parameter_of ps p) ∙ map_push parameter_from (map parameter_of ps) (parameter_of p))

-- one parameter more
pub made_more : {octets body : List ℕ} {offset end n : ℕ} {ps qs : List Parameter} {key : SvcParamKey} {x : SvcParamValue} → Made octets offset ps
    → (t : TlvThere octets offset end) → EndsAt octets offset end → n ≡ t.key → key ≡ key_of n → body ≡ t.body → IsValueOf (key_number key) body x
    → qs ≡ ps ++ (key, x) ∷ [] → Made octets end qs
made_more {octets} {body} {offset} {end} {n} {ps} {qs} {key} {x} m t ends is named same h pushed =
    let p : Parameter = (key, x) in
    let number : key_number key ≡ n = ap key_number named ∙ key_number-of n in
    let whole : key_number key ≡ t.key = number ∙ is in
    let given : p ≡ parameter_from (parameter_of p) = λ i. ((named ∙ ap key_of (sym number)) i, h.given i) in
    let one : OneOf octets offset (parameter_of p) end = record {
      octets = t.body;
      at = subst (λ (k : ℕ). At octets offset (tlv (k, t.body)) end) (sym whole) t.is.at;
      fits = subst (λ (k : ℕ). IsTlv (k, t.body)) (sym whole) t.is.fits;
      held = subst (λ (s : List ℕ). ParameterHeld (key_number key) s (value_of x)) same h.held;
    } in
    let values : map parameter_of qs ≡ map parameter_of ps ++ parameter_of p ∷ [] = ap (map parameter_of) pushed ∙ map_push parameter_of ps p in
    record {
      inside = ends.room.1;
      read = subst AreRead (sym pushed) (read_push ps p m.read given);
      rest = λ v f.
          let r = m.rest v f in
          let g = first_of r.0 r.2 ends in
          let first : r.0 ≡ parameter_of p ∷ g.rest = g.is ∙ ap (λ (y : Numbered ParameterValue). y ∷ g.rest) (one_once g.one one).0 in (
            g.rest,
            r.1 ∙ ap (λ (l : List (Numbered ParameterValue)). map parameter_of ps ++ l) first
                ∙ sym (append_assoc (map parameter_of ps) (parameter_of p ∷ []) g.rest)
                ∙ ap (λ (l : List (Numbered ParameterValue)). l ++ g.rest) (sym values),
            g.stand,
          );
    }

-- all of them
pub made_all : {octets : List ℕ} {offset : ℕ} {ps : List Parameter} → Made octets offset ps → NoTlv octets offset → (v : List (Numbered ParameterValue))
    → Field octets 0 Parameters v (length octets) → map parameter_of ps ≡ v
made_all {ps = ps} m none v f =
    let r = m.rest v f in
    sym (r.1 ∙ ap (λ (l : List (Numbered ParameterValue)). map parameter_of ps ++ l) (none_left ParameterHeld r.0 r.2 none)
    ∙ append-nil (map parameter_of ps))

-- ---- SVCB

-- priority and target are those of the row, and the parameters follow
pub svcb_head : {n end priority : ℕ} {target : DomainName} {old a b : Reading} (h : RowThere rows.SVCB n old (moved old end)) → TookField old (Number 2) priority a
    → TookField a Name target b → (priority ≡ h.took.fields.values.0) × (target ≡ h.took.fields.values.1.0)
    × Stands b.message b.index (Parameters ∷ []) h.took.fields.values.1.1 end
svcb_head {end = end} h f g =
    let vs = h.took.fields.values in
    let first = took_first (Name ∷ Parameters ∷ []) vs end tt f h.took.fields.stands in
    let second = took_first (Parameters ∷ []) vs.1 end tt g first.1 in
    (first.0, second.0, second.1)

pub svcb_inside : {n end priority : ℕ} {target : DomainName} {old a b : Reading} → RowThere rows.SVCB n old (moved old end) → TookField old (Number 2) priority a
    → TookField a Name target b → b.index ≤ end
svcb_inside {end = end} {b = b} h f g =
    stands_inside b.message b.index (Parameters ∷ []) h.took.fields.values.1.1 end (svcb_head h f g).2

-- they are in the message
pub svcb_within : {n end : ℕ} {old : Reading} → RowThere rows.SVCB n old (moved old end) → (old.index ≤ end) × (end ≤ length old.message)
svcb_within {end = end} {old} h =
    let vs = h.took.fields.values in
    let kinds : List Kind = Number 2 ∷ Name ∷ Parameters ∷ [] in (
      stands_inside old.message old.index kinds vs end h.took.fields.stands,
      stands_within old.message old.index kinds vs end tt h.took.fields.stands,
    )

-- the target name is there
pub svcb_named : {n end priority : ℕ} {old a : Reading} → RowThere rows.SVCB n old (moved old end) → TookField old (Number 2) priority a → LacksField a Name → ⊥
svcb_named {end = end} h f l =
    let s = (took_first (Name ∷ Parameters ∷ []) h.took.fields.values end tt f h.took.fields.stands).1 in
    l.none h.took.fields.values.1.0 s.0 s.1

-- the target name is not kept: memory ran out
pub svcb_no_name : {n end priority : ℕ} {e : DecodeError} {old a b : Reading} → RowThere rows.SVCB n old (moved old end) → TookField old (Number 2) priority a
    → (e ≡ decode.Memory) ⊎ ((e ≡ decode.NameInvalid) × LacksField a Name) → b ≡ a → ReadsRow svcb_facts n (Err e) old b
svcb_no_name {n} {old = old} {a} h f (inl m) same = memory_row svcb_facts n (subst (StaysBehind old) (sym same) (took_stays f (stays a))) m
svcb_no_name h f (inr l) same = absurd (svcb_named h f l.1)

-- the fields that were read are those of the row, and end where it ends
pub svcb_read : {n end priority len : ℕ} {target : DomainName} {octets : List ℕ} {params : List (Numbered ParameterValue)} {old a b c : Reading}
    → (h : RowThere rows.SVCB n old (moved old end)) → TookField old (Number 2) priority a → TookField a Name target b → TookField b (Octets len) octets c
    → len ≡ end - b.index → ((v : List (Numbered ParameterValue)) → Field octets 0 Parameters v (length octets) → params ≡ v)
    → (c ≡ moved old end) × ((priority, (target, (params, tt))) ≡ h.took.fields.values)
svcb_read {n} {end} {priority} {len} {target} {octets} {params} {old} {a} {b} {c} h f g t size made =
    let s = svcb_head h f g in
    let v = h.took.fields.values.1.1.0 in
    let inside = svcb_inside h f g in
    let there : c.index ≡ end = omega (arith, t.field.is.0, t.field.is.1.ends, size, inside) in
    let slice : octets ≡ take (end - b.index) (drop b.index b.message) =
    sym (ap (λ (q : ℕ). take (q - b.index) (drop b.index b.message)) (sym there) ∙ between_is t.field.is.1) in
    let field : Field b.message b.index Parameters v end = subst (λ (q : ℕ). Field b.message b.index Parameters v q) s.2.2 s.2.1 in
    let same : params ≡ v = made v (parameters_alone v slice field) in (
      (λ i. record { message = (t.message ∙ g.message ∙ f.message) i; index = there i }),
      (λ i. (s.0 i, (s.1 i, (same i, tt)))),
    )

pub svcb_row : {n end priority : ℕ} {target : DomainName} (ps : List Parameter) {old c : Reading} (h : RowThere rows.SVCB n old (moved old end))
    → (c ≡ moved old end) × ((priority, (target, (map parameter_of ps, tt))) ≡ h.took.fields.values)
    → ReadsRow svcb_facts n (Ok (record { svc_priority = priority; target_name = target; svc_params = ps })) old c
svcb_row {n} {end} {priority} {target} ps {old} h r =
    let x : SVCB = record { svc_priority = priority; target_name = target; svc_params = ps } in
    subst (λ (d : Reading). ReadsRow svcb_facts n (Ok x) old d) (sym r.0) (row_reads svcb_facts x tt h r.1)

pub svcb_after : {n end priority : ℕ} {target : DomainName} {ps : List Parameter} {old c : Reading} (h : RowThere rows.SVCB n old (moved old end)) → AreRead ps
    → (c ≡ moved old end) × ((priority, (target, (map parameter_of ps, tt))) ≡ h.took.fields.values)
    → TookService n (record { svc_priority = priority; target_name = target; svc_params = ps }) old c
svcb_after {n} {end} {priority} {target} {ps} {old} h read r =
    let x : SVCB = record { svc_priority = priority; target_name = target; svc_params = ps } in
    subst (λ (d : Reading). TookService n x old d) (sym r.0) (record {
      read = read;
      took = record
          { message = refl; stands = subst (λ (vs : Values svcb_shape). Stands old.message old.index svcb_shape vs end) (sym r.1) h.took.fields.stands };
      holds = subst (MeetsRow rows.SVCB) (sym r.1) h.took.fields.meets;
      within = h.took.reached.0;
      left = h.took.reached.1;
    })
