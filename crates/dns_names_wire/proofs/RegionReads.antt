-- From fields that were read to the data of a known length.
use Rattle.std.proofs.Common.{◌≡◌, ℕ, ◌+◌, ◌<◌, List, [], ◌∷◌, refl, sym, ◌∙◌, Result, Ok, Err}
use Rattle.std.specs.Result.{IfErr}
use Rattle.dns_types.specs.declared.error.DecodeError.{DecodeError}
use Rattle.dns_fields.specs.{Octets.AreOctets, declared.Kind.Kind, Fields.Values, Fields.Stands}
use Rattle.dns_fields.proofs.FieldLaws.{field_end}
use Rattle.dns_names_wire.specs.{State.Reading, Terms.Took, Terms.Lacks, Terms.Refused, Terms.StaysBehind, Terms.ReadsIf, Terms.ReadsTo}
use Rattle.dns_names_wire.specs.{Terms.ReadsBy, Terms.IsLong, Terms.AllEnd, Terms.Region, Terms.RefusedRegion, Terms.ReadsRegion}
use Rattle.dns_names_wire.proofs.FieldReads.{stands_inside, stands_within, unless_map}

-- fields that say themselves where they end have one end
pub stands_end : (m : List ℕ) (p : ℕ) (s : List Kind) (a b : Values s) (e f : ℕ) → AllEnd s → Stands m p s a e → Stands m p s b f → e ≡ f
stands_end m p [] a b e f h x y = sym x ∙ y
stands_end m p (k ∷ kinds) a b e f h x y =
    let there : x.0 ≡ y.0 = field_end h.0 x.1 y.1 in
    let rest : Stands m y.0 kinds a.1 e = rw (← there) x.2 in
    stands_end m y.0 kinds a.1 b.1 e f h.1 rest y.2

-- what must be known of the length and of the message
pub record Given (d : Reading) (n : ℕ) : Type 0 where
  pub octets : AreOctets d.message
  pub short : n < 65536

region_here : {old new : Reading} {n : ℕ} {s : List Kind} {condition : Values s → Type 0} {vs : Values s} → IsLong s → Given old n → Took old s vs new
    → condition vs → new.index ≡ old.index + n → Region old.message old.index n s condition vs
region_here {old} {new} {n} {s} {vs = vs} long g f holds e =
    let there : Stands old.message old.index s vs (old.index + n) = rw (← e) f.stands in
    record { octets = g.octets; short = g.short; within = stands_within old.message old.index s vs (old.index + n) long there; stands = there; holds = holds }

took_behind : {old new : Reading} {s : List Kind} {vs : Values s} → Took old s vs new → StaysBehind old new
took_behind {old} {new} {s} {vs} f = record { message = f.message; index = stands_inside old.message old.index s vs new.index f.stands }

refused_region : {e : DecodeError} {old new : Reading} {n : ℕ} {s : List Kind} {condition : Values s → Type 0} (c : Values s → ℕ → Type 0)
    → ((vs : Values s) → condition vs → c vs (old.index + n)) → Refused e old s c new → RefusedRegion e old n s condition new
refused_region {e} {old} {n = n} {s = s} c weaker r = record {
  behind = r.behind;
  none = unless_map e _ _ (λ (l : Lacks old s c). record { none = λ vs w. l.none vs (old.index + n) w.stands (weaker vs w.holds) }) r.none;
}

-- a record whose fields all say where they end, read without its length
pub fields_region : {T : Type 0} (s : List Kind) (condition : Values s → Type 0) (view : T → Values s) (r : Result T DecodeError) (old new : Reading)
    (n : ℕ) → IsLong s → AllEnd s → Given old n → ReadsIf s (λ vs e. condition vs) view r old new → ReadsRegion s condition view n r old new
fields_region s condition view (Ok x) old new n long ends g h = record {
  behind = took_behind h.0;
  here = region_here long g h.0 h.1;
  elsewhere = λ ne. record { none = λ ws w. ne (stands_end old.message old.index s (view x) ws new.index (old.index + n) ends h.0.stands w.stands) };
}
fields_region s condition view (Err e) old new n long ends g h = refused_region _ (λ vs holds. holds) h

-- a record that is read to its length
pub filled_region : {T : Type 0} (s : List Kind) (condition : Values s → Type 0) (view : T → Values s) (r : Result T DecodeError) (old new : Reading)
    (n : ℕ) → IsLong s → Given old n → ReadsTo s condition n view r old new → ReadsRegion s condition view n r old new
filled_region s condition view (Ok x) old new n long g h = record {
  behind = took_behind h.0;
  here = region_here long g h.0 h.1.1;
  elsewhere = λ ne. absurd (ne h.1.0);
}
filled_region s condition view (Err e) old new n long g h = refused_region _ (λ vs holds. (refl, holds)) h

-- a record whose fields all say where they end is read by the relation that they stand
pub fields_by : {T : Type 0} (s : List Kind) (condition : Values s → Type 0) (view : T → Values s) (r : Result T DecodeError) (old new : Reading)
    → ReadsIf s (λ vs e. condition vs) view r old new → ReadsBy (λ m p x q. Stands m p s (view x) q × condition (view x)) r old new
fields_by s condition view (Ok x) old new h = (took_behind h.0, (h.0.stands, h.1))
fields_by s condition view (Err e) old new h = (h.behind, unless_map e _ _ (λ l x q f. l.none (view x) q f.0 f.1) h.none)

-- why they are refused, and that none stand there
pub fields_why : {T : Type 0} (s : List Kind) (condition : Values s → Type 0) (view : T → Values s) (P : DecodeError → Type 0) (r : Result T DecodeError)
    (old new : Reading) → ReadsIf s (λ vs e. condition vs) view r old new → IfErr r P → IfErr r (λ e. P e × Refused e old s (λ vs e. condition vs) new)
fields_why s condition view P (Ok x) old new h p = tt
fields_why s condition view P (Err e) old new h p = (p, h)
