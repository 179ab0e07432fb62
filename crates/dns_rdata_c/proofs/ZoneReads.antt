-- What a text of a zone file gives, and what is read of it again.
use Rattle.std.proofs.Common.{◌≡◌, ◌∙◌, ◌⊎◌, ℕ, ◌+◌, ◌<◌, ◌≤◌, ◌^◌, inl, inr, List, [], ◌++◌, length, drop, refl, sym, ap, subst, arith, Option, Fits, w8, slice_index_or}
use Rattle.std.proofs.{Math.Facts.Fits-lt-pow, lemmas.List.Elements.All-from_get_or}
use Rattle.dns_fields.{specs.Fields.Stands, specs.Labels.DomainName, specs.Octets.AreOctets, proofs.OctetLaws.AreOctets-front, proofs.OctetLaws.AreOctets-same}
use Rattle.dns_types.specs.declared.{error.ParseError.ParseError, record_type.RecordType.RecordType}
use Rattle.dns_types.specs.declared.error.ParseError.TheVariants as parse
use Rattle.dns_rdata.specs.{declared.record_data.RData.RData, WholeOctets.all_whole, WholeOctets.whole_data, Data.FieldsOf, Data.shape, Data.Fills}
use Rattle.dns_tokens.specs.Reads.{UnlessParseMemory}
use Rattle.dns_rdata_zone.{specs.ZoneGives.AreDataOf, specs.ZoneGives.GivesValue, specs.ZoneGives.GivesNone, specs.ZoneFaults.ZoneFault, proofs.Again.own_fields, proofs.Filled.fills_give, proofs.ZoneOnce.one_given}
use Rattle.dns_rdata_c.specs.{Buffers.IsPut, Calls.HasZoneData, Calls.IsNoZoneText, Calls.IsOrigin, Calls.OfZoneText, Calls.PutsWire, Status.parse_status, Why.IsWhyNone}

-- ---- octets that are put

-- a value fills its own octets
own_value : (m : List ℕ) (p n : ℕ) (t : RecordType) (v : RData) → Fills m p n t v → AreOctets (whole_data v) → length (whole_data v) ≤ 65535
    → AreDataOf (whole_data v) t v
own_value m p n t v f are short =
    let own = all_whole (shape t) f.values in
    let e : whole_data v ≡ own = ap (λ (x : FieldsOf). all_whole x.kinds x.values) f.value.fields in
    let zero : length own ≡ 0 + length own = omega arith in
    let few : length own < 65536 = omega (arith, short, ap length e) in
    let stands : Stands own 0 (shape t) f.values (0 + length own) =
    subst (λ (k : ℕ). Stands own 0 (shape t) f.values k) zero (own_fields m p [] (shape t) f.values (p + n) f.region.stands) in
    subst (λ (o : List ℕ). AreDataOf o t v) (sym e) (record {
      short = few;
      fills = record {
        values = f.values;
        region = record { octets = AreOctets-same (whole_data v) own e are; short = few; within = omega arith; stands = stands; holds = f.region.holds };
        value = f.value;
      };
    })

-- what a text gives, and what holds of its value
abbrev pub Gives : List ℕ → RecordType → List ℕ → RData → Type 0
Gives octets t text v = (origin : Option DomainName) × IsOrigin octets origin × GivesValue origin t text v

-- the octets of a value that a text gives are its data
pub own_data : {octets : List ℕ} {t : RecordType} {text old new : List ℕ} {count : ℕ} {v : RData} → ((i : ℕ) → Fits w8 (slice_index_or new i 0))
    → Gives octets t text v → PutsWire v old new count → HasZoneData octets t text (λ v. AreDataOf (whole_data v) t v)
own_data {octets} {t} {text} {old} {new} {count} {v} small g put =
    let w = whole_data v in
    let are : AreOctets new = All-from_get_or (λ octet. octet < 256) new 0 (λ i inside. let h : slice_index_or new i 0 < 2 ^ 8 = Fits-lt-pow (small i) in h) in
    record {
      origin = g.0;
      is_origin = g.1;
      value = v;
      gives = g.2;
      holds = own_value g.2.octets 0 (length g.2.octets) t v g.2.is_data.fills
          (AreOctets-front w (drop (length w) old) (AreOctets-same new (w ++ drop (length w) old) put.put.placed are)) put.short;
    }

-- what is written of data is read again as its octets
pub put_again : {octets : List ℕ} {t : RecordType} {text old new : List ℕ} {count : ℕ} {v : RData} → Gives octets t text v → PutsWire v old new count
    → OfZoneText t text (λ octets. IsPut octets old new count)
put_again {octets} {t} {text} {old} {new} {count} {v} g put = record {
  holds = λ m p n w f short e.
      let given : GivesValue g.0 t text w = subst (λ (s : List ℕ). GivesValue g.0 t s w) (sym e) (fills_give g.0 m p n t w f (omega (arith, short))) in
      subst (λ (x : RData). IsPut (whole_data x) old new count) (one_given g.0 t text v w g.2 given) put.put;
}

-- and is never rejected
pub never_refused : (origin : Option DomainName) (t : RecordType) (text : List ℕ) → GivesNone origin t text → OfZoneText t text (λ octets. ⊥)
never_refused origin t text none = record {
  holds = λ m p n v f short e. none.none v (subst (λ (s : List ℕ). GivesValue origin t s v) (sym e) (fills_give origin m p n t v f (omega (arith, short))));
}

-- ---- errors

-- memory ran out, or the status is that of a text without a value
high : (e : ParseError) → (e ≡ parse.Memory) ⊎ (48 ≤ parse_status e)
high parse.Memory = inl refl
high e = inr (omega arith)

unless : (e : ParseError) (P : Type 0) → 48 ≤ parse_status e → UnlessParseMemory e P → P
unless parse.Memory P h none = absurd (omega (arith, h))
unless e P h none = none

pub refused_text : (origin : Option DomainName) (t : RecordType) (text : List ℕ) (e : ParseError) (s : ℕ) → s ≡ parse_status e
    → UnlessParseMemory e (GivesNone origin t text) → (e ≡ parse.Memory) ⊎ ZoneFault origin t text e → (s ≡ 1) ⊎ ((48 ≤ s) × IsNoZoneText origin t text s)
refused_text origin t text e s told none (inl memory) = inl (told ∙ ap parse_status memory)
refused_text origin t text e s told none (inr fault) = elim (high e) [
  | inl memory ↦ inl (told ∙ ap parse_status memory)
  | inr h ↦ inr (omega (arith, told, h), record { none = unless e (GivesNone origin t text) h none; error = e; told = told; fault = fault })
]

-- an error other than that of memory says why a text gives no value
pub why_none : {octets : List ℕ} {t : RecordType} {text : List ℕ} {e : ParseError} {s : ℕ} (origin : Option DomainName) (P : ParseError → Type 0)
    → IsOrigin octets origin → s ≡ parse_status e → ¬ (s ≡ 1) → UnlessParseMemory e (GivesNone origin t text)
    → (e ≡ parse.Memory) ⊎ ZoneFault origin t text e → P e → IsWhyNone octets t text P
why_none {t = t} {text = text} {e = e} origin P is told other none (inl memory) holds = absurd (other (told ∙ ap parse_status memory))
why_none {t = t} {text = text} {e = e} origin P is told other none (inr fault) holds = elim (high e) [
  | inl memory ↦ absurd (other (told ∙ ap parse_status memory))
  | inr h ↦ record { origin = origin; is_origin = is; error = e; none = unless e (GivesNone origin t text) h none; fault = fault; holds = holds }
]
