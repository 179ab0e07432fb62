-- Parameters are read as they are written.
use Rattle.std.proofs.Common.{◌≡◌, ℕ, ◌+◌, false, eqb, List, [], ◌∷◌, ◌++◌, length, take, drop, refl, sym, ◌∙◌, ap, arith}
use Rattle.std.specs.List.{position_or_len}
use Rattle.std.proofs.{Math.Seq.take-append_seam, Math.Seq.drop-append-add, lemmas.Bool.Decides.nat_tests}
use Rattle.dns_zone_rows.specs.{ParameterLaws.HasNoEquals, ParameterLaws.TokensRead, Parameters.is_equals, Parameters.name_in, Parameters.value_in}

-- the `=` after a name is the first
first_equals : (name value : List ℕ) → HasNoEquals name → position_or_len is_equals (name ++ 61 ∷ value) ≡ length name
first_equals [] value h = refl
first_equals (c ∷ name) value h =
    let other = h.0 in
    let e : eqb c 61 ≡ false = grind (arith, nat_tests) in
    let rest = first_equals name value h.1 in
    rw e (omega (arith, rest))

name_before : (name value : List ℕ) → HasNoEquals name → name ≡ name_in (name ++ 61 ∷ value)
name_before name value h = sym (ap (λ (n : ℕ). take n (name ++ 61 ∷ value)) (first_equals name value h) ∙ take-append_seam name (61 ∷ value))

value_behind : (name value : List ℕ) → HasNoEquals name → value ≡ value_in (name ++ 61 ∷ value)
value_behind name value h = sym (ap (λ (n : ℕ). drop (n + 1) (name ++ 61 ∷ value)) (first_equals name value h) ∙ drop-append-add name (61 ∷ value) 1)

pub tokens_read : TokensRead
tokens_read name value p no_equals has = (
  record {
    name = name;
    value = value;
    written = (record { bare = refl; apart = refl }, name_before name value no_equals, value_behind name value no_equals);
    has = has;
  },
  record {
    name = name;
    value = value;
    written = (record { bare = refl; apart = refl }, refl, name_before name [] no_equals, record { quoted = refl; joined = refl }, refl);
    has = has;
  },
)
