-- The options of a code, in lists that grow and that lose those of a code.
use Rattle.std.proofs.Common.{◌≡◌, Bool, true, false, not, List, [], ◌∷◌, ◌++◌, cond, filter, map, refl, sym, ap, ◌∙◌}
use Rattle.std.proofs.{lemmas.List.map-append, lemmas.List.Elements.filter-append}
use Rattle.dns_rdata_base.proofs.NumberedLaws.{numbered_equiv}
use Rattle.dns_rdata_options.specs.{OPT.Pair, OPT.code_eq, OPT.options_of, OPT.without, declared.opt.code.EdnsCode.EdnsCode}
use Rattle.dns_rdata_options.specs.EdnsCode.{edns_code_number, edns_code_variant}

-- what passes a test passes the other, so it is not lost
filter_kept : {X : Type 0} (p q : X → Bool) (xs : List X) → ((a : X) → p a ≡ true → q a ≡ true) → filter p (filter q xs) ≡ filter p xs
filter_kept p q [] h = refl
filter_kept {X} p q (a ∷ xs) h = by (filter_kept p q xs h) (q a) (p a) refl refl where
  by : filter p (filter q xs) ≡ filter p xs → (b c : Bool) → q a ≡ b → p a ≡ c
      → filter p (cond (q a) (a ∷ filter q xs) (filter q xs)) ≡ cond (p a) (a ∷ filter p xs) (filter p xs)
  by rest true c e f = rw e (ap (λ (l : List X). cond (p a) (a ∷ l) l) rest)
  by rest false true e f = let bad : true ≡ false = sym (h a f) ∙ e in absurd cc
  by rest false false e f = rw (e, f) rest

-- what passes a test does not pass the other, so nothing is left
filter_lost : {X : Type 0} (p q : X → Bool) (xs : List X) → ((a : X) → p a ≡ true → q a ≡ false) → filter p (filter q xs) ≡ []
filter_lost p q [] h = refl
filter_lost p q (a ∷ xs) h = by (filter_lost p q xs h) (q a) (p a) refl refl where
  by : filter p (filter q xs) ≡ [] → (b c : Bool) → q a ≡ b → p a ≡ c → filter p (cond (q a) (a ∷ filter q xs) (filter q xs)) ≡ []
  by rest true true e f = let bad : true ≡ false = sym e ∙ h a f in absurd cc
  by rest true false e f = rw e (rw f rest)
  by rest false c e f = rw e rest

pub options_joined : (code : EdnsCode) (x y : List Pair) → options_of code (x ++ y) ≡ options_of code x ++ options_of code y
options_joined code x y = ap (map (λ (p : Pair). p.1)) (filter-append (λ (p : Pair). code_eq code p.0) x y)
    ∙ map-append (λ (p : Pair). p.1) (filter (λ p. code_eq code p.0) x) (filter (λ p. code_eq code p.0) y)

pub options_removed : (code : EdnsCode) (x : List Pair) → options_of code (without code x) ≡ []
options_removed code x = ap (map (λ (p : Pair). p.1)) (filter_lost (λ (p : Pair). code_eq code p.0) (λ p. not (code_eq code p.0)) x (λ p e. ap not e))

pub options_kept : (code other : EdnsCode) (x : List Pair) → code_eq other code ≡ false → options_of other (without code x) ≡ options_of other x
options_kept code other x differ = ap (map (λ (p : Pair). p.1))
    (filter_kept (λ (p : Pair). code_eq other p.0) (λ p. not (code_eq code p.0)) x (λ p e. ap not (apart p.0 e)))
  where
    apart : (c : EdnsCode) → code_eq other c ≡ true → code_eq code c ≡ false
    apart c e =
        let eq = numbered_equiv edns_code_number edns_code_variant in
        eq.symm code c ∙ sym (eq.congr other c code e) ∙ differ
