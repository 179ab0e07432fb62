-- Codes and numbers tell types apart.
use Rattle.std.proofs.{lemmas.Bool.Decides.nat_tests, Common.ap, Common.arith}
use Rattle.std.proofs.Common.{◌≡◌, ℕ, ◌+◌, ◌*◌, ◌/◌, ◌%◌, ◌==◌, Bool, true, false, cond, List, [], ◌∷◌, find, unwrap_or, Option, Some, eqb-true, refl, sym, ◌∙◌}
use Rattle.std.specs.{Cmp.unsigned_Decides, Bool.Decides}
use Rattle.dns_types.specs.RecordTypes.{number_of, named_types, record_type_of, code_of}
use Rattle.dns_types.specs.declared.record_type.RecordType.{TheVariants.Unknown, RecordType}

-- the type of a code
type_of_code : ℕ → RecordType
type_of_code c = cond (c % 2 == 0) (record_type_of (c / 2)) (Unknown (c / 2))

type_of_code-code_of : (t : RecordType) → type_of_code (code_of t) ≡ t
unfolding type_of_code
type_of_code-code_of (Unknown n) =
    let odd : (2 * n + 1) % 2 ≡ 1 = omega arith in
    let half : (2 * n + 1) / 2 ≡ n = omega arith in
    rw (odd, half) refl
type_of_code-code_of t = refl

-- two types of one code are one type, so the codes' equality is the types'
pub code_of-Decides : (a b : RecordType) → Decides (code_of a == code_of b) (a ≡ b)
code_of-Decides a b =
    let codes = unsigned_Decides (code_of a) (code_of b) in
    (λ e. sym (type_of_code-code_of a) ∙ ap type_of_code (codes.0 e) ∙ type_of_code-code_of b, λ e. codes.1 (ap code_of e))

-- the type of a number has that number
pub number_of-record_type_of : (n : ℕ) → number_of (record_type_of n) ≡ n
number_of-record_type_of n = grind (arith, nat_tests)
