-- A field whose octets are made anew, as a message of its own.
use Rattle.std.proofs.Common.{◌≡◌, ℕ, ◌-◌, List, length, take, drop}
use Rattle.dns_fields.specs.declared.Kind.{Kind}
use Rattle.dns_fields.specs.declared.Kind.TheVariants.{Options, Parameters, Bitmap}
use Rattle.dns_fields.specs.{Fields.Value, Fields.Field}
use Rattle.dns_view.specs.Putting.{IsRecoded}
use Rattle.dns_check.proofs.Alone.{options_alone, parameters_alone, bitmap_alone}

pub recoded_alone : {m s : List ℕ} {i q : ℕ} (k : Kind) (v : Value k) → IsRecoded k → s ≡ take (q - i) (drop i m) → Field m i k v q → Field s 0 k v (length s)
recoded_alone Options v r same f = record { is = options_alone v same f.is }
recoded_alone Parameters v r same f = parameters_alone v same f
recoded_alone Bitmap v r same f = bitmap_alone v same f
recoded_alone k v r same f = absurd r
