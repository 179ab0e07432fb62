-- Where there is no header.
use Rattle.std.proofs.Common.{ℕ, ◌<◌, List, length, arith}
use Rattle.dns_message.specs.Headers.{HasHeader}
use Rattle.dns_message.proofs.NumberFields.{number_end}

pub no_header : {m : List ℕ} → length m < 12 → HasHeader m → ⊥
no_header {m} short h =
    let f = h.is.numbers in
    let last = number_end f.2.2.2.2.2.1 in
    omega (arith, last.1, f.2.2.2.2.2.2, short)
