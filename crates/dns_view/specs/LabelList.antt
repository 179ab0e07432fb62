-- The labels of a name in a message (RFC 1035, 3.1 and 4.1.4).
use Rattle.std.specs.Prelude.{ℕ, zero, suc, ◌+◌, ◌*◌, ◌-◌, ◌==◌, nat_le, nat_lt, if◌then◌else◌}
use Rattle.std.specs.Prelude.{List, [], ◌∷◌, length, take, drop}
use Rattle.dns_fields.specs.Labels.{lowered}

-- what a compression pointer of two octets leads to
abbrev pub pointed : (ℕ → List (List ℕ)) → ℕ → List ℕ → List (List ℕ)
pointed at high [] = []
pointed at high (low ∷ rest) = at ((high - 192) * 256 + low)

-- after so many octets: labels up to an octet 0, or up to a compression pointer, and then those at its target
abbrev pub labels_after : (ℕ → List (List ℕ)) → ℕ → List ℕ → List (List ℕ)
labels_after at n [] = []
labels_after at (suc n) (octet ∷ rest) = labels_after at n rest
labels_after at zero (size ∷ rest) =
    if size == 0 then [] else
    if nat_lt size 64 then (if nat_le size (length rest) then take size rest ∷ labels_after at size rest else []) else
    if nat_lt size 192 then [] else
    pointed at size rest

-- the labels at an offset, over at most so many compression pointers
abbrev pub labels_over : ℕ → List ℕ → ℕ → List (List ℕ)
labels_over zero message offset = []
labels_over (suc n) message offset =
    labels_after (λ target. if nat_lt target offset then labels_over n (take offset message) target else []) 0
    (drop offset message)

-- the labels at an offset: each compression pointer leads to an earlier offset
abbrev pub labels_at : List ℕ → ℕ → List (List ℕ)
labels_at message offset = labels_over (suc offset) message offset

-- those that are left at a later offset of the run of labels that starts at `start`
abbrev pub labels_left : List ℕ → ℕ → ℕ → List (List ℕ)
labels_left message start offset =
    labels_after (λ target. if nat_lt target start then labels_over start (take start message) target else []) 0
    (drop offset message)

-- the uncompressed octets in lower case of the name at an offset
abbrev pub low_octets : List ℕ → ℕ → List ℕ
low_octets message offset = lowered (labels_at message offset)
