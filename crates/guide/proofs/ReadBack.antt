-- What is read, emitted and read again.
use Rattle.std.proofs.Common.{◌≡◌, ℕ, true, List, ap, sym, ◌∙◌}
use Rattle.std.specs.Bool.{IsTrue}
use Rattle.dns_rdata.specs.{declared.record_data.RData.RData, Data.Fills, Equal.equal}

-- the same octets at the same place
pub elsewhere : {m m' : List ℕ} {p p' n n' : ℕ} {t : _} {v : RData} → m' ≡ m → p' ≡ p → n' ≡ n → Fills m p n t v → Fills m' p' n' t v
elsewhere a b c h = rw (a, b, c) h

pub told : (v : RData) {w x : RData} → IsTrue (equal v x) → x ≡ w → equal v w ≡ true
told v h e = ap (equal v) (sym e) ∙ h
