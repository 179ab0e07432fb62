-- RDATA that is read at an offset of a message.
use Rattle.std.proofs.Common.{◌≡◌, ◌≢◌, ℕ, List, Result, Ok, Err, subst}
use Rattle.std.specs.{Result.IfOk, Result.IfErr}
use Rattle.dns_types.specs.{declared.record_type.RecordType.RecordType, declared.error.DecodeError.DecodeError}
use Rattle.dns_types.specs.declared.error.DecodeError.TheVariants as decode
use Rattle.dns_names_wire.specs.State.{Reading}
use Rattle.dns_rdata.specs.{Data.NoValue, ReadErrors.IsReadError, Views.IsViewOf, declared.view.RDataRef.RDataRef}
use Rattle.dns_names_wire.specs.Steps.{Leaves}
use Rattle.dns_rdata.specs.Steps.{RDataSteps}
use Rattle.dns_message.specs.Items.{IsRefusedAt}

-- by a decoder that begins at q
pub found_at : (m : List ℕ) (q n : ℕ) (t : RecordType) (r : Result RDataRef DecodeError) (d : Reading) → d ≡ record { message = m; index = q }
    → IfOk r (IsViewOf d.message d.index n t) → IfOk r (IsViewOf m q n t)
found_at m q n t r d is h = subst (λ (x : Reading). IfOk r (IsViewOf x.message x.index n t)) is h

pub refused_at : (m : List ℕ) (q n : ℕ) (t : RecordType) (r : Result RDataRef DecodeError) (d new : Reading) → d ≡ record { message = m; index = q }
    → IfErr r (λ e. NoValue d.message d.index n t) → IfErr r (IsReadError t n d new) → IfErr r (λ e. e ≢ decode.Memory) → IfErr r (IsRefusedAt m q n t)
refused_at m q n t (Ok v) d new is none why memory = tt
refused_at m q n t (Err e) d new is none why memory = record {
  none = subst (λ (x : Reading). NoValue x.message x.index n t) is none;
  stopped = new;
  cause = subst (λ (x : Reading). IsReadError t n x new e) is why;
  memory = memory;
}

-- what is left after the compression steps that are taken there
pub leaves_at : (m : List ℕ) (q n k : ℕ) (t : RecordType) (d : Reading) (left after : ℕ) → d ≡ record { message = m; index = q } → n ≡ k
    → Leaves (RDataSteps t n d) left after → Leaves (RDataSteps t k (record { message = m; index = q })) left after
leaves_at m q n k t d left after is same h = subst (λ (x : Reading). Leaves (RDataSteps t k x) left after) is
    (subst (λ (x : ℕ). Leaves (RDataSteps t x d) left after) same h)
