use Rattle.std.proofs.Common.{inl, inr, refl, Err}
use Rattle.dns_rdata_c.proofs.ViewCalls.{counted}
use Rattle.dns_types.specs.declared.error.DecodeError.TheVariants as decode
use Rattle.dns_rdata_c.proofs.rdata.dns_rdata_check.Goals as goal

pub returns-in_default-clause-why : goal.returns-in_default-clause-why
returns-in_default-clause-why c = λ bad. record {
  error = decode.InsufficientBytes;
  own = Err decode.InsufficientBytes;
  offset = c.args.rdata.now.offset;
  told = c.tell.ensures.status;
  numbers = c.tell.ensures.numbers;
  cause = inl (record { outside = c.in_default.ensures.outside.1; error = refl; is_own = refl; stays = refl });
}

pub returns-in-Ok-by_length-clause-ok : goal.returns-in-Ok-by_length-clause-ok
returns-in-Ok-by_length-clause-ok c = λ is.
    let own = c.own_result-own in
    let e = rw (c.in-Ok.ensures.there, c.new-length.ensures, c.from.ensures.0) at own.ensures in
    rw c.in-Ok-by_length.is at (counted own.result c.args.rdata.now.offset own.new.decoder.index c.args.rdata.now.length _ _ (rw c.new-length.ensures at c.by_length.ensures) e.behind.index e.whole e.elsewhere e.refused own.ensures.allocates_nothing)

pub returns-in-Err-clause-refused : goal.returns-in-Err-clause-refused
returns-in-Err-clause-refused c =
    let own = c.own_result-own in
    let e = rw (c.in-Ok.ensures.there, c.new-length.ensures, c.from.ensures.0) at own.ensures in
    let t = rw c.in-Err.is at (counted own.result c.args.rdata.now.offset own.new.decoder.index c.args.rdata.now.length _ _ (rw c.new-length.ensures at c.by_length.ensures) e.behind.index e.whole e.elsewhere e.refused own.ensures.allocates_nothing) in
    λ high. t.0

pub returns-in-Err-clause-status : goal.returns-in-Err-clause-status
returns-in-Err-clause-status c =
    let own = c.own_result-own in
    let e = rw (c.in-Ok.ensures.there, c.new-length.ensures, c.from.ensures.0) at own.ensures in
    let t = rw c.in-Err.is at (counted own.result c.args.rdata.now.offset own.new.decoder.index c.args.rdata.now.length _ _ (rw c.new-length.ensures at c.by_length.ensures) e.behind.index e.whole e.elsewhere e.refused own.ensures.allocates_nothing) in
    inr (c.tell-in-Err.ensures.refused t.1)
