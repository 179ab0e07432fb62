use Rattle.std.proofs.{Common.◌≡◌, Common.◌+◌, Common.arith, lemmas.Result.err_from_is_err_and}
use Rattle.dns_rdata_policy.proofs.CsyncValues.{csync_read, types_stop}
use Rattle.dns_rdata_policy.proofs.csync.CSYNCDecodesRow.read_row.Goals as goal

pub returns-in_err-type_bit_maps-clause-reads : goal.returns-in_err-type_bit_maps-clause-reads
returns-in_err-type_bit_maps-clause-reads c =
    let p = err_from_is_err_and c.from_residual-in_err-type_bit_maps.result c.from_residual-in_err-type_bit_maps.ensures.1 in
    let all : c.new-left.result + 6 ≡ c.args.length = omega (arith, c.new-left.ensures, c.unverified-len.ensures, c.if-len-lt6.false) in
    rw (p.1, p.2) (types_stop c.new-left.result (record { octets = c.index-start.ensures.octets; short = omega arith }) c.in_ok-read_u32.ensures.taken
    c.in_ok-read_u16.ensures.taken all c.in_err-type_bit_maps.ensures.fields)

pub returns-clause-reads : goal.returns-clause-reads
returns-clause-reads c =
    let all : c.new-left.result + 6 ≡ c.args.length = omega (arith, c.new-left.ensures, c.unverified-len.ensures, c.if-len-lt6.false) in
    csync_read c.new-left.result c.with_flags.result (record { octets = c.index-start.ensures.octets; short = omega arith }) c.in_ok-read_u32.ensures.taken
    c.in_ok-read_u16.ensures.taken all (rw c.unverified-flags.ensures at c.if-flags-ne0.false) c.in_ok-type_bit_maps.ensures.fields
    (rw (c.unverified-soa_serial.ensures, c.unverified-flags.ensures) at c.with_flags.ensures.fields)
