use Rattle.std.proofs.{Common.◌≡◌, Common.refl, Common.decimal, Common.rules, Output.has_written_append, Output.has_written_of_eq}
use Rattle.std.specs.Int.{cast_unsigned, w32}
use Rattle.dns_rdata_zone.specs.Names.{zone_name}
use Rattle.dns_rdata_zone.proofs.Joined.{soa_joined}
use Rattle.dns_rdata_zone.proofs.records.ZoneSoaDisplay.fmt.Goals as goal

pub returns-clause-writes : goal.returns-clause-writes
returns-clause-writes g c = λ p ok.
    let x = c.args.self.now.0.now in
    let refresh : c.cast_unsigned-refresh.result ≡ cast_unsigned w32 x.refresh = search rules in
    let retry : c.cast_unsigned-retry.result ≡ cast_unsigned w32 x.retry = search rules in
    let expire : c.cast_unsigned-expire.result ≡ cast_unsigned w32 x.expire = search rules in
    let first = c.in_ok-write.ensures.writes p refl in
    has_written_of_eq _ _ _ _ _
    (soa_joined (zone_name x.mname) (zone_name x.rname) (decimal x.serial) c.cast_unsigned-refresh.result c.cast_unsigned-retry.result
    c.cast_unsigned-expire.result (cast_unsigned w32 x.refresh) (cast_unsigned w32 x.retry) (cast_unsigned w32 x.expire) (decimal x.minimum)
    refresh retry expire)
    (has_written_append _ _ _ _ _ _ first (c.write-2.ensures.writes first.plain ok))
