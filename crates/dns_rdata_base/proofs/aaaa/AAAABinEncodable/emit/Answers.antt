use Rattle.std.proofs.Common.{◌≡◌, length, rules}
use Rattle.dns_names_wire.proofs.FieldWrites.{emits_one, octets_emit, emits_extend}
use Rattle.dns_rdata_base.proofs.aaaa.AAAABinEncodable.emit.Goals as goal

pub returns : goal.returns
returns c = let n : length c.octets.result ≡ 16 = search rules in let e =
    emits_one _ _ _ _ _ (octets_emit 16 _ _ _ _ (rw c.octets.ensures at n) (rw c.octets.ensures at c.emit_vec.ensures.emits)) in
    record { emits = e; extends = emits_extend _ _ _ _ _ _ e }
