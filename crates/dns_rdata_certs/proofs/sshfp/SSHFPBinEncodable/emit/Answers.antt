use Rattle.std.proofs.{Common.sym, lemmas.List.append-nil}
use Rattle.dns_fields.specs.Fields.{field_octets}
use Rattle.dns_names_wire.proofs.{FieldWrites.emits_extend, NamelessWrites.emits_nameless, NamelessWrites.octet_then}
use Rattle.dns_rdata_certs.specs.SSHFP.{sshfp_shape, sshfp_fields}
use Rattle.dns_rdata_certs.proofs.sshfp.SSHFPBinEncodable.emit.Goals as goal

pub returns : goal.returns
unfolding field_octets
returns c =
    let algorithm = rw c.from-algorithm.ensures at c.from-algorithm.type_inv in
    let kind = rw c.from-kind.ensures at c.from-kind.type_inv in
    let e = rw (c.from-algorithm.ensures, c.from-kind.ensures, c.as_slice.ensures.value) at c.emit_both.ensures.emits in
    let h = emits_nameless sshfp_shape (sshfp_fields c.args.self.now) _ _ _ _ tt (algorithm, (kind, (tt, tt)))
    (octet_then _ _ _ algorithm (octet_then _ _ _ kind (sym (append-nil c.args.self.now.fingerprint)))) e in
    record { emits = h; extends = emits_extend _ _ _ _ _ _ h }
