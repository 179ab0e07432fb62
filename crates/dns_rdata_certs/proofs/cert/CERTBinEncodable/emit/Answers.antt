use Rattle.std.proofs.{Common.sym, Common.arith, lemmas.List.append-nil}
use Rattle.dns_fields.specs.Fields.{field_octets}
use Rattle.dns_names_wire.proofs.{FieldWrites.emits_extend, NamelessWrites.emits_nameless, NamelessWrites.octet_then, NamelessWrites.number_then}
use Rattle.dns_rdata_certs.specs.CERT.{cert_shape, cert_fields}
use Rattle.dns_rdata_certs.proofs.cert.CERTBinEncodable.emit.Goals as goal

pub returns : goal.returns
unfolding field_octets
returns c =
    let kind = rw c.from.ensures at c.from.type_inv in
    let algorithm = rw c.from-algorithm.ensures at c.from-algorithm.type_inv in
    let e = rw (c.to_be_bytes-kind.ensures, c.to_be_bytes-tag.ensures, c.from.ensures, c.from-algorithm.ensures, c.as_slice.ensures.value) at
    c.emit_both.ensures.emits in
    let h = emits_nameless cert_shape (cert_fields c.args.self.now) _ _ _ _ tt (kind, (omega arith, (algorithm, (tt, tt))))
    (number_then 2 _ _ _ (number_then 2 _ _ _ (octet_then _ _ _ algorithm (sym (append-nil c.args.self.now.cert_data))))) e in
    record { emits = h; extends = emits_extend _ _ _ _ _ _ h }
