use Rattle.std.proofs.{Common.sym, lemmas.List.append-nil}
use Rattle.dns_fields.specs.Fields.{field_octets}
use Rattle.dns_names_wire.proofs.{FieldWrites.emits_extend, NamelessWrites.emits_nameless, NamelessWrites.octet_then}
use Rattle.dns_rdata_certs.specs.TLSA.{tlsa_shape, tlsa_fields}
use Rattle.dns_rdata_certs.proofs.tlsa.TLSABinEncodable.emit.Goals as goal

pub returns : goal.returns
unfolding field_octets
returns c =
    let usage = rw c.from-usage.ensures at c.from-usage.type_inv in
    let selector = rw c.from-selector.ensures at c.from-selector.type_inv in
    let matching = rw c.from-matching.ensures at c.from-matching.type_inv in
    let e = rw (c.from-usage.ensures, c.from-selector.ensures, c.from-matching.ensures, c.as_slice.ensures.value) at c.emit_both.ensures.emits in
    let h = emits_nameless tlsa_shape (tlsa_fields c.args.self.now) _ _ _ _ tt (usage, (selector, (matching, (tt, tt))))
    (octet_then _ _ _ usage (octet_then _ _ _ selector (octet_then _ _ _ matching (sym (append-nil c.args.self.now.cert_data))))) e in
    record { emits = h; extends = emits_extend _ _ _ _ _ _ h }
