use Rattle.std.proofs.Common.{◌≡◌, sym, ◌∙◌, ap}
use Rattle.std.specs.Option.{option_map}
use Rattle.dns_zone_rows.specs.{Registry.registered, Registry.shape_of, RegistryTexts.registered_texts}
use Rattle.dns_zone_rows.proofs.OtherTypes.{HasNoStruct, row_by_number, texts_by_number}
use Rattle.dns_zone_rows.proofs.table.zone_row_of.Goals as goal

pub returns-in_default-clause-zone_rows : goal.returns-in_default-clause-zone_rows
returns-in_default-clause-zone_rows c =
    let other : HasNoStruct c.args.record_type = record { not_A = c.in_default.not-A; not_NS = c.in_default.not-NS; not_CNAME = c.in_default.not-CNAME; not_SOA = c.in_default.not-SOA; not_PTR = c.in_default.not-PTR; not_HINFO = c.in_default.not-HINFO; not_MX = c.in_default.not-MX; not_TXT = c.in_default.not-TXT; not_AAAA = c.in_default.not-AAAA; not_SRV = c.in_default.not-SRV; not_NAPTR = c.in_default.not-NAPTR; not_CERT = c.in_default.not-CERT; not_SSHFP = c.in_default.not-SSHFP; not_TLSA = c.in_default.not-TLSA; not_SMIMEA = c.in_default.not-SMIMEA; not_OPENPGPKEY = c.in_default.not-OPENPGPKEY; not_CSYNC = c.in_default.not-CSYNC; not_SVCB = c.in_default.not-SVCB; not_HTTPS = c.in_default.not-HTTPS; not_CAA = c.in_default.not-CAA } in
    c.registry_row_of.ensures.zone_rows ∙ ap (λ n. option_map shape_of (registered n)) c.from.ensures ∙ sym (row_by_number c.args.record_type other)

pub returns-in_default-clause-texts : goal.returns-in_default-clause-texts
returns-in_default-clause-texts c =
    let other : HasNoStruct c.args.record_type = record { not_A = c.in_default.not-A; not_NS = c.in_default.not-NS; not_CNAME = c.in_default.not-CNAME; not_SOA = c.in_default.not-SOA; not_PTR = c.in_default.not-PTR; not_HINFO = c.in_default.not-HINFO; not_MX = c.in_default.not-MX; not_TXT = c.in_default.not-TXT; not_AAAA = c.in_default.not-AAAA; not_SRV = c.in_default.not-SRV; not_NAPTR = c.in_default.not-NAPTR; not_CERT = c.in_default.not-CERT; not_SSHFP = c.in_default.not-SSHFP; not_TLSA = c.in_default.not-TLSA; not_SMIMEA = c.in_default.not-SMIMEA; not_OPENPGPKEY = c.in_default.not-OPENPGPKEY; not_CSYNC = c.in_default.not-CSYNC; not_SVCB = c.in_default.not-SVCB; not_HTTPS = c.in_default.not-HTTPS; not_CAA = c.in_default.not-CAA } in
    c.registry_row_of.ensures.texts ∙ ap (λ n. option_map registered_texts (registered n)) c.from.ensures ∙ sym (texts_by_number c.args.record_type other)
