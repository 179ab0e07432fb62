-- SMIMEA: a certificate of a mail user (RFC 8162, 2), with the fields of TLSA.
use Rattle.dns_names_wire.specs.Facts.{Facts}
use Rattle.dns_rdata_base.specs.Ordered.{via}
use Rattle.dns_rdata_certs.specs.{TLSA.tlsa_facts, declared.smimea.SMIMEA.SMIMEA}

abbrev pub smimea_facts : Facts SMIMEA
smimea_facts = via (λ x. x.0) tlsa_facts
