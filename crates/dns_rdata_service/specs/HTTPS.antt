-- HTTPS: how a web service is reached (RFC 9460, 9), with the fields of SVCB.
use Rattle.dns_names_wire.specs.Facts.{Facts}
use Rattle.dns_rdata_base.specs.Ordered.{via}
use Rattle.dns_rdata_service.specs.{SVCB.svcb_facts, declared.https.HTTPS.HTTPS}

abbrev pub https_facts : Facts HTTPS
https_facts = via (λ x. x.0) svcb_facts
