-- Service bindings in zone files (RFC 9460, 2.1).
use Rattle.std.specs.Prelude.{ℕ, if◌then◌else◌, List, ◌++◌, flat_map, codes, decimal}
use Rattle.std.specs.List.{list_all}
use Rattle.dns_rdata_service.specs.{SVCB.svcb_shape, SVCB.svcb_fields, declared.svcb.SVCB.SVCB}
use Rattle.dns_rdata_zone.specs.{Generic.generic, Names.zone_name, Parameters.zone_parameter, Parameters.has_text}
use Rattle.dns_rdata.specs.WholeOctets.{all_whole}

-- priority, target, parameters
abbrev pub service_octets : SVCB → List ℕ
service_octets x = all_whole svcb_shape (svcb_fields x)

abbrev pub service_text : SVCB → List ℕ
service_text x = (decimal x.svc_priority ++ codes " " ++ zone_name x.target_name)
    ++ flat_map (λ p. codes " " ++ zone_parameter p) x.svc_params

-- the unknown-data form, if a parameter has no text
abbrev pub zone_service : SVCB → List ℕ
zone_service x = if list_all has_text x.svc_params then service_text x else generic (service_octets x)
