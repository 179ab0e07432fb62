-- RDATA printed as zone text.
use Rattle.std.specs.Prelude.{ℕ, List, [], ◌++◌, codes, decimal}
use Rattle.dns_rdata.specs.{Data.fields_of, declared.record_data.RData.RData, WholeOctets.name_octets, WholeOctets.all_whole}
use Rattle.dns_rdata.specs.declared.record_data.RData.TheVariants as rdata
use Rattle.dns_rdata_base.specs.{A.a_text, AAAA.aaaa_text}
use Rattle.dns_rdata_zone.specs.{Generic.generic, Options.zone_options, Services.zone_service, Names.zone_name}
use Rattle.dns_rdata_zone.specs.Records.{zone_hinfo, zone_txt, zone_naptr, zone_soa, zone_caa, zone_cert, zone_sshfp, zone_tlsa, zone_openpgpkey}
use Rattle.dns_rdata_zone.specs.Records.{zone_csync}

-- ---- the octets

abbrev pub zone_octets : RData → List ℕ
zone_octets v = all_whole (fields_of v).kinds (fields_of v).values

-- ---- the text

abbrev pub zone_text : RData → List ℕ
zone_text (rdata.A x) = a_text x
zone_text (rdata.AAAA x) = aaaa_text x
zone_text (rdata.ANAME x) = generic (name_octets x.0)
zone_text (rdata.CAA x) = zone_caa x
zone_text (rdata.CERT x) = zone_cert x
zone_text (rdata.CNAME x) = zone_name x.0
zone_text (rdata.CSYNC x) = zone_csync x
zone_text (rdata.HINFO x) = zone_hinfo x
zone_text (rdata.HTTPS x) = zone_service x.0
zone_text (rdata.MX x) = decimal x.preference ++ codes " " ++ zone_name x.exchange
zone_text (rdata.NAPTR x) = zone_naptr x
zone_text (rdata.NULL x) = generic x.anything
zone_text (rdata.NS x) = zone_name x.0
zone_text (rdata.OPENPGPKEY x) = zone_openpgpkey x
zone_text (rdata.OPT x) = zone_options x
zone_text (rdata.PTR x) = zone_name x.0
zone_text (rdata.SMIMEA x) = zone_tlsa x.0
zone_text (rdata.SOA x) = zone_soa x
zone_text (rdata.SRV x) = decimal x.priority ++ codes " " ++ decimal x.weight ++ codes " " ++ decimal x.port
    ++ codes " " ++ zone_name x.target
zone_text (rdata.SSHFP x) = zone_sshfp x
zone_text (rdata.SVCB x) = zone_service x
zone_text (rdata.TLSA x) = zone_tlsa x
zone_text (rdata.TXT x) = zone_txt x
zone_text (rdata.Unknown code x) = generic x.anything
zone_text (rdata.Update0 t) = generic []
zone_text rdata.ZERO = generic []
