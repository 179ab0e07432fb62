use Rattle.std.proofs.Common.{◌≡◌, ◌≤◌, ◌+◌, nat_le, length, drop}
use Rattle.std.specs.List.{flat_map, list_all}
use Rattle.dns_fields.specs.Tlvs.{string}
use Rattle.dns_rdata_service.proofs.steps.names_size.Given as goal

abbrev pub invariant-loop-name : goal.invariant-loop-name
invariant-loop-name l = record {
  size : l.size + length (flat_map string (drop l.name-index l.names)) ≡ length (flat_map string l.names);
  short : list_all (λ s. nat_le (length s) 255) (drop l.name-index l.names) ≡ list_all (λ s. nat_le (length s) 255) l.names;
  few : l.size ≤ 65535;
}
