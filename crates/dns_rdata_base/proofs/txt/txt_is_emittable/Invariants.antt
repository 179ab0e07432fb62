use Rattle.std.proofs.Common.{◌≡◌, nat_le, length, drop}
use Rattle.std.specs.List.{list_all}
use Rattle.dns_rdata_base.proofs.txt.txt_is_emittable.Given as goal

abbrev pub invariant-loop-text : goal.invariant-loop-text
invariant-loop-text l = list_all (λ t. nat_le (length t) 255) (drop l.text-index l.x.txt_data) ≡ list_all (λ t. nat_le (length t) 255) l.x.txt_data
