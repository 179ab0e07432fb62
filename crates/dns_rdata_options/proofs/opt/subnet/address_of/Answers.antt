use Rattle.std.proofs.{Common.ℕ, Common.List, Common.◌++◌, Common.ap, Common.◌∙◌, Common.length, Common.drop, Common.replicate, lemmas.List.drop-replicate}
use Rattle.std.specs.Net.Addr.{segments_of}
use Rattle.dns_rdata_options.proofs.Subnets.{six}
use Rattle.dns_rdata_options.proofs.opt.subnet.address_of.Goals as goal

pub returns-else-family-eq1 : goal.returns-else-family-eq1
returns-else-family-eq1 c =
    let s = c.args.octets.now in
    six c.args.family s c.from_octets-else-family-eq1.result c.if-family-eq1.false
    (c.from_octets-else-family-eq1.ensures ∙ ap segments_of
    (ap (λ (o : List ℕ). o ++ drop (length s) (replicate {A = ℕ} 16 0)) c.copy_from_slice-else-family-eq1.ensures.after
    ∙ ap (λ (t : List ℕ). s ++ t) (drop-replicate {X = ℕ} (length s) 16 0)))
