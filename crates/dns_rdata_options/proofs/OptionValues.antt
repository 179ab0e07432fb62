-- Which options codes and octets give, and the values of the wire that they hold.
use Rattle.std.proofs.{lemmas.Bool.Decides.nat_tests, Common.subst}
use Rattle.std.proofs.Common.{◌≡◌, ◌≢◌, ℕ, ◌==◌, Bool, false, cond, List, ◌∷◌, length, drop, refl, sym, ap, ◌∙◌, arith}
use Rattle.std.specs.Int.{bytes_high_first}
use Rattle.dns_fields.specs.Tlvs.{Subnet, option_octets, OptionHeld}
use Rattle.dns_fields.specs.Octets.{AreOctets}
use Rattle.dns_fields.proofs.OctetLaws.{AreOctets-back, AreOctets-front, AreOctets-same, AreOctets-tail}
use Rattle.dns_rdata_base.proofs.NumberLaws.{number-numbered_of}
use Rattle.dns_rdata_options.specs.ClientSubnet.{subnet_value}
use Rattle.dns_rdata_options.specs.EdnsCode.{edns_code_number, named_edns_codes, other_edns_code, edns_code_of}
use Rattle.dns_rdata_options.specs.OPT.{option_of}
use Rattle.dns_rdata_options.specs.{EdnsOption.option_value, EdnsOption.IsOptionOf, declared.opt.subnet.ClientSubnet.ClientSubnet}
use Rattle.dns_rdata_options.specs.declared.opt.{option.EdnsOption.EdnsOption, code.EdnsCode.EdnsCode}
use Rattle.dns_rdata_options.proofs.{Subnets.begun}
use Rattle.dns_rdata_options.specs.declared.opt.code.EdnsCode.TheVariants as codes
use Rattle.dns_rdata_options.specs.declared.opt.option.EdnsOption.TheVariants as edns

pub edns_code_number-of : (n : ℕ) → edns_code_number (edns_code_of n) ≡ n
unfolding edns_code_of
edns_code_number-of n = number-numbered_of edns_code_number named_edns_codes other_edns_code n refl

of_8 : edns_code_of 8 ≡ codes.Subnet
unfolding edns_code_of
of_8 = refl

of_3 : edns_code_of 3 ≡ codes.NSID
unfolding edns_code_of
of_3 = refl

-- ---- the value that an option holds

pub record HeldAs (n : ℕ) (s : List ℕ) (x : EdnsOption) : Type 0 where
  pub held : OptionHeld n s (option_value x)
  pub given : x ≡ option_of n (option_value x)

three_else : (n : ℕ) (x y : EdnsOption) → n ≢ 3 → cond (n == 3) x y ≡ y
three_else n x y h = let no : (n == 3) ≡ false = grind (arith, nat_tests) in rw no refl

-- what a code and octets give holds these octets' value, and is the option that the value gives
pub held_code : (code : EdnsCode) (s : List ℕ) (x : EdnsOption) → edns_code_of (edns_code_number code) ≡ code → IsOptionOf code s x
    → HeldAs (edns_code_number code) s x
held_code codes.Subnet s (edns.Subnet x) e h = record {
  held = (refl, h.1.fits, drop (length (option_octets (subnet_value x))) s, begun h.1.at);
  given = ap edns.Subnet h.1.read.padded;
}
held_code codes.NSID s (edns.NSID t) e h = record { held = ((λ k. omega (arith, k)), sym h.0); given = refl }
held_code codes.Subnet s x e h = absurd h
held_code codes.NSID s x e h = absurd h
held_code code s x e h =
    let n = edns_code_number code in
    let other = three_else n (edns.NSID s) (edns.Unknown n s) (λ k. cc (sym e ∙ ap edns_code_of k ∙ of_3)) in
    subst (HeldAs n s) (sym h) (record { held = ((λ k. cc (sym e ∙ ap edns_code_of k ∙ of_8)), refl); given = sym other })

-- the octets of an address that is held
pub held_octets : (n : ℕ) (s : List ℕ) (f source scope : ℕ) (a : List ℕ) → AreOctets s → OptionHeld n s (Subnet f source scope a) → AreOctets a
held_octets n s f source scope a are h = AreOctets-tail scope a (AreOctets-tail source (scope ∷ a) (AreOctets-back (bytes_high_first 2 f) (source ∷ scope ∷ a)
    (AreOctets-front (option_octets (Subnet f source scope a)) h.2 (AreOctets-same s _ h.3 are))))
