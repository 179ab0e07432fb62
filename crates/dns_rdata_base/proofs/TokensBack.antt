-- Printed records are read back from their words.
use Rattle.std.proofs.Common.{ℤ, pos, negsuc, Option, [], ◌∷◌, refl, arith}
use Rattle.std.specs.{Fmt.signed_decimal, Int.cast_unsigned, Int.w32, Net.Addr.IsIpv4Addr, Net.Addr.IsIpv6Addr}
use Rattle.dns_fields.specs.Labels.{DomainName}
use Rattle.dns_tokens.specs.{Forms.ttl, Printed.TextReadsBack}
use Rattle.dns_tokens.proofs.Printed.{GivesBack, token_row_back, back_token, back_ignored, ttl_back, name_back, ipv4_back, ipv6_back}
use Rattle.dns_rdata_base.specs.{A.a_fields, A.a_text, A.a_tokens, AAAA.aaaa_fields, AAAA.aaaa_text, AAAA.aaaa_tokens}
use Rattle.dns_rdata_base.specs.SOA.{soa_fields, soa_text, soa_tokens, AreSeconds, IsPrintedSoa}

pub a_back : TextReadsBack a_tokens a_fields a_text (λ x. IsIpv4Addr x.0)
a_back = record { back = λ x h. token_row_back a_tokens (a_fields x) _ [] _ refl (back_token (ipv4_back x.0 h) back_ignored) }

pub aaaa_back : TextReadsBack aaaa_tokens aaaa_fields aaaa_text (λ x. IsIpv6Addr x.0)
aaaa_back = record { back = λ x h. token_row_back aaaa_tokens (aaaa_fields x) _ [] _ refl (back_token (ipv6_back x.0 h) back_ignored) }

seconds_back : (z : ℤ) → AreSeconds z → GivesBack (ttl 2147483647) (cast_unsigned w32 z) (signed_decimal z)
seconds_back (pos n) h = ttl_back 2147483647 n (omega arith) h
seconds_back (negsuc n) h = absurd h

pub soa_back : (origin : Option DomainName) → TextReadsBack (soa_tokens origin) soa_fields soa_text IsPrintedSoa
soa_back origin = record {
  back = λ x h. token_row_back (soa_tokens origin) (soa_fields x) _ (_ ∷ _ ∷ _ ∷ _ ∷ _ ∷ _ ∷ []) _ refl
      (back_token (name_back x.mname origin h.mname) (back_token (name_back x.rname origin h.rname) (back_token (ttl_back 4294967295 x.serial (omega arith) h.serial)
      (back_token (seconds_back x.refresh h.refresh) (back_token (seconds_back x.retry h.retry) (back_token (seconds_back x.expire h.expire)
      (back_token (ttl_back 4294967295 x.minimum (omega arith) h.minimum) back_ignored)))))));
}
