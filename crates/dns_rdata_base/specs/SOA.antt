-- SOA: the start of a zone of authority (RFC 1035, 3.3.13).
use Rattle.std.specs.Prelude.{ℕ, ◌≤◌, ℤ, pos, negsuc, FitsSigned, List, [], ◌∷◌, ◌++◌, codes, decimal, Option}
use Rattle.dns_fields.specs.{Labels.DomainName, declared.Kind.Kind, declared.Kind.TheVariants.Number}
use Rattle.dns_fields.specs.{declared.Kind.TheVariants.Name, Fields.Values}
use Rattle.dns_rows.specs.Table.{kinds_of}
use Rattle.dns_rows.specs.declared.row.TheConstants as rows
use Rattle.dns_labels.specs.Text.{name_text}
use Rattle.std.specs.{Fmt.signed_decimal, Int.cast_unsigned, Int.w32}
use Rattle.dns_names_wire.specs.Facts.{Facts, plain}
use Rattle.dns_tokens.specs.{Forms.TokenRow, Forms.token, Forms.ignored, Forms.ttl, Forms.name, Printed.IsPrintedName}
use Rattle.dns_rdata_base.specs.{declared.soa.SOA.SOA}

-- serial, refresh, retry, expire, minimum
abbrev pub soa_numbers_shape : List Kind
soa_numbers_shape = Number 4 ∷ Number 4 ∷ Number 4 ∷ Number 4 ∷ Number 4 ∷ []

-- refresh, retry and expire in two's complement
abbrev pub soa_numbers : ℕ × ℤ × ℤ × ℤ × ℕ → Values soa_numbers_shape
soa_numbers t = (t.0, (cast_unsigned w32 t.1, (cast_unsigned w32 t.2, (cast_unsigned w32 t.3, (t.4, tt)))))

abbrev pub soa_numbers_of : SOA → Values soa_numbers_shape
soa_numbers_of x = soa_numbers (x.serial, x.refresh, x.retry, x.expire, x.minimum)

-- mname, rname, and the numbers
abbrev pub soa_shape : List Kind
soa_shape = kinds_of rows.SOA

abbrev pub soa_fields : SOA → Values (kinds_of rows.SOA)
soa_fields x = (x.mname, (x.rname, soa_numbers_of x))

-- refresh, retry and expire are numbers of 32 bits
pub record HasSeconds (x : SOA) : Type 0 where
  pub refresh : FitsSigned w32 x.refresh
  pub retry : FitsSigned w32 x.retry
  pub expire : FitsSigned w32 x.expire

abbrev pub soa_facts : Facts SOA
soa_facts = record (plain rows.SOA soa_fields) { after_read = λ n x old new. HasSeconds x }

-- the fields, a blank between
abbrev pub soa_text : SOA → List ℕ
soa_text x = name_text x.mname ++ codes " " ++ name_text x.rname ++ codes " " ++ decimal x.serial ++ codes " "
    ++ signed_decimal x.refresh ++ codes " "
    ++ signed_decimal x.retry ++ codes " " ++ signed_decimal x.expire ++ codes " " ++ decimal x.minimum

-- mname, rname, serial, refresh, retry, expire, minimum
abbrev pub soa_tokens : Option DomainName → TokenRow soa_shape
soa_tokens origin =
    token (name origin)
    (token (name origin)
    (token (ttl 4294967295)
    (token (ttl 2147483647)
    (token (ttl 2147483647) (token (ttl 2147483647) (token (ttl 4294967295) ignored))))))

-- a number of 32 bits that is not negative
abbrev pub AreSeconds : ℤ → Type 0
AreSeconds (pos n) = n ≤ 2147483647
AreSeconds (negsuc n) = ⊥

-- a value whose printed words give it back
pub record IsPrintedSoa (x : SOA) : Type 0 where
  pub seconds : HasSeconds x
  pub mname : IsPrintedName x.mname
  pub rname : IsPrintedName x.rname
  pub serial : x.serial ≤ 4294967295
  pub refresh : AreSeconds x.refresh
  pub retry : AreSeconds x.retry
  pub expire : AreSeconds x.expire
  pub minimum : x.minimum ≤ 4294967295
