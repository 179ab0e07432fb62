-- The tokens of RDATA of every type.
use Rattle.std.specs.Prelude.{◌≡◌, ◌⊎◌, ℕ, List, Option, None, Result, Ok, Err}
use Rattle.std.specs.Net.Addr.{IsIpv4Addr, IsIpv6Addr}
use Rattle.dns_types.specs.{declared.record_type.RecordType.RecordType, declared.error.ParseError.ParseError}
use Rattle.dns_types.specs.declared.record_type.RecordType.TheVariants as types
use Rattle.dns_types.specs.declared.error.ParseError.TheVariants as parse
use Rattle.dns_fields.specs.{Labels.DomainName, declared.Kind.Kind, Fields.Values}
use Rattle.dns_tokens.specs.TextWords.{TextWords, NoTextWords}
use Rattle.dns_tokens.specs.{Taking.HoldsOfTokens, Reads.UnlessParseMemory, Printed.cut, Printed.IsPrintedName, Straight.straight_tokens, Straight.ArePrinted}
use Rattle.dns_tokens.specs.Forms.{TokenRow, token, number, name, ignored}
use Rattle.dns_rdata_service.specs.declared.svcb.SVCB.{SVCB}
use Rattle.dns_rdata_base.specs as base
use Rattle.dns_rdata_certs.specs as certs
use Rattle.dns_rdata_service.specs as service
use Rattle.dns_rdata_policy.specs as policy
use Rattle.dns_rows.specs.Table.{TypeRow, fields, formatless, unread, table, kinds_of}
use Rattle.dns_rdata.specs.{declared.record_data.RData.RData, Data.parts_of, Data.shape, Data.IsValue, Data.type_of, Texts.text_of}
use Rattle.dns_rdata.specs.declared.record_data.RData.TheVariants as rdata

-- the tokens of this SVCB, in keys and values as a caller sees them (RFC 9460, 2.1); an origin completes no name
abbrev pub AreSvcbTokens : SVCB → List (List ℕ) → Type 0
AreSvcbTokens x tokens =
    (token (number 2) (token (name None) (service.TokenRows.these_parameters x.svc_params))).stand
    (x.svc_priority, (x.target_name, tt)) tokens

abbrev pub HasSvcbTokens : RData → List (List ℕ) → Type 0
HasSvcbTokens (rdata.SVCB x) tokens = AreSvcbTokens x tokens
HasSvcbTokens v tokens = ⊥

abbrev pub HasHttpsTokens : RData → List (List ℕ) → Type 0
HasHttpsTokens (rdata.HTTPS x) tokens = AreSvcbTokens x.0 tokens
HasHttpsTokens v tokens = ⊥

-- How the tokens of a type are read: by a token row for the fields; by a relation of their own for the value, if values
-- with the same fields differ for a caller; or not at all.
pub data TokenReading : List Kind → Type 1 where
  by : {kinds : List Kind} → TokenRow kinds → TokenReading kinds
  own : {kinds : List Kind} → (RData → List (List ℕ) → Type 0) → TokenReading kinds
  refused : {kinds : List Kind} → TokenReading kinds

-- numbers and names, a token for each; RDATA without a format has no tokens
abbrev pub row_reading : Option DomainName → (r : TypeRow) → TokenReading (kinds_of (parts_of r))
row_reading origin (fields parts) = by (straight_tokens origin (kinds_of parts))
row_reading origin formatless = refused
row_reading origin unread = refused

-- The tokens of each type; for ZERO no token is read. A type that is not named here has those of its row.
abbrev pub reading_of : Option DomainName → (t : RecordType) → TokenReading (shape t)
reading_of origin types.A = by base.A.a_tokens
reading_of origin types.AAAA = by base.AAAA.aaaa_tokens
reading_of origin types.CAA = by policy.TokenRows.caa_tokens
reading_of origin types.CERT = by certs.TokenRows.cert_tokens
reading_of origin types.CSYNC = by policy.TokenRows.csync_tokens
reading_of origin types.HINFO = by base.HINFO.hinfo_tokens
reading_of origin types.HTTPS = own HasHttpsTokens
reading_of origin types.NAPTR = by (base.NAPTR.naptr_tokens origin)
reading_of origin types.OPENPGPKEY = by base.OPENPGPKEY.openpgpkey_tokens
reading_of origin types.SMIMEA = by certs.TokenRows.tlsa_tokens
reading_of origin types.SOA = by (base.SOA.soa_tokens origin)
reading_of origin types.SSHFP = by certs.TokenRows.sshfp_tokens
reading_of origin types.SVCB = own HasSvcbTokens
reading_of origin types.TLSA = by certs.TokenRows.tlsa_tokens
reading_of origin types.TXT = by base.TXT.txt_tokens
reading_of origin types.ZERO = by ignored
reading_of origin types.NULL = refused
reading_of origin types.OPT = refused
reading_of origin t = row_reading origin (table t)

-- the tokens have these fields by the token row, and so has the value
pub record StandIn (t : RecordType) (token_row : TokenRow (shape t)) (v : RData) (tokens : List (List ℕ)) : Type 0 where
  pub values : Values (shape t)
  pub stand : token_row.stand values tokens
  pub value : IsValue t values v

abbrev pub GiveBy : (t : RecordType) → TokenReading (shape t) → RData → List (List ℕ) → Type 0
GiveBy t (by token_row) v tokens = StandIn t token_row v tokens
GiveBy t (own are) v tokens = are v tokens
GiveBy t refused v tokens = ⊥

abbrev pub IsRefusedReading : {kinds : List Kind} → TokenReading kinds → Type 0
IsRefusedReading (by token_row) = ⊥
IsRefusedReading (own are) = ⊥
IsRefusedReading refused = Unit {0}

-- the type is not read from tokens
abbrev pub HasNoTokens : RecordType → Type 0
HasNoTokens t = IsRefusedReading (reading_of (None) t)

-- the tokens give the value, of this type
abbrev pub AreDataTokens : Option DomainName → RecordType → RData → List (List ℕ) → Type 0
AreDataTokens origin t v tokens = GiveBy t (reading_of origin t) v tokens

module _ {S I : Type 0} (gives : I → Option S → I → Type 0) (text : S → List ℕ) where
  pub record TookDataTokens (origin : Option DomainName) (t : RecordType) (v : RData) (s : I) : Type 0 where
    pub type : type_of v ≡ t
    pub tokens : HoldsOfTokens gives text s (λ tokens. AreDataTokens origin t v tokens)

  pub record RefusedDataTokens (e : ParseError) (origin : Option DomainName) (t : RecordType) (s : I) : Type 0 where
    pub none : UnlessParseMemory e
        (HoldsOfTokens gives text s (λ tokens. (v : RData) → AreDataTokens origin t v tokens → ⊥))

  -- reads a value of the type exactly if the tokens give one
  abbrev pub ReadsDataTokens : Option DomainName → RecordType → Result RData ParseError → I → Type 0
  ReadsDataTokens origin t (Ok v) s = TookDataTokens origin t v s
  ReadsDataTokens origin t (Err e) s = RefusedDataTokens e origin t s

  -- and a type that is not read from tokens is rejected with its name
  pub record AnswersDataTokens (origin : Option DomainName) (t : RecordType) (result : Result RData ParseError)
      (s : I) : Type 0 where
    pub reads : ReadsDataTokens origin t result s
    pub unsupported : HasNoTokens t → result ≡ Err (parse.UnsupportedRecordType t)

-- A value whose display text gives it back: addresses; fully qualified names, with numbers that fit their fields and
-- times that are not negative; fingerprints and certificates with octets and with the enums of their numbers.
abbrev pub IsPrinted : RData → Type 0
IsPrinted (rdata.A x) = IsIpv4Addr x.0
IsPrinted (rdata.AAAA x) = IsIpv6Addr x.0
IsPrinted (rdata.ANAME x) = IsPrintedName x.0
IsPrinted (rdata.CNAME x) = IsPrintedName x.0
IsPrinted (rdata.MX x) = ArePrinted (kinds_of base.NameRecords.mx_facts.row) (base.NameRecords.mx_facts.fields x)
IsPrinted (rdata.NS x) = IsPrintedName x.0
IsPrinted (rdata.PTR x) = IsPrintedName x.0
IsPrinted (rdata.SMIMEA x) = certs.TokenRows.IsPrintedTlsa x.0
IsPrinted (rdata.SOA x) = base.SOA.IsPrintedSoa x
IsPrinted (rdata.SRV x) = ArePrinted (kinds_of base.NameRecords.srv_facts.row) (base.NameRecords.srv_facts.fields x)
IsPrinted (rdata.SSHFP x) = certs.TokenRows.IsPrintedSshfp x
IsPrinted (rdata.TLSA x) = certs.TokenRows.IsPrintedTlsa x
IsPrinted v = ⊥

-- the display text of a value of the type, split at its blanks, gives the value back
pub record PrintsBack (origin : Option DomainName) (t : RecordType) : Type 0 where
  pub back : (v : RData) → type_of v ≡ t → IsPrinted v → AreDataTokens origin t v (cut (text_of v))

-- ---- a whole text

-- the tokens of the text give the value; the origin completes relative names in them
pub record IsDataTextAt (origin : Option DomainName) (t : RecordType) (text : List ℕ) (v : RData) : Type 0 where
  pub tokens : List (List ℕ)
  pub of_text : TextWords tokens text
  pub give : AreDataTokens origin t v tokens

-- these are the tokens of the text, and they give no value of the type
pub record GivesNoneAt (origin : Option DomainName) (t : RecordType) (text : List ℕ) : Type 0 where
  pub tokens : List (List ℕ)
  pub of_text : TextWords tokens text
  pub none : (v : RData) → AreDataTokens origin t v tokens → ⊥

-- reads a value exactly if the text can be divided into tokens and they give one
abbrev pub ReadsDataTextAt : Option DomainName → RecordType → Result RData ParseError → List ℕ → Type 0
ReadsDataTextAt origin t (Ok v) text = IsDataTextAt origin t text v
ReadsDataTextAt origin t (Err e) text = UnlessParseMemory e (NoTextWords text ⊎ GivesNoneAt origin t text)

-- ---- and without an origin

abbrev pub IsDataText : RecordType → List ℕ → RData → Type 0
IsDataText = IsDataTextAt None

abbrev pub GivesNone : RecordType → List ℕ → Type 0
GivesNone = GivesNoneAt None

abbrev pub ReadsDataText : RecordType → Result RData ParseError → List ℕ → Type 0
ReadsDataText = ReadsDataTextAt None
