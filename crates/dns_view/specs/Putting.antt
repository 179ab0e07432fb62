-- Octets of RDATA in one of two forms, written into a buffer: canonical, which is this library's own form and not
-- that of DNSSEC, or uncompressed with case preserved.
use Rattle.std.specs.Prelude.{◌≡◌, ℕ, ◌+◌, Bool, true, false, List, [], ◌∷◌, ◌++◌, length, take, drop, map, zero, suc}
use Rattle.std.specs.{Char.to_ascii_lowercase, Int.from_be_bytes, Int.w64}
use Rattle.dns_fields.specs.declared.Kind.{Kind}
use Rattle.dns_fields.specs.declared.Kind.TheVariants.{Name, Options, Parameters, Bitmap}
use Rattle.dns_fields.specs.{Labels.DomainName, Labels.wire, Labels.lowname, Names.IsNameIn}
use Rattle.dns_fields.specs.{Fields.Value, Fields.Values, Fields.field_octets, Fields.option_tlvs, Tlvs.tlvs}

-- with A to Z lowercased, or with case preserved
abbrev pub cased : Bool → List ℕ → List ℕ
cased true s = map to_ascii_lowercase s
cased false s = s

-- an uncompressed name: its canonical octets, or with case preserved
abbrev pub name_form : Bool → DomainName → List ℕ
name_form true x = lowname x
name_form false x = wire x.labels ++ 0 ∷ []

-- options that are not canonical are in their order
abbrev pub form_octets : Bool → (k : Kind) → Value k → List ℕ
form_octets low Name x = name_form low x
form_octets false Options v = tlvs (option_tlvs v)
form_octets low k v = field_octets k v

-- the fields of a record, one after the other
abbrev pub all_form : Bool → (kinds : List Kind) → Values kinds → List ℕ
all_form low [] vs = []
all_form low (k ∷ kinds) vs = form_octets low k vs.0 ++ all_form low kinds vs.1

-- Fields whose octets are made anew: what follows a client subnet's address or a port is left out, and a bitmap is the
-- shortest one.
abbrev pub IsRecoded : Kind → Type 0
IsRecoded Options = Unit {0}
IsRecoded Parameters = Unit {0}
IsRecoded Bitmap = Unit {0}
IsRecoded k = ⊥

-- Octets were written into the buffer from start to end, as many as it has room for.
pub record Put (old new : List ℕ) (start end : ℕ) (octets : List ℕ) : Type 0 where
  pub ends : end ≡ start + length octets
  pub written : new ≡ take (length old) (take start old ++ (octets ++ drop end old))

-- a name is encoded in the message from the offset to the end, and its octets were written
pub record PutName (message : List ℕ) (offset end : ℕ) (low : Bool) (old new : List ℕ) (start behind : ℕ) : Type 0 where
  pub name : DomainName
  pub is : IsNameIn message offset name end
  pub put : Put old new start behind (name_form low name)

-- the first octets, so many; those that are missing are 0
abbrev pub padded : ℕ → List ℕ → List ℕ
padded zero octets = []
padded (suc n) [] = 0 ∷ padded n []
padded (suc n) (x ∷ octets) = x ∷ padded n octets

-- the first eight octets as a number, high octet first
abbrev pub key_of : List ℕ → ℕ
key_of octets = from_be_bytes w64 (padded 8 octets)

-- parameters with the port that is encoded from offset to end cut to two octets, and its length with it (RFC 9460, 2.2 and 7.2)
abbrev pub short_port : List ℕ → ℕ → ℕ → List ℕ
short_port octets offset end =
    take offset octets ++ (0 ∷ 3 ∷ 0 ∷ 2 ∷ (take 2 (drop (offset + 4) octets) ++ drop end octets))
