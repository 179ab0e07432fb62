-- The options of EDNS, one by one, and why they are rejected (RFC 6891, 6.1.2; RFC 7871, 6).
use Rattle.std.specs.Prelude.{◌≡◌, ◌⊎◌, ℕ, ◌+◌, ◌-◌, ◌/◌, ◌<◌, ◌≤◌, ◌^◌, ◌==◌, if◌then◌else◌, List, [], ◌∷◌, ◌++◌}
use Rattle.std.specs.Prelude.{length, Option, Some, None, Result, Ok, Err}
use Rattle.std.specs.Int.{bytes_high_first}
use Rattle.dns_types.specs.declared.error.DecodeError.{DecodeError}
use Rattle.dns_types.specs.declared.error.DecodeError.TheVariants as decode
use Rattle.dns_fields.specs.{Octets.At, declared.Kind.TheVariants.Number, Fields.CompleteOptions}
use Rattle.dns_fields.specs.Tlvs.{Numbered, tlv, tlvs, IsTlv, AreTlvs, AllHeld, OptionValue, OptionHeld, IsTruncated}
use Rattle.dns_names_wire.specs.{State.Reading, Terms.TookField, Terms.Took, Terms.LacksOctets, Terms.StaysBehind}

-- ---- the value of an option

-- the octets hold a value of the option with this code
pub record HasOption (code : ℕ) (body : List ℕ) : Type 0 where
  pub value : OptionValue
  pub held : OptionHeld code body value

-- whole options fill the octets
pub record HasOptions (octets : List ℕ) : Type 0 where
  pub values : List (Numbered OptionValue)
  pub complete : CompleteOptions octets 0 values (length octets)

pub record NoOption (code : ℕ) (body : List ℕ) : Type 0 where
  pub none : (v : OptionValue) → OptionHeld code body v → ⊥

-- ---- why octets do not begin with a client subnet (RFC 7871, 6)

-- 1 for IPv4, 2 for IPv6
abbrev pub IsFamily : ℕ → Type 0
IsFamily family = (family ≡ 1) ⊎ (family ≡ 2)

-- how many octets of an address a prefix asks for
abbrev pub prefix_octets : ℕ → ℕ
prefix_octets source = (source + 7) / 8

-- how many an address of a family has
abbrev pub family_octets : ℕ → ℕ
family_octets family = if family == 1 then 4 else 16

-- the family lacks octets
pub record LacksFamily (s : List ℕ) (e : DecodeError) : Type 0 where
  pub error : e ≡ decode.InsufficientBytes
  pub short : length s < 2

-- the family is not known
pub record UnknownFamily (s : List ℕ) (e : DecodeError) : Type 0 where
  pub family : ℕ
  pub rest : List ℕ
  pub octets : s ≡ bytes_high_first 2 family ++ rest
  pub small : family < 256 ^ 2
  pub unknown : IsFamily family → ⊥
  pub error : e ≡ decode.UnknownAddressFamily family

-- after a known family the prefixes lack octets
pub record LacksPrefixes (s : List ℕ) (e : DecodeError) : Type 0 where
  pub family : ℕ
  pub rest : List ℕ
  pub octets : s ≡ bytes_high_first 2 family ++ rest
  pub known : IsFamily family
  pub short : length rest < 2
  pub error : e ≡ decode.InsufficientBytes

-- a known family and the prefixes, and what follows
pub record SubnetHead (s : List ℕ) (family source scope : ℕ) (rest : List ℕ) : Type 0 where
  pub octets : s ≡ bytes_high_first 2 family ++ (source ∷ scope ∷ rest)
  pub known : IsFamily family

-- the source prefix asks for more octets than the family's addresses have
pub record LongPrefix (s : List ℕ) (e : DecodeError) : Type 0 where
  pub family : ℕ
  pub source : ℕ
  pub scope : ℕ
  pub rest : List ℕ
  pub head : SubnetHead s family source scope rest
  pub long : family_octets family < prefix_octets source
  pub error : e ≡ decode.IncorrectRDataLengthRead (family_octets family) (prefix_octets source)

-- the address lacks octets
pub record LacksAddress (s : List ℕ) (e : DecodeError) : Type 0 where
  pub family : ℕ
  pub source : ℕ
  pub scope : ℕ
  pub rest : List ℕ
  pub head : SubnetHead s family source scope rest
  pub most : prefix_octets source ≤ family_octets family
  pub short : length rest < prefix_octets source
  pub error : e ≡ decode.InsufficientBytes

abbrev pub IsSubnetError : List ℕ → DecodeError → Type 0
IsSubnetError s e = LacksFamily s e ⊎ (UnknownFamily s e ⊎ (LacksPrefixes s e ⊎ (LongPrefix s e ⊎ LacksAddress s e)))

-- ---- what is left of options

-- what is left from an offset to the end of n octets of options: whole options, maybe a truncated one
pub record OptionsLeft (m : List ℕ) (n i end : ℕ) : Type 0 where
  pub read : List (Numbered (List ℕ))
  pub values : List (Numbered OptionValue)
  pub stub : List ℕ
  pub at : At m i (tlvs read ++ stub) end
  pub fit : AreTlvs read
  pub held : AllHeld OptionHeld read values
  pub ends : (stub ≡ []) ⊎ IsTruncated n stub

pub record NoneLeft (m : List ℕ) (n i end : ℕ) : Type 0 where
  pub none : OptionsLeft m n i end → ⊥

-- code, length and octets of the next option are taken
pub record TookTlv (old : Reading) (end : ℕ) (x : Numbered (List ℕ)) (new : Reading) : Type 0 where
  pub message : new.message ≡ old.message
  pub at : At old.message old.index (tlv x) new.index
  pub fits : IsTlv x
  pub inside : new.index ≤ end

-- a truncated option is taken, which ends with the RDATA
pub record TookCut (old : Reading) (n end : ℕ) (new : Reading) : Type 0 where
  pub message : new.message ≡ old.message
  pub stub : List ℕ
  pub at : At old.message old.index stub end
  pub cut : IsTruncated n stub
  pub there : new.index ≡ end

-- ---- why an option is rejected

-- the code lacks octets
pub record LacksCode (d : Reading) (e : DecodeError) (new : Reading) : Type 0 where
  pub error : e ≡ decode.InsufficientBytes
  pub lacks : LacksOctets d 2
  pub unchanged : new ≡ d

-- the length after a code lacks octets
pub record LacksLength (end : ℕ) (d : Reading) (e : DecodeError) (new : Reading) : Type 0 where
  pub error : e ≡ decode.InsufficientBytes
  pub code : ℕ
  pub took : TookField d (Number 2) code new
  pub before : new.index < end
  pub lacks : LacksOctets new 2

-- a code and a length are taken
abbrev pub TookHead : Reading → ℕ → ℕ → Reading → Type 0
TookHead d code size new = Took d (Number 2 ∷ Number 2 ∷ []) (code, (size, tt)) new

-- the code goes past the end of the n octets, or ends before it and the length after it goes past
pub record PassedEnd (start n : ℕ) (d : Reading) (e : DecodeError) (new : Reading) : Type 0 where
  pub error : e ≡ decode.IncorrectRDataLengthRead (new.index - start) n
  pub past : start + n < new.index
  pub head : ((code : ℕ) × TookField d (Number 2) code new)
      ⊎ ((code : ℕ) × (size : ℕ) × (d.index + 2 < start + n) × TookHead d code size new)

-- the option's length is greater than that of all options
pub record LongOption (n end : ℕ) (d : Reading) (e : DecodeError) (new : Reading) : Type 0 where
  pub code : ℕ
  pub size : ℕ
  pub took : TookHead d code size new
  pub inside : new.index ≤ end
  pub long : n < size
  pub error : e ≡ decode.IncorrectRDataLengthRead n size

-- The message ends within the option's octets, or within those that are left of the RDATA; those that are there are
-- taken.
pub record LacksBody (n end : ℕ) (d : Reading) (e : DecodeError) (new : Reading) : Type 0 where
  pub code : ℕ
  pub size : ℕ
  pub between : Reading
  pub took : TookHead d code size between
  pub most : size ≤ n
  pub body : LacksOctets between size
  pub record_left : length d.message < end
  pub error : e ≡ decode.InsufficientBytes
  pub index : new.index ≡ length d.message

-- there is no code, no length, or no such octets
abbrev pub IsTlvError : ℕ → ℕ → Reading → DecodeError → Reading → Type 0
IsTlvError start n d e new = LacksCode d e new
    ⊎ (LacksLength (start + n) d e new
    ⊎ (PassedEnd start n d e new ⊎ (LongOption n (start + n) d e new ⊎ LacksBody n (start + n) d e new)))

-- the next option is rejected
pub record RefusedTlv (start n : ℕ) (old : Reading) (e : DecodeError) (new : Reading) : Type 0 where
  pub behind : StaysBehind old new
  pub why : IsTlvError start n old e new

abbrev pub ReadsTlv : {T : Type 0} → (T → Numbered (List ℕ)) → ℕ → ℕ → Result (Option T) DecodeError → Reading
    → Reading → Type 0
ReadsTlv view start n (Ok (Some x)) old new = TookTlv old (start + n) (view x) new
ReadsTlv view start n (Ok None) old new = TookCut old n (start + n) new
ReadsTlv view start n (Err e) old new = RefusedTlv start n old e new

-- an option with the code of client subnets is taken, and its octets do not begin with one
pub record BadSubnet (end : ℕ) (d : Reading) (e : DecodeError) (new : Reading) : Type 0 where
  pub body : List ℕ
  pub took : TookTlv d end (8, body) new
  pub refused : IsSubnetError body e

-- complete options that hold values are taken, which end before the end of the n octets
pub record OptionsBefore (old : Reading) (n : ℕ) (between : Reading) : Type 0 where
  pub message : between.message ≡ old.message
  pub values : List (Numbered OptionValue)
  pub took : CompleteOptions old.message old.index values between.index
  pub before : between.index < old.index + n

abbrev pub IsNextError : ℕ → ℕ → Reading → DecodeError → Reading → Type 0
IsNextError start n d e new = IsTlvError start n d e new ⊎ BadSubnet (start + n) d e new

-- after complete options in n octets the next one is rejected
pub record IsOptionsError (n : ℕ) (old : Reading) (e : DecodeError) (new : Reading) : Type 0 where
  pub between : Reading
  pub before : OptionsBefore old n between
  pub next : IsNextError old.index n between e new
