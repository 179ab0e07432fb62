-- Tlvs with a number and a length, as the options of EDNS and the parameters of service binding.
use Rattle.std.specs.Prelude.{◌≡◌, ◌≢◌, ℕ, ◌+◌, ◌/◌, ◌<◌, ◌≤◌, ◌^◌, ◌⊎◌, ◌==◌, ◌&&◌, ◌||◌, nat_le, nat_lt, Bool, true, false, if◌then◌else◌, List, []}
use Rattle.std.specs.Prelude.{◌∷◌, ◌++◌, length, IsUtf8}
use Rattle.std.specs.{List.flat_map, List.list_all, List.AllByRecursion, Int.bytes_high_first}

-- a number, and what belongs to it
abbrev pub Numbered : Type 0 → Type 0
Numbered V = ℕ × V

-- the number in two octets, the length in two octets, the octets
abbrev pub tlv : Numbered (List ℕ) → List ℕ
tlv x = bytes_high_first 2 x.0 ++ (bytes_high_first 2 (length x.1) ++ x.1)

abbrev pub tlvs : List (Numbered (List ℕ)) → List ℕ
tlvs xs = flat_map tlv xs

-- number and length fit two octets each
abbrev pub IsTlv : Numbered (List ℕ) → Type 0
IsTlv x = (x.0 < 256 ^ 2) × (length x.1 < 256 ^ 2)

abbrev pub AreTlvs : List (Numbered (List ℕ)) → Type 0
AreTlvs xs = AllByRecursion IsTlv xs

-- each value is held by the tlv of the same index
abbrev pub AllHeld : {V : Type 0} → (ℕ → List ℕ → V → Type 0) → List (Numbered (List ℕ)) → List (Numbered V) → Type 0
AllHeld Held [] [] = Unit {0}
AllHeld Held [] (y ∷ ys) = ⊥
AllHeld Held (x ∷ xs) [] = ⊥
AllHeld Held (x ∷ xs) (y ∷ ys) = (x.0 ≡ y.0) × Held y.0 x.1 y.1 × AllHeld Held xs ys

-- a value with its octets for its value
abbrev pub as_tlv : {V : Type 0} → (V → List ℕ) → Numbered V → Numbered (List ℕ)
as_tlv octets x = (x.0, octets x.1)

-- every value is the one that its own octets hold, as of a value that was read
abbrev pub HoldThemselves : {V : Type 0} → (ℕ → List ℕ → V → Type 0) → (V → List ℕ) → List (Numbered V) → Type 0
HoldThemselves Held octets xs = AllByRecursion (λ x. Held x.0 (octets x.1) x.1) xs

-- one octet of length, and the octets
abbrev pub string : List ℕ → List ℕ
string s = length s ∷ s

-- ---- options (RFC 6891, 6.1.2)

pub data OptionValue : Type 0 where
  -- a client subnet (RFC 7871, 6): family, source prefix, scope prefix, the octets of the address that the source
  -- prefix asks for
  Subnet : ℕ → ℕ → ℕ → List ℕ → OptionValue
  -- any other octets
  OpaqueOption : List ℕ → OptionValue

abbrev pub option_octets : OptionValue → List ℕ
option_octets (Subnet family source scope address) = bytes_high_first 2 family ++ (source ∷ scope ∷ address)
option_octets (OpaqueOption s) = s

-- as many octets of an address as a prefix asks for, and not more than an address of the family has
pub record IsAddress (family source : ℕ) (address : List ℕ) : Type 0 where
  pub long : length address ≡ (source + 7) / 8
  pub most : ((family ≡ 1) × (length address ≤ 4)) ⊎ ((family ≡ 2) × (length address ≤ 16))

-- The option with this code holds the value in these octets. What follows a subnet's address is ignored.
abbrev pub OptionHeld : ℕ → List ℕ → OptionValue → Type 0
OptionHeld code body (Subnet family source scope address) = (code ≡ 8) × IsAddress family source address
    × (surplus : List ℕ)
    × (body ≡ option_octets (Subnet family source scope address) ++ surplus)
OptionHeld code body (OpaqueOption s) = (code ≢ 8) × (body ≡ s)

-- a value that can be emitted, whatever its code
abbrev pub IsEmittableOption : OptionValue → Type 0
IsEmittableOption (Subnet family source scope address) = IsAddress family source address
IsEmittableOption (OpaqueOption s) = Unit {0}

abbrev pub OptionFits : Numbered OptionValue → Type 0
OptionFits x = IsTlv (as_tlv option_octets x) × IsEmittableOption x.1

-- the same as a test, whatever the code: at most 65535 octets, and of a subnet as many of an address as its prefix asks
-- for
abbrev pub option_emittable : OptionValue → Bool
option_emittable (Subnet family source scope address) =
    (length address == (source + 7) / 8)
    && ((family == 1 && nat_le (length address) 4) || (family == 2 && nat_le (length address) 16))
option_emittable (OpaqueOption s) = true

abbrev pub options_emittable : List (Numbered OptionValue) → Bool
options_emittable v = list_all (λ x. nat_le (length (option_octets x.1)) 65535 && option_emittable x.1) v

-- Where n octets of options end before an option is whole: a code alone, or a code, a length of at most n,
-- and fewer octets.
abbrev pub IsTruncated : ℕ → List ℕ → Type 0
IsTruncated n s = (code : ℕ) × (code < 256 ^ 2)
    × ((s ≡ bytes_high_first 2 code) ⊎ ((l : ℕ) × (x : List ℕ) × (l < 256 ^ 2) × (l ≤ n) × (length x < l)
    × (s ≡ bytes_high_first 2 code ++ (bytes_high_first 2 l ++ x))))

-- ---- parameters (RFC 9460, 2.2 and 7)

pub data ParameterValue : Type 0 where
  -- keys that a client has to know
  Mandatory : List ℕ → ParameterValue
  -- names of protocols
  Alpn : List (List ℕ) → ParameterValue
  NoDefaultAlpn : ParameterValue
  Port : ℕ → ParameterValue
  -- addresses of four octets
  Ipv4Hint : List (List ℕ) → ParameterValue
  -- addresses of sixteen octets
  Ipv6Hint : List (List ℕ) → ParameterValue
  -- any other octets
  Opaque : List ℕ → ParameterValue

abbrev pub parameter_octets : ParameterValue → List ℕ
parameter_octets (Mandatory keys) = flat_map (bytes_high_first 2) keys
parameter_octets (Alpn names) = flat_map string names
parameter_octets NoDefaultAlpn = []
parameter_octets (Port n) = bytes_high_first 2 n
parameter_octets (Ipv4Hint addresses) = flat_map (λ a. a) addresses
parameter_octets (Ipv6Hint addresses) = flat_map (λ a. a) addresses
parameter_octets (Opaque s) = s

-- what a value looks like
pub data ParameterForm : Type 0 where
  Keys : ParameterForm
  Names : ParameterForm
  Nothing : ParameterForm
  PortNumber : ParameterForm
  Addresses4 : ParameterForm
  Addresses16 : ParameterForm
  AnyOctets : ParameterForm

abbrev pub form_of : ParameterValue → ParameterForm
form_of (Mandatory keys) = Keys
form_of (Alpn names) = Names
form_of NoDefaultAlpn = Nothing
form_of (Port n) = PortNumber
form_of (Ipv4Hint addresses) = Addresses4
form_of (Ipv6Hint addresses) = Addresses16
form_of (Opaque s) = AnyOctets

-- the form of the values of each key (RFC 9460, 14.3.2)
abbrev pub form_for : ℕ → ParameterForm
form_for key =
    if key == 0 then Keys else
    if key == 1 then Names else
    if key == 2 then Nothing else
    if key == 3 then PortNumber else
    if key == 4 then Addresses4 else
    if key == 6 then Addresses16 else
    AnyOctets

-- A value that can be emitted, whatever its key: keys and protocols are not none, a protocol's name has at
-- most 255 octets.
abbrev pub IsEmittable : ParameterValue → Type 0
IsEmittable (Mandatory keys) = (keys ≢ []) × AllByRecursion (λ k. k < 256 ^ 2) keys
IsEmittable (Alpn names) = (names ≢ []) × AllByRecursion (λ s. length s < 256) names
IsEmittable NoDefaultAlpn = Unit {0}
IsEmittable (Port n) = n < 256 ^ 2
IsEmittable (Ipv4Hint addresses) = AllByRecursion (λ a. length a ≡ 4) addresses
IsEmittable (Ipv6Hint addresses) = AllByRecursion (λ a. length a ≡ 16) addresses
IsEmittable (Opaque s) = Unit {0}

-- The octets of a value, whole. What follows a port's two octets is dropped, and a protocol's name is UTF-8.
abbrev pub IsBody : List ℕ → ParameterValue → Type 0
IsBody body (Mandatory keys) = body ≡ flat_map (bytes_high_first 2) keys
IsBody body (Alpn names) = AllByRecursion IsUtf8 names × (body ≡ flat_map string names)
IsBody body NoDefaultAlpn = body ≡ []
IsBody body (Port n) = (surplus : List ℕ) × (body ≡ bytes_high_first 2 n ++ surplus)
IsBody body (Ipv4Hint addresses) = body ≡ flat_map (λ a. a) addresses
IsBody body (Ipv6Hint addresses) = body ≡ flat_map (λ a. a) addresses
IsBody body (Opaque s) = body ≡ s

-- the parameter with this key holds the value in these octets
abbrev pub ParameterHeld : ℕ → List ℕ → ParameterValue → Type 0
ParameterHeld key body value = (form_of value ≡ form_for key) × IsEmittable value × IsBody body value

abbrev pub ParameterFits : Numbered ParameterValue → Type 0
ParameterFits x = IsTlv (as_tlv parameter_octets x) × IsEmittable x.1

-- is there an item
abbrev pub is_some : {A : Type 0} → List A → Bool
is_some [] = false
is_some (x ∷ xs) = true

-- the same as tests: keys and protocols are not none, a protocol's name has at most 255 octets, a value at most 65535
abbrev pub parameter_emittable : ParameterValue → Bool
parameter_emittable (Mandatory keys) = is_some keys
parameter_emittable (Alpn names) = is_some names && list_all (λ s. nat_le (length s) 255) names
parameter_emittable value = true

-- the numbers rise after this one
abbrev pub rising_behind : {V : Type 0} → ℕ → List (Numbered V) → Bool
rising_behind n [] = true
rising_behind n (x ∷ xs) = nat_lt n x.0 && rising_behind x.0 xs

abbrev pub rising : {V : Type 0} → List (Numbered V) → Bool
rising [] = true
rising (x ∷ xs) = rising_behind x.0 xs

abbrev pub parameters_emittable : List (Numbered ParameterValue) → Bool
parameters_emittable v = list_all (λ x. nat_le (length (parameter_octets x.1)) 65535 && parameter_emittable x.1) v
    && rising v

-- below the number of each
abbrev pub Below : {V : Type 0} → ℕ → List (Numbered V) → Type 0
Below n [] = Unit {0}
Below n (x ∷ xs) = (n < x.0) × Below n xs

-- the numbers strictly rise
abbrev pub Rising : {V : Type 0} → List (Numbered V) → Type 0
Rising [] = Unit {0}
Rising (x ∷ xs) = Below x.0 xs × Rising xs
