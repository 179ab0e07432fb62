-- The rows once more: the fields as the RFCs list them, and what is asked of them.
use Rattle.std.specs.Prelude.{◌≡◌, List, [], ◌∷◌}
use Rattle.dns_fields.specs.declared.Kind.{Kind}
use Rattle.dns_fields.specs.declared.Kind.TheVariants.{Number, Octets, Name, CharacterString, CharacterStrings, Rest}
use Rattle.dns_fields.specs.declared.Kind.TheVariants.{Options, Parameters, Bitmap}
use Rattle.dns_rows.specs.declared.row.{Part.Part, Rule.Rule}
use Rattle.dns_rows.specs.declared.row.Rule.TheVariants as rules
use Rattle.dns_rows.specs.declared.row.TheConstants as rows

abbrev pub asked : Rule → Kind → Part
asked rule kind = record { kind = kind; rule = rule }

abbrev pub free : Kind → Part
free kind = asked rules.Free kind

pub record RowsLaw : Type 0 where
  -- RFC 1035, 3.4.1; RFC 3596, 2.2
  pub a : rows.A ≡ asked (rules.Steps 1) (Octets 4) ∷ []
  pub aaaa : rows.AAAA ≡ asked (rules.Steps 2) (Octets 16) ∷ []
  -- flags, tag, value: RFC 8659, 4.1
  pub caa : rows.CAA ≡ free (Number 1) ∷ asked rules.Tag CharacterString ∷ free Rest ∷ []
  -- type, key tag, algorithm, certificate: RFC 4398, 2
  pub cert : rows.CERT ≡ asked (rules.AtLeast 6) (Number 2) ∷ free (Number 2) ∷ free (Number 1) ∷ asked rules.Some Rest ∷ []
  -- serial, flags, types: RFC 7477, 2.1
  pub csync : rows.CSYNC ≡ free (Number 4) ∷ asked rules.KnownFlags (Number 2) ∷ free Bitmap ∷ []
  -- machine, system: RFC 1035, 3.3.2
  pub hinfo : rows.HINFO ≡ free CharacterString ∷ free CharacterString ∷ []
  -- preference, exchange: RFC 1035, 3.3.9
  pub mx : rows.MX ≡ free (Number 2) ∷ free Name ∷ []
  -- RFC 1035, 3.3.1, 3.3.11 and 3.3.12
  pub name : rows.NAME ≡ free Name ∷ []
  -- order, preference, flags, services, regexp, replacement: RFC 3403, 4.1
  pub naptr : rows.NAPTR ≡ free (Number 2) ∷ free (Number 2) ∷ asked rules.Letters CharacterString
      ∷ free CharacterString ∷ free CharacterString ∷ free Name ∷ []
  -- RFC 1035, 3.3.10; RFC 7929, 2.1; RFC 6891, 6.1.2
  pub null : rows.NULL ≡ free Rest ∷ []
  pub openpgpkey : rows.OPENPGPKEY ≡ free Rest ∷ []
  pub opt : rows.OPT ≡ free Options ∷ []
  -- mname, rname, serial, refresh, retry, expire, minimum: RFC 1035, 3.3.13
  pub soa : rows.SOA ≡ free Name ∷ free Name ∷ free (Number 4) ∷ free (Number 4) ∷ free (Number 4)
      ∷ free (Number 4) ∷ free (Number 4) ∷ []
  -- priority, weight, port, target: RFC 2782
  pub srv : rows.SRV ≡ free (Number 2) ∷ free (Number 2) ∷ free (Number 2) ∷ free Name ∷ []
  -- algorithm, fingerprint type, fingerprint: RFC 4255, 3.1
  pub sshfp : rows.SSHFP ≡ free (Number 1) ∷ free (Number 1) ∷ free Rest ∷ []
  -- priority, target name, parameters: RFC 9460, 2.2
  pub svcb : rows.SVCB ≡ free (Number 2) ∷ free Name ∷ asked rules.Paths Parameters ∷ []
  -- usage, selector, matching type, data: RFC 6698, 2.1
  pub tlsa : rows.TLSA ≡ free (Number 1) ∷ free (Number 1) ∷ free (Number 1) ∷ free Rest ∷ []
  -- RFC 1035, 3.3.14
  pub txt : rows.TXT ≡ free CharacterStrings ∷ []
  pub zero : rows.ZERO ≡ []
