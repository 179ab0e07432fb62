-- Keys of service parameters, as a zone file names them (RFC 9460, 2.1).
use Rattle.std.specs.Prelude.{◌≡◌, ◌≢◌, ℕ, List}
use Rattle.dns_rdata_service.specs.{SvcParamKey.key_text, ParameterTokens.IsKeyText, declared.svcb.key.SvcParamKey.SvcParamKey}
use Rattle.dns_rdata_service.specs.declared.svcb.key.SvcParamKey.TheVariants.{Key65535}

-- The key's own name, or `key` and a decimal number as it is printed, without leading zeros. 65535 is no key.
pub record IsKeyName (key : SvcParamKey) (name : List ℕ) : Type 0 where
  pub text : IsKeyText name key
  pub printed : name ≡ key_text key
  pub valid : key ≢ Key65535
