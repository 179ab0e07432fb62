-- A type without a struct has the zone row of its number, and its texts.
use Rattle.std.proofs.Common.{◌≡◌, refl, sym, ◌∙◌}
use Rattle.std.specs.Option.{option_map}
use Rattle.dns_types.specs.{RecordTypes.number_of, declared.record_type.RecordType.RecordType}
use Rattle.dns_types.specs.declared.record_type.RecordType.TheVariants as types
use Rattle.dns_zone_rows.specs.{Registry.registered, Registry.shape_of, RegistryTexts.registered_texts, RowTable.zone_row_of, RowTexts.texts_of}

-- the type is none of those with a struct
pub record HasNoStruct (t : RecordType) : Type 0 where
  pub not_A : t ≡ types.A → ⊥
  pub not_NS : t ≡ types.NS → ⊥
  pub not_CNAME : t ≡ types.CNAME → ⊥
  pub not_SOA : t ≡ types.SOA → ⊥
  pub not_PTR : t ≡ types.PTR → ⊥
  pub not_HINFO : t ≡ types.HINFO → ⊥
  pub not_MX : t ≡ types.MX → ⊥
  pub not_TXT : t ≡ types.TXT → ⊥
  pub not_AAAA : t ≡ types.AAAA → ⊥
  pub not_SRV : t ≡ types.SRV → ⊥
  pub not_NAPTR : t ≡ types.NAPTR → ⊥
  pub not_CERT : t ≡ types.CERT → ⊥
  pub not_SSHFP : t ≡ types.SSHFP → ⊥
  pub not_TLSA : t ≡ types.TLSA → ⊥
  pub not_SMIMEA : t ≡ types.SMIMEA → ⊥
  pub not_OPENPGPKEY : t ≡ types.OPENPGPKEY → ⊥
  pub not_CSYNC : t ≡ types.CSYNC → ⊥
  pub not_SVCB : t ≡ types.SVCB → ⊥
  pub not_HTTPS : t ≡ types.HTTPS → ⊥
  pub not_CAA : t ≡ types.CAA → ⊥

pub row_by_number : (t : RecordType) → HasNoStruct t → zone_row_of t ≡ option_map shape_of (registered (number_of t))
row_by_number types.A h = absurd (h.not_A refl)
row_by_number types.NS h = absurd (h.not_NS refl)
row_by_number types.CNAME h = absurd (h.not_CNAME refl)
row_by_number types.SOA h = absurd (h.not_SOA refl)
row_by_number types.PTR h = absurd (h.not_PTR refl)
row_by_number types.HINFO h = absurd (h.not_HINFO refl)
row_by_number types.MX h = absurd (h.not_MX refl)
row_by_number types.TXT h = absurd (h.not_TXT refl)
row_by_number types.AAAA h = absurd (h.not_AAAA refl)
row_by_number types.SRV h = absurd (h.not_SRV refl)
row_by_number types.NAPTR h = absurd (h.not_NAPTR refl)
row_by_number types.CERT h = absurd (h.not_CERT refl)
row_by_number types.SSHFP h = absurd (h.not_SSHFP refl)
row_by_number types.TLSA h = absurd (h.not_TLSA refl)
row_by_number types.SMIMEA h = absurd (h.not_SMIMEA refl)
row_by_number types.OPENPGPKEY h = absurd (h.not_OPENPGPKEY refl)
row_by_number types.CSYNC h = absurd (h.not_CSYNC refl)
row_by_number types.SVCB h = absurd (h.not_SVCB refl)
row_by_number types.HTTPS h = absurd (h.not_HTTPS refl)
row_by_number types.CAA h = absurd (h.not_CAA refl)
row_by_number t h = refl

pub texts_by_number : (t : RecordType) → HasNoStruct t → texts_of t ≡ option_map registered_texts (registered (number_of t))
texts_by_number types.A h = absurd (h.not_A refl)
texts_by_number types.NS h = absurd (h.not_NS refl)
texts_by_number types.CNAME h = absurd (h.not_CNAME refl)
texts_by_number types.SOA h = absurd (h.not_SOA refl)
texts_by_number types.PTR h = absurd (h.not_PTR refl)
texts_by_number types.HINFO h = absurd (h.not_HINFO refl)
texts_by_number types.MX h = absurd (h.not_MX refl)
texts_by_number types.TXT h = absurd (h.not_TXT refl)
texts_by_number types.AAAA h = absurd (h.not_AAAA refl)
texts_by_number types.SRV h = absurd (h.not_SRV refl)
texts_by_number types.NAPTR h = absurd (h.not_NAPTR refl)
texts_by_number types.CERT h = absurd (h.not_CERT refl)
texts_by_number types.SSHFP h = absurd (h.not_SSHFP refl)
texts_by_number types.TLSA h = absurd (h.not_TLSA refl)
texts_by_number types.SMIMEA h = absurd (h.not_SMIMEA refl)
texts_by_number types.OPENPGPKEY h = absurd (h.not_OPENPGPKEY refl)
texts_by_number types.CSYNC h = absurd (h.not_CSYNC refl)
texts_by_number types.SVCB h = absurd (h.not_SVCB refl)
texts_by_number types.HTTPS h = absurd (h.not_HTTPS refl)
texts_by_number types.CAA h = absurd (h.not_CAA refl)
texts_by_number t h = refl
