-- CSYNC: which records of a child zone its parent copies (RFC 7477, 2.1).
use Rattle.std.specs.{Prelude.◌++◌, Prelude.codes, Prelude.decimal, List.flat_map}
use Rattle.std.specs.Prelude.{◌≡◌, ℕ, ◌+◌, ◌*◌, ◌/◌, ◌%◌, Bool, if◌then◌else◌, List, [], ◌∷◌}
use Rattle.dns_types.specs.{RecordTypes.record_type_of, RecordTypes.type_text}
use Rattle.dns_fields.specs.Fields.{Values}
use Rattle.dns_fields.specs.declared.Kind.{Kind, TheVariants.Number, TheVariants.Bitmap}
use Rattle.dns_rows.specs.Table.{kinds_of}
use Rattle.dns_rows.specs.declared.row.TheConstants as rows
use Rattle.dns_names_wire.specs.Facts.{Facts, filling}
use Rattle.dns_rdata_base.specs.Ordered.{by_keys}
use Rattle.dns_rdata_policy.specs.declared.csync.CSYNC.{CSYNC}

-- serial, flags, types
abbrev pub csync_shape : List Kind
csync_shape = kinds_of rows.CSYNC

abbrev pub bit : Bool → ℕ
bit b = if b then 1 else 0

-- the reserved flags without their two lowest bits, which are soaminimum and, lowest, immediate (2.1.1.2)
abbrev pub csync_flags : CSYNC → ℕ
csync_flags x = x.reserved_flags / 4 * 4 + 2 * bit x.soa_minimum + bit x.immediate

-- serial, flags
abbrev pub csync_numbers_shape : List Kind
csync_numbers_shape = Number 4 ∷ Number 2 ∷ []

abbrev pub csync_numbers : CSYNC → Values csync_numbers_shape
csync_numbers x = (x.soa_serial, (csync_flags x, tt))

abbrev pub csync_fields : CSYNC → Values (kinds_of rows.CSYNC)
csync_fields x = (x.soa_serial, (csync_flags x, (x.type_bit_maps, tt)))

-- what is compared: serial, immediate, soaminimum, reserved flags, types
abbrev pub csync_key_shape : List Kind
csync_key_shape = Number 4 ∷ Number 1 ∷ Number 1 ∷ Number 2 ∷ Bitmap ∷ []

abbrev pub csync_keys : CSYNC → Values csync_key_shape
csync_keys x = (x.soa_serial, (bit x.immediate, (bit x.soa_minimum, (x.reserved_flags, (x.type_bit_maps, tt)))))

-- the reserved flags lack the two bits that have fields of their own
pub record IsReadCsync (x : CSYNC) : Type 0 where
  pub reserved : x.reserved_flags % 4 ≡ 0

-- the text of each type, a blank before it
abbrev pub types_text : List ℕ → List ℕ
types_text numbers = flat_map (λ n. codes " " ++ type_text (record_type_of n)) numbers

-- serial and flags in decimal, and the types
abbrev pub csync_text : CSYNC → List ℕ
csync_text x = decimal x.soa_serial ++ codes " " ++ decimal (csync_flags x) ++ types_text x.type_bit_maps

abbrev pub csync_facts : Facts CSYNC
csync_facts = by_keys csync_key_shape csync_keys (filling rows.CSYNC csync_fields IsReadCsync)
