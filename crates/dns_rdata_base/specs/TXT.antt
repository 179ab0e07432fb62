-- TXT: character strings (RFC 1035, 3.3.14).
use Rattle.std.specs.Prelude.{◌≡◌, ◌⊎◌, ◌+◌, ◌<◌, ℕ, List}
use Rattle.std.specs.{List.flat_map, Ordering.on}
use Rattle.dns_fields.specs.{declared.Kind.Kind, declared.Kind.TheVariants.CharacterStrings, Fields.Values}
use Rattle.dns_fields.specs.{Order.values_cmp}
use Rattle.dns_rows.specs.Table.{kinds_of}
use Rattle.dns_rows.specs.declared.row.TheConstants as rows
use Rattle.dns_types.specs.declared.error.DecodeError.{DecodeError}
use Rattle.dns_types.specs.declared.error.DecodeError.TheVariants as decode
use Rattle.dns_names_wire.specs.{State.Reading, Terms.TookField, Terms.LacksText, Terms.StringsReach, Facts.Facts}
use Rattle.dns_tokens.specs.Forms.{TokenRow, every_text}
use Rattle.dns_rdata_base.specs.{Lossy.lossy, declared.txt.TXT.TXT}

-- none or more, to the end
abbrev pub txt_shape : List Kind
txt_shape = kinds_of rows.TXT

abbrev pub txt_fields : TXT → Values (kinds_of rows.TXT)
txt_fields x = (x.txt_data, tt)

-- the strings, nothing between
abbrev pub txt_text : TXT → List ℕ
txt_text x = flat_map lossy x.txt_data

-- strings
abbrev pub txt_tokens : TokenRow txt_shape
txt_tokens = every_text

-- the strings that were taken reach the length, or pass it, and the last of them begins before it
abbrev pub txt_facts : Facts TXT
txt_facts = record {
  row = rows.TXT;
  fields = txt_fields;
  after_read = λ n x old new. TookField old CharacterStrings x.txt_data new × StringsReach (old.index + n) x.txt_data new.index;
  order = on txt_fields (values_cmp txt_shape);
}
