-- The numbers of errors.
use Rattle.std.specs.Prelude.{ℕ}
use Rattle.dns_types.specs.{declared.error.DecodeError.DecodeError, declared.error.ParseError.ParseError}
use Rattle.dns_types.specs.declared.error.DecodeError.TheVariants as decode
use Rattle.dns_types.specs.declared.error.ParseError.TheVariants as parse

abbrev pub decode_status : DecodeError → ℕ
decode_status decode.Memory = 1
decode_status decode.InsufficientBytes = 16
decode_status (decode.IncorrectRDataLengthRead read len) = 17
decode_status (decode.UnknownRecordTypeValue number) = 18
decode_status decode.UnknownRecordTypeStr = 19
decode_status decode.NameInvalid = 20
decode_status decode.BitmapInvalid = 21
decode_status decode.CaaTagInvalid = 22
decode_status decode.NaptrFlagsInvalid = 23
decode_status (decode.UnrecognizedCsyncFlags flags) = 24
decode_status (decode.UnknownAddressFamily family) = 25
decode_status decode.SvcParamMissingValue = 26
decode_status decode.SvcParamsOutOfOrder = 27
decode_status decode.Utf8 = 28

abbrev pub parse_status : ParseError → ℕ
parse_status parse.Memory = 1
parse_status (parse.MissingToken token) = 48
parse_status (parse.Message text) = 49
parse_status (parse.UnsupportedRecordType t) = 50
parse_status parse.AddrParse = 52
parse_status (parse.Proto e) = 52
