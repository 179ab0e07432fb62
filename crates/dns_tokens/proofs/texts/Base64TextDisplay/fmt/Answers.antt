use Rattle.std.proofs.lemmas.Str.{IsUtf8-from_ascii}
use Rattle.base64.specs.{Engines.standard, GeneralPurpose.encode_of}
use Rattle.base64.proofs.EngineFacts.{IsAscii-encode_of, encoded_prefix}
use Rattle.dns_tokens.proofs.texts.Base64TextDisplay.fmt.Goals as goal

pub unreachable-requires-in_default-from_utf8 : goal.unreachable-requires-in_default-from_utf8
unreachable-requires-in_default-from_utf8 g c =
    let octets = c.args.self.now.0.now in
    let text = encoded_prefix (encode_of standard octets) _ c.encode_slice.new.output _ c.in-Ok.len c.encode_slice.result _
    c.encode_slice.auto.output c.encode_slice.ensures.fits c.encode_slice.ensures.too_small c.in-Ok.is c.in-Ok.ensures.written in
    c.in_default-from_utf8.ensures.cases.0 (rw text (IsUtf8-from_ascii (encode_of standard octets) (IsAscii-encode_of standard octets)))
