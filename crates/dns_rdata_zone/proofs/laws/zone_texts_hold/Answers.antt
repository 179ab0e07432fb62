use Rattle.dns_rdata_zone.proofs.{Filled.fills_give, Filled.fills_print, Filled.fills_tell, TextsGive.texts_give, TextsGive.texts_print, TextsGive.texts_tell, ZoneOnce.one_given}
use Rattle.dns_rdata_zone.proofs.laws.zone_texts_hold.Goals as goal

pub returns : goal.returns
returns c = record {
  give = texts_give;
  tell = texts_tell;
  print = texts_print;
  one = one_given;
  filled_give = fills_give;
  filled_tell = fills_tell;
  filled_print = fills_print;
}
