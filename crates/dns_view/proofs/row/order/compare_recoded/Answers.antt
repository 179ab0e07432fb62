use Rattle.dns_view.proofs.RowOrder.{recoded_as, recoded_same}
use Rattle.dns_view.proofs.row.order.compare_recoded.Goals as goal

pub returns-then-same_octets : goal.returns-then-same_octets
returns-then-same_octets c = λ coded. recoded_same (c.same_octets.ensures.0 c.if-same_octets.true)

pub returns-in-Options : goal.returns-in-Options
returns-in-Options c = recoded_as c.in-Options.is c.compare_options.ensures

pub returns-in-Parameters : goal.returns-in-Parameters
returns-in-Parameters c = recoded_as c.in-Parameters.is c.compare_parameters.ensures

pub returns-in-Bitmap : goal.returns-in-Bitmap
returns-in-Bitmap c = recoded_as c.in-Bitmap.is c.compare_bitmaps.ensures
