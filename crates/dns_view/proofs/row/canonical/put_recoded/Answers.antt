use Rattle.dns_view.proofs.PutLoop.{coded_as}
use Rattle.dns_view.proofs.row.canonical.put_recoded.Goals as goal

pub returns-in-Options : goal.returns-in-Options
returns-in-Options c = coded_as c.args.low c.in-Options.is c.put_options.ensures.put

pub returns-in-Parameters : goal.returns-in-Parameters
returns-in-Parameters c = coded_as c.args.low c.in-Parameters.is c.put_parameters.ensures

pub returns-in-Bitmap : goal.returns-in-Bitmap
returns-in-Bitmap c = coded_as c.args.low c.in-Bitmap.is c.put_bitmap.ensures.put
