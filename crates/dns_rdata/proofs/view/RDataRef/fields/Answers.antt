use Rattle.std.proofs.Common.{refl}
use Rattle.dns_rdata.proofs.ViewFields.{all_fields}
use Rattle.dns_rdata.proofs.view.RDataRef.fields.Goals as goal

pub returns : goal.returns
returns c = λ m p n t v is f. all_fields m p n t v _ is f refl
