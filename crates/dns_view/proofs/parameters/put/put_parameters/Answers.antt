use Rattle.dns_view.proofs.PutParameters.{port_put}
use Rattle.dns_view.proofs.parameters.put.put_parameters.Goals as goal

pub returns-in-Some : goal.returns-in-Some
returns-in-Some c = port_put c.in-Some.offset c.in-Some.end c.put_octets-head.ensures c.put_octets-port.ensures c.put_octets-rest.ensures c.put_octets-in-Some.ensures c.in-Some.ensures.some
