use Rattle.std.proofs.Common.{arith}
use Rattle.dns_message.proofs.Headers.{no_header}
use Rattle.dns_message.proofs.message.MessageRef.read.Goals as goal

pub returns-then-octets-lt-HEADER_OCTETS-clause-none : goal.returns-then-octets-lt-HEADER_OCTETS-clause-none
returns-then-octets-lt-HEADER_OCTETS-clause-none c = no_header (omega arith)

pub returns-clause-header : goal.returns-clause-header
returns-clause-header c = record { header = c.header_of-header.result; is = c.header_of-header.ensures }
