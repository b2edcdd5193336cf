use Rattle.std.proofs.Common.{rules, arith}
use Rattle.comm_reader.proofs.MessageTests.{client_is}
use Rattle.comm_reader.proofs.parts.client_below.Goals as goal

pub returns-then-client-clients-clause-value : goal.returns-then-client-clients-clause-value
returns-then-client-clients-clause-value c = client_is c.args.clients c.args.client (omega arith) (search rules)
