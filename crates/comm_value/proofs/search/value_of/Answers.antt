use Rattle.std.proofs.Common.{sym}
use Rattle.comm_value.proofs.SearchLemmas.{found_value, none_value}
use Rattle.comm_value.proofs.search.value_of.Goals as goal

pub returns-in-Ok : goal.returns-in-Ok
returns-in-Ok c = sym (found_value c.args.key.now _ c.in-Ok.i c.index-members-i.result c.in-Ok.ensures.found.0 c.in-Ok.ensures.found.1 c.in-Ok.ensures.found.2)

pub returns-in-Err : goal.returns-in-Err
returns-in-Err c = sym (none_value c.args.key.now _ c.in-Err.field-0 c.requires c.in-Err.ensures.absent.1 c.in-Err.ensures.absent.2)
