use Rattle.std.proofs.Common.{arith}
use Rattle.comm_json.proofs.LookUp.{count_of, count_of_owned}
use Rattle.comm_json.proofs.json_ref.ItemsRef.len.Goals as goal

pub returns-in-Owned : goal.returns-in-Owned
returns-in-Owned c = rw c.in-Owned.is (omega (arith, count_of_owned c.in-Owned.items.now.items))

pub returns-in-Borrowed : goal.returns-in-Borrowed
returns-in-Borrowed c = rw c.in-Borrowed.is (omega (arith, count_of c.in-Borrowed.items.now.items))
