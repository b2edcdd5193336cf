-- What the tests of the versions append.
use Rattle.std.specs.Prelude.{ℕ, codes, None, []}
use Rattle.comm_core.specs.declared.call.Call.TheVariants as call
use Rattle.comm_core.specs.declared.entry.Entry.{Entry}
use Rattle.comm_core.specs.declared.entry.Entry.TheVariants.{Change}
use Rattle.comm_core.specs.declared.reply.Reply.TheVariants as reply

-- client 0 closes a comm that isn't there, as its change of this number
abbrev pub close_of : ℕ → Entry
close_of number = Change 0 number (call.Close (codes "q")) None reply.NoComm []
