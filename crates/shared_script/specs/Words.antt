-- The lines that a manager gives which threads share.
use Rattle.std.specs.Prelude.{ℕ, List, [], ◌++◌, codes}
use Rattle.comm_messages.specs.declared.outgoing.Parent.TheVariants as parent
use Rattle.comm_core.specs.declared.entry.Entry.{Entry}
use Rattle.comm_core.specs.declared.entry.Entry.TheVariants.{Change, End}
use Rattle.comm_script.specs.Words.{numbered, reply_line, out_lines}
use Rattle.shared_script.specs.declared.wording.Full.{Full}
use Rattle.shared_script.specs.declared.wording.Full.TheVariants as full

abbrev pub full_words : Full → List ℕ
full_words full.History = codes "history_full"
full_words full.Outbox = codes "outbox_full"

-- of a change that isn't made, by its line's number in the script
abbrev pub unavailable_line : ℕ → Full → List ℕ
unavailable_line n full = numbered (codes "unavailable ") n (full_words full)

-- of the entry that stands at a place of the history: its reply, and what it sends
abbrev pub entry_lines : ℕ → Entry → List ℕ
entry_lines place (Change client number call outcome reply outgoing) =
    reply_line place reply ++ out_lines outgoing (parent.Call client number)
entry_lines place End = []
