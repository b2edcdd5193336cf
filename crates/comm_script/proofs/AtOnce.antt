-- A line that is read in one walk.
use Rattle.std.proofs.Common.{◌≡◌, ℕ, List, Ok, refl, codes}
use Rattle.comm_value.specs.declared.from_json.Numbers.{Numbers}
use Rattle.comm_messages.specs.declared.incoming.Incoming.{Incoming}
use Rattle.comm_value.specs.Tree as tree
use Rattle.comm_core.specs.declared.call.Call.TheVariants.{Push}
use Rattle.comm_reader.specs.Reader.{IsMessage, IsPush}
use Rattle.comm_script.specs.Command.{asked, asked_by_message, push_in, state_with}
use Rattle.comm_script.specs.declared.asked.Request.TheVariants.{Change}

-- a message without the key of a command is what its line asks for
pub asked_of_message : (numbers : Numbers) (clients : ℕ) (line : List ℕ) (m : ℕ × Incoming) → IsMessage (codes "call") clients numbers line m → asked numbers clients line ≡ Ok (m.0, asked_by_message m.1)
asked_of_message numbers clients line m h = rw (h.1, h.2.0, h.2.1) refl

-- a push without buffers
pub asked_of_push : (numbers : Numbers) (clients : ℕ) (line : List ℕ) (p : List ℕ × tree.Members) → IsPush numbers line p → asked numbers clients line ≡ Ok (0, Change (Push p.0 p.1))
unfolding push_in state_with
asked_of_push numbers clients line p h = rw (h.1, h.2) refl
