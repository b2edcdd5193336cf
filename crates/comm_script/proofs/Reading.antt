-- What the parts of a command give.
use Rattle.std.proofs.Common.{◌≡◌, ℕ, List, Option, Some, None, Result, Ok, Err, ap, ◌∙◌, refl}
use Rattle.comm_value.specs.Tree.{dict, Members}
use Rattle.comm_value.specs.Node.{Path}
use Rattle.comm_value.specs.Paths.{Refuses}
use Rattle.comm_value.specs.Gives.{Fails, or_fault}
use Rattle.comm_value.specs.Put.{placed, members_in}
use Rattle.comm_value.specs.declared.fault.ValueFault.{ValueFault}
use Rattle.comm_value.specs.declared.fault.ValueFault.TheVariants.{NotWhole, BadPath, BufferMissing, Memory}
use Rattle.comm_script.specs.Line.{is_memory}
use Rattle.comm_script.specs.Command.{of_value, placed_at}
use Rattle.comm_script.specs.declared.asked.LineFault.{LineFault}
use Rattle.comm_script.specs.declared.asked.LineFault.TheVariants.{Value}

-- the paths can't be read
pub unread : (e : ValueFault) (r : Result (List Path) ValueFault) (bs : List (List ℕ)) (ms : Members) → Refuses e r → Fails (is_memory (Value e)) (Value e) (placed_at r bs ms)
unread Memory r bs ms h = tt
unread NotWhole r bs ms h = ap (λ r. placed_at r bs ms) h
unread (BadPath n) r bs ms h = ap (λ r. placed_at r bs ms) h
unread (BufferMissing n) r bs ms h = ap (λ r. placed_at r bs ms) h

-- a buffer can't be placed
pub unplaced : (e : ValueFault) (r : Result (List Path) ValueFault) (ps : List Path) (bs : List (List ℕ)) (ms : Members) → r ≡ Ok ps → Refuses e (placed ps bs (dict ms)) → Fails (is_memory (Value e)) (Value e) (placed_at r bs ms)
unplaced Memory r ps bs ms is h = tt
unplaced NotWhole r ps bs ms is h = ap (λ r. placed_at r bs ms) is ∙ ap (λ t. of_value (members_in t)) h
unplaced (BadPath n) r ps bs ms is h = ap (λ r. placed_at r bs ms) is ∙ ap (λ t. of_value (members_in t)) h
unplaced (BufferMissing n) r ps bs ms is h = ap (λ r. placed_at r bs ms) is ∙ ap (λ t. of_value (members_in t)) h

pub placed_there : (r : Result (List Path) ValueFault) (ps : List Path) (bs : List (List ℕ)) (ms d : Members) → r ≡ Ok ps → placed ps bs (dict ms) ≡ Ok (dict d) → placed_at r bs ms ≡ Ok d
placed_there r ps bs ms d is h = ap (λ r. placed_at r bs ms) is ∙ ap (λ t. of_value (members_in t)) h

-- what isn't there reads as a fault
pub missing : {A : Type 0} (o : Option A) (e : LineFault) → ((x : A) → o ≡ Some x → ⊥) → or_fault e o ≡ Err e
missing None e h = refl
missing (Some x) e h = absurd (h x refl)
