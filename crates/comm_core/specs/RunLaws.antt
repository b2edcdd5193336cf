-- What holds of the machine after a legal history, said by the history alone. The laws of the crate promise it.
use Rattle.std.specs.Prelude.{◌≡◌, ◌↔◌, true, List, ◌∷◌, fold, Option}
use Rattle.std.specs.List.{Contains}
use Rattle.comm_value.specs.Tree.{Members}
use Rattle.comm_value.specs.Merge.{merged}
use Rattle.comm_targets.specs.declared.kind.Kind.{Kind}
use Rattle.comm_targets.specs.Meaning.{is_widget}
use Rattle.comm_core.specs.Machine.{Name, Machine}
use Rattle.comm_core.specs.declared.entry.Entry.{Entry}
use Rattle.comm_core.specs.Reads.{infos, state_in, state_of}
use Rattle.comm_core.specs.Runs.{AsksFor, IsLeftOpen, IsOpenSince, last_given}
use Rattle.comm_core.specs.Updates.{IsRegistered, OpensWith, is_stateless, updates}
use Rattle.comm_core.specs.declared.reply.StateAnswer.TheVariants.{NoComm, NoState, State}

-- the comms that are listed are just those that were left open, each with the target towards which it was opened
abbrev pub ListsThoseLeftOpen : List Entry → Machine → Type 0
ListsThoseLeftOpen history m =
    (asked : Option Name) (id target : Name)
    → Contains (infos m asked) (record { id = id; target = target })
    ↔ (AsksFor asked target × IsLeftOpen history id target)

-- a comm that was left open has the state that it was given last
abbrev pub HasStatesGivenLast : List Entry → Machine → Type 0
HasStatesGivenLast history m =
    (before : List Entry) (opener : Entry) (after : List Entry) (id target : Name)
    → IsOpenSince history before opener after id target
    → state_of m id ≡ state_in (last_given id (opener ∷ after))

-- no other comm has a state
abbrev pub HasNoOtherStates : List Entry → Machine → Type 0
HasNoOtherStates history m = (id : Name) → ((target : Name) → IsLeftOpen history id target → ⊥) → state_of m id ≡ NoComm

-- a widget's comm has the state that it was opened with, merged with each update and push that was delivered since,
-- in order
abbrev pub MergesUpdates : List Entry → Machine → Type 0
MergesUpdates history m =
    (before : List Entry) (opener : Entry) (after : List Entry) (id target : Name) (kind : Kind)
    → IsOpenSince history before opener after id target
    → IsRegistered before target kind → is_widget kind ≡ true
    → (s : Members) × OpensWith opener s × (state_of m id ≡ State (fold merged s (updates id after)))

-- the comms of an Echo, a Counter, a Plain or an Opaque target have no state
abbrev pub LeavesSomeStateless : List Entry → Machine → Type 0
LeavesSomeStateless history m =
    (before : List Entry) (opener : Entry) (after : List Entry) (id target : Name) (kind : Kind)
    → IsOpenSince history before opener after id target
    → IsRegistered before target kind → is_stateless kind ≡ true → state_of m id ≡ NoState
