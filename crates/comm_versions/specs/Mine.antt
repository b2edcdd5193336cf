-- What a client made, and what an answer tells it.
use Rattle.std.specs.Prelude.{ℕ, ◌≡◌, ◌+◌, ◌≤◌, List, [], ◌∷◌, ◌++◌, length, take}
use mathlib.Core.List.{IsPrefix}
use Rattle.comm_core.specs.History.{IsLegal, mine}
use Rattle.comm_core.specs.declared.call.Call.{Call}
use Rattle.comm_core.specs.declared.entry.Entry.{Entry}
use Rattle.comm_core.specs.declared.limits.Limits.{Limits}
use Rattle.comm_core.specs.declared.reply.Reply.{Reply}
use Rattle.comm_versions.specs.Asked.{IsCall}
use Rattle.comm_versions.specs.ClientView.{ClientView, client_view}

-- the answered changes of a client
abbrev pub made : ClientView → List Entry
made w = take w.number (mine w.seen w.client)

-- what the client has seen is a prefix of the history, which has of the client just what it made
abbrev pub IsSettled : List Entry → ClientView → Type 0
IsSettled history w = IsPrefix w.seen history × (mine history w.client ≡ made w)

-- A change was answered. The front is a legal history that ends with it; what stands before it begins with all that
-- the client had seen; and the front is what the client has seen now. The change is one more of those that the client
-- made, which are all that the front has of it.
pub record IsAnswered (limits : Limits) (old new : ClientView) (asked : Call) (number : ℕ) (reply : Reply)
    (front : List Entry) : Type 0 where
  pub before : List Entry
  pub came : Entry
  pub is_call : IsCall came old.client (old.number + 1) asked reply
  pub front_is : front ≡ before ++ came ∷ []
  pub seen : IsPrefix old.seen before
  pub legal : IsLegal limits.clients limits.comms front
  pub few : length front ≤ limits.history
  pub number_is : number ≡ length front
  pub now : new ≡ client_view old.client (old.number + 1) front
  pub more : made new ≡ made old ++ came ∷ []
  pub whole : mine front old.client ≡ made new
