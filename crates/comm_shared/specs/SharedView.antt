-- What contracts see of a client: which history it belongs to, and of that what it made and has seen.
use Rattle.std.specs.Prelude.{◌≡◌, ◌≤◌, ℕ, List, [], length}
use mathlib.Core.List.{IsPrefix}
use Rattle.comm_messages.specs.declared.outgoing.Outgoing.{Outgoing}
use Rattle.comm_core.specs.History.{IsLegal, mine}
use Rattle.comm_core.specs.declared.call.Call.{Call}
use Rattle.comm_core.specs.declared.entry.Entry.{Entry}
use Rattle.comm_core.specs.declared.entry.Entry.TheVariants.{Change, End}
use Rattle.comm_core.specs.declared.limits.Limits.{Limits}
use Rattle.comm_core.specs.declared.reply.Reply.{Reply}
use Rattle.comm_versions.specs.Asked.{IsNext}
use Rattle.comm_versions.specs.ClientView.{ClientView, client_view}
use Rattle.comm_versions.specs.Known.{Known, Origin, known}
use Rattle.comm_versions.specs.Mine.{IsAnswered, made}

pub record SharedView : Type 0 where
  pub origin : Origin
  pub own : ClientView

-- how many clients there may be at a time
abbrev pub seats : ℕ
seats = 256

-- how many changes there may be
abbrev pub most_changes : ℕ
most_changes = 4611686018427387904

-- by which limits a history of this origin is legal
abbrev pub limits_of : Origin → Limits
limits_of o = record { clients = o.clients; comms = o.limit; history = most_changes; outbox = 0 }

-- a client in this seat, which has seen the whole history; the seat's changes are its own
abbrev pub newcomer : Known → (seat : ℕ) → SharedView
newcomer k seat = record { origin = k.origin; own = client_view seat (length (mine k.entries seat)) k.entries }

-- what went out by an entry
abbrev pub outgoing_of : Entry → List Outgoing
outgoing_of (Change client number call outcome reply outgoing) = outgoing
outgoing_of End = []

-- the last entry of a history now is this change of this seat, which was answered so, and by which this went out
pub record IsMade (before after : List Entry) (seat number : ℕ) (asked : Call) (reply : Reply) (outgoing : List Outgoing)
    : Type 0 where
  pub next : IsNext before after seat number asked reply
  pub outgoing_is : outgoing_of next.came ≡ outgoing

-- A change was answered to this client, as the last entry of the history, and this went out by it. What stands before
-- it is the history before, which begins with all that the client had seen.
pub record HasMade (old new : SharedView) (asked : Call) (number : ℕ) (reply : Reply) (outgoing : List Outgoing)
    (before after : Known) : Type 0 where
  pub answered : IsAnswered (limits_of old.origin) old.own new.own asked number reply after.entries
  pub outgoing_is : outgoing_of answered.came ≡ outgoing
  pub history_is : answered.before ≡ before.entries
  pub origin_is : new.origin ≡ old.origin
  pub origin_stays : after.origin ≡ old.origin

-- ---- reads

-- what a client has seen of which history
abbrev pub seen_of : SharedView → Known
seen_of v = known v.origin v.own.seen

-- A read was at this front, which is what has been seen now: a legal history of at least `since` entries, which begins
-- with all that had been seen.
pub record HasRead (old new : Known) (since front : ℕ) : Type 0 where
  pub origin_is : new.origin ≡ old.origin
  pub later : IsPrefix old.entries new.entries
  pub reaches : since ≤ length new.entries
  pub legal : IsLegal new.origin.clients new.origin.limit new.entries
  pub front_is : front ≡ length new.entries

-- the same client of the same history, which made the same changes
pub record HasMadeNone (old new : SharedView) : Type 0 where
  pub origin_is : new.origin ≡ old.origin
  pub client_is : new.own.client ≡ old.own.client
  pub number_is : new.own.number ≡ old.own.number
  pub made_is : made new.own ≡ made old.own
