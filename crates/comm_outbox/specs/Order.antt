-- The rule of the queue. At most one pass may put, and it has the list of what was put; at most one may take, and it
-- has the list of what was taken.
use Rattle.std.specs.Prelude.{ℕ, ◌≡◌, ◌≤◌, ◌^◌, Bool, true, List, [], ◌∷◌, ◌++◌, length}
use mathlib.Core.List.{IsPrefix}
use mathlib.Core.Option.{some}
use lib.ListN.{get_elem?}
use Rattle.std.specs.Arc.{arc_value}
use Rattle.std.specs.declared.sync.Arc.{Arc}
use Rattle.std.specs.declared.alloc.Global.{Global}
use Rattle.comm_core.specs.History.{IsLegal}
use Rattle.comm_core.specs.declared.entry.Entry.{Entry}
use Rattle.comm_outbox.specs.declared.entry_queue.Bounds.{Bounds}
use Rattle.comm_outbox.specs.declared.entry_queue.PassView.{PassView}
use Rattle.comm_outbox.specs.Sides.{entries_of}

abbrev pub bounds : ℕ → ℕ → Bounds
bounds clients comms = record { clients = clients; comms = comms }

abbrev pub pass_view : Bool → Bool → Bounds → List Entry → List Entry → PassView
pass_view puts takes by sent got = record { puts = puts; takes = takes; bounds = by; sent = sent; got = got }

abbrev pub Item : Type 0
Item = Arc Entry Global

-- what a pass knows is so, where it may put or take
abbrev pub Fits : ℕ → ℕ → Bounds → List Entry → List Entry → ℕ → PassView → Type 0
Fits writer reader by sent got port v =
    (v.puts ≡ true → (port ≡ writer) × (v.bounds ≡ by) × (v.sent ≡ sent))
    × (v.takes ≡ true → (port ≡ reader) × (v.bounds ≡ by) × (v.got ≡ got))

-- what was put is legal, and is what was taken and then what the queue holds
pub record KeepsOrder (items : List Item) (views : List PassView) : Type 0 where
  pub writer : ℕ
  pub reader : ℕ
  pub by : Bounds
  pub sent : List Entry
  pub got : List Entry
  pub divided : sent ≡ got ++ entries_of items
  pub legal : IsLegal by.clients by.comms sent
  pub few : length sent ≤ 2 ^ 62
  pub fits : (port : ℕ) (v : PassView) → get_elem? views port ≡ some v → Fits writer reader by sent got port v

-- the entry was put
abbrev pub HasPut : PassView → Item → PassView → Type 0
HasPut v x w = w ≡ pass_view v.puts v.takes v.bounds (v.sent ++ arc_value x ∷ []) v.got

-- these entries begin what was put, which is legal
pub record BeginsPuts (by : Bounds) (taken : List Entry) : Type 0 where
  pub puts : List Entry
  pub begins : IsPrefix taken puts
  pub legal : IsLegal by.clients by.comms puts
  pub few : length puts ≤ 2 ^ 62

-- the entry was taken
abbrev pub HasTaken : PassView → Item → PassView → Type 0
HasTaken v x w =
    (w ≡ pass_view v.puts v.takes v.bounds v.sent (v.got ++ arc_value x ∷ []))
    × BeginsPuts v.bounds (v.got ++ arc_value x ∷ [])

-- the entry was taken by a pass that knows what was put
abbrev pub HasDrained : PassView → Item → PassView → Type 0
HasDrained v x w =
    (w ≡ pass_view v.puts v.takes v.bounds v.sent (v.got ++ arc_value x ∷ []))
    × IsPrefix (v.got ++ arc_value x ∷ []) v.sent

-- what the queue holds was put last
abbrev pub Leaves : List Entry → List Item → Type 0
Leaves sent items = (got : List Entry) × (sent ≡ got ++ entries_of items)

-- what was put is what was taken and then what the queue holds
abbrev pub Divides : PassView → List Item → Type 0
Divides v items = v.sent ≡ v.got ++ entries_of items
