-- How a history tells of the targets and of the states of their comms, from its calls and replies alone.
use Rattle.std.specs.Prelude.{◌≡◌, Bool, true, false, List, ◌∷◌, ◌++◌, Option, Some, None, Result, Ok, Err}
use Rattle.std.specs.Prelude.{codes, if◌then◌else◌}
use Rattle.std.specs.List.{list_any, filter_map}
use Rattle.std.specs.Str.{bytes_eq}
use Rattle.comm_value.specs.Tree.{Tree, text, Members}
use Rattle.comm_value.specs.Node.{get}
use Rattle.comm_messages.specs.Content.{Content}
use Rattle.comm_targets.specs.Widget as widget
use Rattle.comm_targets.specs.Widget.{state_of}
use Rattle.comm_targets.specs.declared.kind.Kind.{Kind}
use Rattle.comm_targets.specs.declared.kind.Kind.TheVariants.{Echo, Counter, Plain, Opaque}
use Rattle.comm_targets.specs.declared.fault.TargetFault.{TargetFault}
use Rattle.comm_core.specs.Machine.{Name}
use Rattle.comm_core.specs.declared.entry.Entry.{Entry}
use Rattle.comm_core.specs.declared.entry.Entry.TheVariants.{Change, End}
use Rattle.comm_core.specs.declared.call.Call.{Call}
use Rattle.comm_core.specs.declared.call.Call.TheVariants.{Register, Open, Msg, Unregister, Launch, Push}
use Rattle.comm_core.specs.declared.reply.Reply.{Reply}
use Rattle.comm_core.specs.declared.reply.Reply.TheVariants as reply

-- ---- which targets are registered

-- the name and the kind of the target that is registered
abbrev pub registering : Call → Reply → Option (Name × Kind)
registering (Register name kind notes) reply.Registered = Some (name, kind)
registering (Register name kind notes) (reply.Replaced ids) = Some (name, kind)
registering call r = None

abbrev pub HasRegistered : Entry → Name → Kind → Type 0
HasRegistered (Change client number call outcome r outgoing) name kind = registering call r ≡ Some (name, kind)
HasRegistered End name kind = ⊥

-- the target is taken out, or replaced
abbrev pub unregistering : Call → Reply → Name → Bool
unregistering (Unregister taken) (reply.Unregistered ids) name = bytes_eq taken name
unregistering (Register taken kind notes) (reply.Replaced ids) name = bytes_eq taken name
unregistering call r name = false

abbrev pub has_unregistered : Name → Entry → Bool
has_unregistered name (Change client number call outcome r outgoing) = unregistering call r name
has_unregistered name End = true

-- A target of this kind was registered under the name, and nothing has taken it out or replaced it since.
pub record IsRegistered (history : List Entry) (name : Name) (kind : Kind) : Type 0 where
  pub before : List Entry
  pub registrar : Entry
  pub after : List Entry
  pub parts : history ≡ before ++ registrar ∷ after
  pub registered : HasRegistered registrar name kind
  pub lasts : list_any (has_unregistered name) after ≡ false

-- its comms have no state
abbrev pub is_stateless : Kind → Bool
is_stateless Echo = true
is_stateless Counter = true
is_stateless Plain = true
is_stateless Opaque = true
is_stateless kind = false

-- ---- what a widget is told ('Jupyter widgets messaging protocol' 2.1.0)

abbrev pub when_ok : Result Members TargetFault → Option Members
when_ok (Ok s) = Some s
when_ok (Err f) = None

-- the state that the call opens a widget's comm with ("Instantiating a widget object")
abbrev pub opening_state : Call → Option Members
opening_state (Open id target version body) = when_ok (widget.opening_state version body)
opening_state (Launch uuid target state) = Some state
opening_state call = None

abbrev pub OpensWith : Entry → Members → Type 0
OpensWith (Change client number call outcome r outgoing) s = opening_state call ≡ Some s
OpensWith End s = ⊥

abbrev pub is_update : Option Tree → Bool
is_update (Some (text method)) = bytes_eq method (codes "update")
is_update method = false

abbrev pub told_state : Option Tree → Content → Option Members
told_state None body = None
told_state (Some t) body = when_ok (state_of t body)

-- the keys with their values that a message of the method `update` tells, its buffers put back ("Synchronizing state")
abbrev pub update_in : Content → Option Members
update_in body =
    if is_update (get (codes "method") body.content) then told_state (get (codes "state") body.content) body else None

-- the keys with their values that the call tells the comm, where it's delivered: those of an `update` of the
-- frontend, or of a push of the kernel
abbrev pub update : Name → Call → Reply → Option Members
update id (Msg told body) (reply.Delivered custom) = if bytes_eq id told then update_in body else None
update id (Push told state) (reply.Delivered custom) = if bytes_eq id told then Some state else None
update id call r = None

abbrev pub update_by : Name → Entry → Option Members
update_by id (Change client number call outcome r outgoing) = update id call r
update_by id End = None

-- the updates of the comm, in order
abbrev pub updates : Name → List Entry → List Members
updates id entries = filter_map (update_by id) entries
