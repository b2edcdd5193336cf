-- A client may go to another thread, and so may what C holds of it.
use mir.Raw.{raw}
use base.Shift.{Keyless}
use denote.Builtin.{RawPtr}
use denote.Hole.{as_row}
use denote.Memory.{lone}
use denote.RattleType.{RattleType}
use denote.RawPtr.{Ptr}
use denote.Struct.Struct.{exits_of}
use denote.Struct.Owning.{fields, to}
use denote.Struct.Owning as owning
use denote.Param.Send.{IsSend, IsSync, owning_send, part_keyless, struct_send, sendable}
use denote.Param.SendFields.{declared_send}
use Rattle.std.proofs.Crossing.{crosses, frees}
use Rattle.std.specs.declared.option.Option.{Option}
use Rattle.std.specs.declared.option.Option.TheVariants.{None, Some}
use Rattle.std_alloc.proofs.SendSync.{quiet, lies}
use Rattle.counted_slot.proofs.Counted.TheSendSync as Counted
use Rattle.std.specs.contracts.alloc.Global as global
use Rattle.std.specs.contracts.impls.GlobalAllocator.TheImpl.{ghosts}
use Rattle.comm_shared.proofs.Crossing.{client_send as shared_client_send, manager_send}
use Rattle.comm_shared.specs.contracts.client.SharedClient as shared_client
use Rattle.comm_c.proofs.Crossing.{builtin_target_send, call_result_field_send}
use Rattle.comm_c.specs.ClientState.{ClientState}
use Rattle.comm_c.specs.Handle.{heap, handle_owns}
use Rattle.comm_c.specs.contracts.client.Client as client
use Rattle.comm_c.specs.contracts.client.Client.TheInside as inside
use Rattle.comm_c.specs.contracts.client.Room as room
use Rattle.comm_c.specs.contracts.client_handle.ClientHandle as client_handle
use Rattle.comm_c.specs.contracts.desk.Desk as desk
use Rattle.comm_c.specs.contracts.gate.Gate as gate
use Rattle.comm_c.specs.contracts.gate.SlotDesk as slot
use Rattle.comm_c.specs.contracts.raw_box.RawBox as raw_box

desk_send : IsSend desk.the_row
desk_send = search (sendable, crosses, manager_send, builtin_target_send) depth 60 fits 20000

-- a desk behind a raw pointer: a reference to it shows nothing
raw_box_send : IsSend (raw_box.the_row desk.the_row global.the_row ghosts)
raw_box_send =
    let H = raw_box.the_type desk.the_row global.the_row ghosts in let ps : IsSend RawPtr = search sendable in
    let gs : IsSend global.the_row = search (sendable, crosses) depth 20 in
    owning_send H (ps, (gs, tt)) (λ l. (lies desk.the_row desk_send l.at l.value, frees.frees l.alloc (raw (lone desk.the_row.mir)) l.at))
    (λ k. quiet (to H) (exits_of k (fields H)) ((struct_send (owning.shape H) (ps, (gs, tt))).leaving k))

raw_box_sync : IsSync (raw_box.the_row desk.the_row global.the_row ghosts)
raw_box_sync = record { shared = λ d b o κ q. part_keyless (raw_box.the_row desk.the_row global.the_row ghosts) raw_box_send q d b o }

slot_send : IsSend slot.the_row
slot_send = search (sendable, crosses, raw_box_send) depth 40

slot_sync : IsSync slot.the_row
slot_sync = search (sendable, crosses, raw_box_sync) depth 40

room_send : IsSend room.the_row
room_send = search (sendable, crosses, slot_send, Counted.the_send) depth 60 fits 20000

room_sync : IsSync room.the_row
room_sync = search (sendable, crosses, slot_send, slot_sync, Counted.the_sync) depth 60 fits 20000

shared_client_field_send : IsSend (as_row shared_client.the_field)
shared_client_field_send = shared_client_send

inside_send : IsSend inside.the_row
inside_send = declared_send inside.the_type (
  search (sendable, crosses, room_send, room_sync) depth 60 fits 20000,
  (
    search (sendable, crosses, shared_client_field_send) depth 40,
    (
      search (sendable, crosses) depth 40,
      (
        search (sendable, crosses) depth 40,
        (search (sendable, crosses, call_result_field_send) depth 40, (search (sendable, crosses) depth 40, tt)),
      ),
    ),
  ),
)

client_send : IsSend client.the_row
client_send = search (sendable, inside_send) depth 60 fits 20000

-- what a handle owns says the same to every thread
owned : (p : Ptr) (x : Option ClientState) → Keyless (handle_owns client.the_row p x)
owned p None = tt
owned p (Some k) = (lies client.the_row client_send p k, frees.frees heap (raw (lone client.the_row.mir)) p)

pub client_handle_send : IsSend client_handle.the_row
client_handle_send =
    let H = client_handle.the_type in let ps : IsSend RawPtr = search sendable in
    owning_send H (ps, tt) (λ h. owned h.at h.value) (λ k. quiet (to H) (exits_of k (fields H)) ((struct_send (owning.shape H) (ps, tt)).leaving k))
