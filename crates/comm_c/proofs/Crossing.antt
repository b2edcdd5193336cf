-- A manager may go to another thread, and so may what C holds of it.
use mir.Raw.{raw}
use base.Shift.{Keyless}
use denote.Builtin.{RawPtr}
use denote.Hole.{as_row}
use denote.Memory.{lone}
use denote.RattleType.{RattleType}
use denote.RawPtr.{Ptr}
use denote.Struct.Struct.{exits_of}
use denote.Struct.Owning.{shape, fields, to}
use denote.Param.Send.{IsSend, owning_send, struct_send, sendable}
use denote.Param.SendFields.{declared_send, variants_send}
use Rattle.std.proofs.Crossing.{crosses, frees}
use Rattle.std.specs.declared.option.Option.{Option}
use Rattle.std.specs.declared.option.Option.TheVariants.{None, Some}
use Rattle.std_alloc.proofs.SendSync.{quiet, lies}
use Rattle.comm_core.proofs.Crossing.{outgoings_send, reply_field_send, values}
use Rattle.comm_messages.specs.contracts.parts.PartsScratch as scratch
use Rattle.comm_targets.proofs.Sends.{echo_sends, counter_sends, plain_sends}
use Rattle.comm_targets.specs.contracts.counter.Counter as counter
use Rattle.comm_targets.specs.contracts.echo.Echo as echo
use Rattle.comm_targets.specs.contracts.plain.PlainTarget as plain
use Rattle.comm_shared.proofs.Crossing.{core_send}
use Rattle.comm_value.proofs.text.Text.TheSendSync as Text
use Rattle.comm_value.specs.contracts.known_texts.KnownTexts as known_texts
use Rattle.widget_target.proofs.Sends.{widget_sends}
use Rattle.widget_target.specs.contracts.widget.WidgetTarget as widget
use Rattle.comm_c.specs.Handle.{heap, handle_owns}
use Rattle.comm_c.specs.ManagerState.{ManagerState}
use Rattle.comm_c.specs.contracts.counted_core.CountedCore as counted_core
use Rattle.comm_c.specs.contracts.handle.Handle as handle
use Rattle.comm_c.specs.contracts.held_manager.HeldManager as manager
use Rattle.comm_c.specs.contracts.held_manager.HeldManager.TheInside as inside
use Rattle.comm_c.specs.contracts.call_result.MadeChange as made
use Rattle.comm_c.specs.contracts.call_result.CallResult as call_result
use Rattle.comm_c.specs.contracts.builtin_target.BuiltinTarget as builtin_target
use Rattle.comm_c.specs.contracts.subject.Subject as subject
use Rattle.comm_core.specs.contracts.reply.StateAnswer as state_answer
use Rattle.comm_script.specs.contracts.asked.LineFault as line_fault

-- a field of an enum or a struct, by a name of its own
echo_field_send : IsSend (as_row echo.the_field)
echo_field_send = echo_sends

counter_field_send : IsSend (as_row counter.the_field)
counter_field_send = counter_sends

widget_field_send : IsSend (as_row widget.the_field)
widget_field_send = widget_sends

plain_field_send : IsSend (as_row plain.the_field)
plain_field_send = plain_sends

pub builtin_target_send : IsSend builtin_target.the_row
builtin_target_send = variants_send builtin_target.enum (search (sendable, crosses, echo_field_send, counter_field_send, widget_field_send, plain_field_send) depth 40)

counted_core_send : IsSend counted_core.the_row
counted_core_send = search (sendable, crosses, builtin_target_send, core_send) depth 60 fits 20000

counted_core_field_send : IsSend (as_row counted_core.the_field)
counted_core_field_send = counted_core_send

subject_send : IsSend subject.the_row
subject_send = search (sendable, crosses, Text.the_send) depth 40

subject_field_send : IsSend (as_row subject.the_field)
subject_field_send = subject_send

made_change_send : IsSend made.the_row
made_change_send = declared_send made.the_type (
  search (sendable, crosses) depth 40,
  (
    search (sendable, crosses) depth 40,
    (
      search (sendable, crosses) depth 40,
      (
        search (sendable, crosses, subject_field_send) depth 40,
        (search (sendable, crosses, reply_field_send) depth 40, (search (sendable, crosses, outgoings_send) depth 40, tt)),
      ),
    ),
  ),
)

made_change_field_send : IsSend (as_row made.the_field)
made_change_field_send = made_change_send

state_answer_send : IsSend state_answer.the_row
state_answer_send = search values depth 40

state_answer_field_send : IsSend (as_row state_answer.the_field)
state_answer_field_send = state_answer_send

line_fault_send : IsSend line_fault.the_row
line_fault_send = search (sendable, crosses) depth 40

line_fault_field_send : IsSend (as_row line_fault.the_field)
line_fault_field_send = line_fault_send

call_result_send : IsSend call_result.the_row
call_result_send = variants_send call_result.enum (search (sendable, crosses, made_change_field_send, outgoings_send, state_answer_field_send, line_fault_field_send, Text.the_send) depth 40)

pub call_result_field_send : IsSend (as_row call_result.the_field)
call_result_field_send = call_result_send

-- the memory that calls are parsed into has no arena in it, which would bind it to a thread
scratch_send : IsSend scratch.the_row
scratch_send = search (sendable, crosses) depth 40

scratch_field_send : IsSend (as_row scratch.the_field)
scratch_field_send = scratch_send

texts_send : IsSend known_texts.the_row
texts_send = search (sendable, crosses) depth 40

texts_field_send : IsSend (as_row known_texts.the_field)
texts_field_send = texts_send

inside_send : IsSend inside.the_row
inside_send = declared_send inside.the_type (
  search (sendable, crosses, counted_core_field_send) depth 40,
  (
    search (sendable, crosses) depth 40,
    (
      search (sendable, crosses, call_result_field_send) depth 40,
      (
        search (sendable, crosses, scratch_field_send) depth 40,
        (
          search (sendable, crosses, texts_field_send) depth 40,
          (search (sendable, crosses) depth 40, (search (sendable, crosses) depth 40, (search (sendable, crosses) depth 40, tt))),
        ),
      ),
    ),
  ),
)

manager_send : IsSend manager.the_row
manager_send = search (sendable, inside_send) depth 60 fits 20000

-- what a handle owns says the same to every thread
owned : (p : Ptr) (x : Option ManagerState) → Keyless (handle_owns manager.the_row p x)
owned p None = tt
owned p (Some k) = (lies manager.the_row manager_send p k, frees.frees heap (raw (lone manager.the_row.mir)) p)

pub handle_send : IsSend handle.the_row
handle_send =
    let H = handle.the_type in let ps : IsSend RawPtr = search sendable in
    owning_send H (ps, tt) (λ h. owned h.at h.value) (λ k. quiet (to H) (exits_of k (fields H)) ((struct_send (shape H) (ps, tt)).leaving k))
