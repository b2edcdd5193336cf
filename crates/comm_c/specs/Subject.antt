-- What a call is about: a comm, by its id, and a target, by its name.
use Rattle.std.specs.Prelude.{Option, Some, None, option_map}
use Rattle.comm_core.specs.Machine.{Machine, Name, at}
use Rattle.comm_core.specs.Step.{comm_id}
use Rattle.comm_core.specs.declared.call.Call.{Call}
use Rattle.comm_core.specs.declared.call.Call.TheVariants.{Register, Open, Msg, Close, Unregister, Launch, Push}
use Rattle.comm_core.specs.declared.call.Call.TheVariants.{Send, HangUp}
use Rattle.comm_c.specs.declared.subject.Subject.{Subject}

-- the name of an open comm's target
abbrev pub target_of : Machine → Name → Option Name
target_of m id = option_map (λ c. c.target) (at m.comms id)

-- a comm, with its target where it is open
abbrev pub of_comm : Machine → Name → Subject
of_comm m id = record { comm = Some id; target = target_of m id }

-- a target alone
abbrev pub of_target : Name → Subject
of_target name = record { comm = None; target = Some name }

-- a comm that is to be opened towards a target
abbrev pub of_opening : Name → Name → Subject
of_opening id name = record { comm = Some id; target = Some name }

-- what a call is about, in the machine before it
abbrev pub subject_of : Machine → Call → Subject
subject_of m (Register name kind notes) = of_target name
subject_of m (Open id target version body) = of_opening id target
subject_of m (Msg id body) = of_comm m id
subject_of m (Close id) = of_comm m id
subject_of m (Unregister name) = of_target name
subject_of m (Launch uuid target state) = of_opening (comm_id uuid) target
subject_of m (Push id state) = of_comm m id
subject_of m (Send id body) = of_comm m id
subject_of m (HangUp id) = of_comm m id
