-- What is asked of a target.
use Rattle.std.specs.Prelude.{ℕ, List}
use Rattle.comm_targets.specs.declared.event.Event.{Event}
use Rattle.comm_targets.specs.declared.event.Event.TheVariants.{Open, Msg, Launch, Push}

-- the comm's id
abbrev pub id_of : Event → List ℕ
id_of (Open id version body) = id
id_of (Msg id body) = id
id_of (Launch id state) = id
id_of (Push id state) = id
