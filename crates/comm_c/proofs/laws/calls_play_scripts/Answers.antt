use Rattle.comm_c.proofs.ScriptLines.{calls}
use Rattle.comm_c.proofs.laws.calls_play_scripts.Goals as goal

pub returns : goal.returns
returns c = calls c.exact_machines_leave_no_choice.ensures c.steps_keep_machines_exact.ensures c.replays_grow.ensures
