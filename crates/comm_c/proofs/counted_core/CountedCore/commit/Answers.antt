use denote.Param.Send.{sendable}
use Rattle.comm_c.proofs.Crossing.{builtin_target_send}
use Rattle.comm_c.proofs.counted_core.CountedCore.commit.Goals as goal

pub commit-reply-requires-send-T : goal.commit-reply-requires-send-T
commit-reply-requires-send-T c κs = search (sendable, builtin_target_send) depth 40

pub end-requires-send-T : goal.end-requires-send-T
end-requires-send-T c κs = search (sendable, builtin_target_send) depth 40
