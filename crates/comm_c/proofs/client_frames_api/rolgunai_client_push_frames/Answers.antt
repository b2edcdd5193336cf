use Rattle.std.proofs.Common.{rules}
use Rattle.comm_c.specs.Inputs.{frames_tested, push_input}
use Rattle.comm_c.proofs.client_frames_api.rolgunai_client_push_frames.Goals as goal

pub returns-in-Ok : goal.returns-in-Ok
returns-in-Ok c = c.answer.ensures (λ m numbers. push_input numbers 0 c.args.id.now c.args.state.now c.args.paths.now (frames_tested c.args.frames.now)) c.args.client.now.value (search rules) (search rules)

pub returns-in-Err : goal.returns-in-Err
returns-in-Err c = c.not_entered.ensures (λ m numbers. push_input numbers 0 c.args.id.now c.args.state.now c.args.paths.now (frames_tested c.args.frames.now)) c.args.client.now.value c.enter.new.handle.value (search rules) (search rules)
