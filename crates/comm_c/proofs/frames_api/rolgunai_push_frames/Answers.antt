use Rattle.std.proofs.Common.{rules}
use Rattle.comm_c.specs.Inputs.{frames_tested, push_input}
use Rattle.comm_c.proofs.frames_api.rolgunai_push_frames.Goals as goal

pub returns-in-Some : goal.returns-in-Some
returns-in-Some c = c.answer.ensures (λ d. push_input d.numbers c.args.client c.args.id.now c.args.state.now c.args.paths.now (frames_tested c.args.frames.now)) c.args.handle.now.value (search rules) (search rules)

pub returns-in-None : goal.returns-in-None
returns-in-None c = c.without_manager.ensures (λ d. push_input d.numbers c.args.client c.args.id.now c.args.state.now c.args.paths.now (frames_tested c.args.frames.now)) c.args.handle.now.value c.take.new.handle.value (search rules) (search rules)
