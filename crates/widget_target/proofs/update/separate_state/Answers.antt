use Rattle.std.proofs.Common.{sym, ◌∙◌}
use Rattle.widget_target.proofs.Plain.{members_same, member_paths_none, member_buffers_none}
use Rattle.widget_target.proofs.update.separate_state.Goals as goal

pub returns-clause-plain : goal.returns-clause-plain
returns-clause-plain c = c.in_ok-copy.ensures ∙ sym (members_same c.args.state.now (sym c.if-has_bytes.ensures))

pub returns-clause-paths : goal.returns-clause-paths
returns-clause-paths c = c.new.ensures.items ∙ sym (member_paths_none c.args.state.now (sym c.if-has_bytes.ensures))

pub returns-clause-buffers : goal.returns-clause-buffers
returns-clause-buffers c = c.none.ensures ∙ sym (member_buffers_none c.args.state.now (sym c.if-has_bytes.ensures))
