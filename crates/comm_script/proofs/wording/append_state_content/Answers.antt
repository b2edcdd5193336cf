use Rattle.comm_script.proofs.wording.append_state_content.Goals as goal

pub returns : goal.returns
returns c = rw (← c.in_ok-plain.ensures.plain, ← c.in_ok-plain.ensures.paths, ← c.deref.ensures.value) c.append_paths_and_state-written.ensures
