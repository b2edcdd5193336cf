use Rattle.comm_script.proofs.wording.append_state.Goals as goal

pub returns : goal.returns
returns c = rw (← c.in_ok-plain.ensures.plain, ← c.in_ok-plain.ensures.paths, ← c.in_ok-plain.ensures.buffers, ← c.deref.ensures.value) c.append_parts-written.ensures
