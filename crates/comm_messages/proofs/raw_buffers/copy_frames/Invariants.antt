use Rattle.std.proofs.Common.{◌≡◌, ◌++◌, drop}
use Rattle.comm_messages.specs.Buffers.{framed}
use Rattle.comm_messages.proofs.raw_buffers.copy_frames.Given as goal

abbrev pub invariant-loop-frame : goal.invariant-loop-frame
invariant-loop-frame l =
    l.all.items ++ framed (drop l.frame-index l.frames) ≡ framed l.frames
