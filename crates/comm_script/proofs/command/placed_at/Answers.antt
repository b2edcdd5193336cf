use Rattle.std.proofs.Common.{ap, sym, subst, ◌∙◌, List}
use Rattle.std.specs.Prelude.{option_map}
use Rattle.comm_value.specs.Node.{Path}
use Rattle.comm_value.specs.Paths.{read_paths, Refuses}
use Rattle.comm_value.specs.Put.{placed}
use Rattle.comm_value.specs.Tree.{dict}
use Rattle.comm_value.specs.View.{tree}
use Rattle.comm_script.proofs.Reading.{unread, unplaced, placed_there}
use Rattle.comm_script.proofs.command.placed_at.Goals as goal

pub returns-in-Ok-put_all : goal.returns-in-Ok-put_all
returns-in-Ok-put_all c =
    placed_there (read_paths (option_map tree c.args.paths)) c.in-Ok.paths.items c.args.buffers c.args.state c.in-Ok-put_all.state c.in-Ok.ensures.read
    (ap (λ (ps : List Path). placed ps c.args.buffers (dict c.args.state)) (sym c.deref.ensures.value) ∙ c.in-Ok-put_all.ensures.placed)

pub returns-in-Ok : goal.returns-in-Ok
returns-in-Ok c =
    unplaced c.in-Err-put_all.fault (read_paths (option_map tree c.args.paths)) c.in-Ok.paths.items c.args.buffers c.args.state c.in-Ok.ensures.read
    (subst (λ (ps : List Path). Refuses c.in-Err-put_all.fault (placed ps c.args.buffers (dict c.args.state))) c.deref.ensures.value c.in-Err-put_all.ensures.fault)

pub returns : goal.returns
returns c = unread c.in-Err.fault (read_paths (option_map tree c.args.paths)) c.args.buffers c.args.state c.in-Err.ensures.fault
