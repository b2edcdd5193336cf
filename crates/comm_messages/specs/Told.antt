-- The data of the messages that tell a widget's state, or some of its keys ('Jupyter widgets messaging protocol' 2.1.0,
-- "State update messages").
use Rattle.std.specs.Prelude.{ℕ, List, [], codes, Option, None, Some}
use Rattle.comm_value.specs.Tree.{text, dict, Members, no_members, member}
use Rattle.comm_value.specs.Node.{Path}
use Rattle.comm_value.specs.Paths.{paths_tree}
use Rattle.comm_messages.specs.Content.{Content}
use Rattle.comm_messages.specs.declared.telling.Telling.{Telling}
use Rattle.comm_messages.specs.declared.telling.Telling.TheVariants.{Update, EchoUpdate}

-- of the message that tells a state
abbrev pub method_name : Telling → List ℕ
method_name Update = codes "update"
method_name EchoUpdate = codes "echo_update"

-- the data of the message that tells a state without its bytes, which stood at these paths
abbrev pub told_data : List ℕ → List Path → Members → Members
told_data method paths plain =
    member (codes "buffer_paths") (paths_tree paths)
    (member (codes "method") (text method) (member (codes "state") (dict plain) no_members))

-- for private clauses: the payload itself, or the payload that tells a state without bytes
abbrev pub said : Option Telling → Content → Content
said None c = c
said (Some telling) c = record { content = told_data (method_name telling) [] c.content; buffers = c.buffers }
