-- The text of the data that tell a state without bytes.
use Rattle.std.proofs.Common.{◌≡◌, ℕ, List, ◌++◌, Option, Some, refl, append_assoc, codes}
use Rattle.json.specs.Json.{object}
use Rattle.json.specs.Print.{quoted}
use Rattle.serde_json.proofs.OnLiterals.{serde_json_on_literals}
use Rattle.comm_json.specs.Text.{compact_text}
use Rattle.comm_value.specs.Tree.{Members}
use Rattle.comm_value.specs.ToJson.{json_members}
use Rattle.comm_messages.specs.Content.{Content}
use Rattle.comm_messages.specs.Told.{method_name, said}
use Rattle.comm_messages.specs.declared.telling.Telling.{Telling}
use Rattle.comm_messages.specs.declared.telling.Telling.TheVariants.{Update, EchoUpdate}

abbrev pub before_state : Telling → List ℕ
before_state telling = codes "{\"buffer_paths\":[],\"method\":" ++ (quoted (method_name telling) ++ codes ",\"state\":")

pub before_update : (telling : Telling) → telling ≡ Update
    → codes "{\"buffer_paths\":[],\"method\":\"update\",\"state\":" ≡ before_state telling
unfolding serde_json_on_literals
before_update telling is = rw is refl

pub before_echo : (telling : Telling) → telling ≡ EchoUpdate
    → codes "{\"buffer_paths\":[],\"method\":\"echo_update\",\"state\":" ≡ before_state telling
unfolding serde_json_on_literals
before_echo telling is = rw is refl

pub told_text : (told : Option Telling) (telling : Telling) (body whole : Content) (state : Members) (before : List ℕ)
    → told ≡ Some telling → whole ≡ said told body → state ≡ body.content → before ≡ before_state telling
    → compact_text (object (json_members whole.content)) ≡ before ++ (compact_text (object (json_members state)) ++ codes "}")
unfolding serde_json_on_literals
told_text told telling body whole state before is view same head = rw (view, is, same, head) (simp append_assoc)
