-- What a widget answers ('Jupyter widgets messaging protocol' 2.1.0). One that echoes repeats to the frontends what a
-- frontend's update brought.
use Rattle.std.specs.Prelude.{ℕ, List, [], ◌∷◌, Bool, ◌==◌, if◌then◌else◌, Option, None, Some}
use Rattle.std.specs.Prelude.{unwrap_or, Result, Ok, Err, codes}
use Rattle.std.specs.Result.{result_map_both}
use Rattle.std.specs.List.{before_first}
use Rattle.std.specs.Str.{bytes_eq}
use Rattle.comm_messages.specs.Content.{Content}
use Rattle.comm_messages.specs.Told.{told_data}
use Rattle.comm_value.specs.Tree.{Tree, null, boolean, whole, decimal, text, bytes, list, dict}
use Rattle.comm_value.specs.Tree.{Members, no_members}
use Rattle.comm_value.specs.Node.{get}
use Rattle.comm_value.specs.Places.{member_paths, member_buffers, plain_members}
use Rattle.comm_value.specs.Put.{placed_in}
use Rattle.comm_value.specs.Gives.{◌>>=◌}
use Rattle.comm_value.specs.Paths.{read_paths}
use Rattle.comm_value.specs.Merge.{merged}
use Rattle.comm_value.specs.declared.val.Val.{Val}
use Rattle.comm_value.specs.declared.val.Val.TheVariants as val
use Rattle.comm_value.specs.declared.fault.ValueFault.{ValueFault}
use Rattle.comm_value.specs.declared.fault.ValueFault.TheVariants as value
use Rattle.comm_targets.specs.declared.event.Event.{Event}
use Rattle.comm_targets.specs.declared.event.Event.TheVariants.{Open, Msg, Launch, Push}
use Rattle.comm_targets.specs.declared.answer.Answer.{Answer}
use Rattle.comm_targets.specs.declared.fault.TargetFault.{TargetFault}
use Rattle.comm_targets.specs.declared.fault.TargetFault.TheVariants.{WrongVersion, NoState, BadState}
use Rattle.comm_targets.specs.declared.fault.TargetFault.TheVariants.{BadPath, BufferMissing, NoMethod}
use Rattle.comm_targets.specs.declared.fault.TargetFault.TheVariants.{UnknownMethod, Memory}

-- a value as the code has it
abbrev pub val_of : Tree → Val
val_of null = val.Null
val_of (boolean b) = val.Bool b
val_of (whole z) = val.Whole z
val_of (decimal s) = val.Decimal s
val_of (text s) = val.Text s
val_of (bytes b) = val.Bytes b
val_of (list ts) = val.List ts
val_of (dict ms) = val.Dict ms

-- ---- answers

-- no new state, no message, nothing for the caller
abbrev pub nothing : Answer
nothing = record { state = None; messages = []; custom = None }

abbrev pub new_state : Members → Answer
new_state s = record { state = Some s; messages = []; custom = None }

abbrev pub one_message : Content → Answer
one_message c = record { state = None; messages = c ∷ []; custom = None }

-- ---- states with buffers

-- a fault of reading or placing, as the target's
abbrev pub fault_of : ValueFault → TargetFault
fault_of (value.BadPath n) = BadPath n
fault_of (value.BufferMissing n) = BufferMissing n
fault_of value.NotWhole = BadState
fault_of value.Memory = Memory

-- the message's buffers in the state, at its `buffer_paths`
abbrev pub with_buffers : Members → Content → Result Members ValueFault
with_buffers ms c = read_paths (get (codes "buffer_paths") c.content) >>= λ ps. placed_in ps c.buffers ms

-- a message's `state`, with its buffers
abbrev pub state_of : Tree → Content → Result Members TargetFault
state_of (dict ms) c = result_map_both (λ s. s) fault_of (with_buffers ms c)
state_of t c = Err BadState

-- ---- opening ("Instantiating a widget object")

-- what stands before the first '.'
abbrev pub major : List ℕ → List ℕ
major version = before_first (λ b. b == 46) version

-- a version that is absent, or no text, counts as the empty text
abbrev pub is_supported : Option (List ℕ) → Bool
is_supported version = bytes_eq (major (unwrap_or version [])) (codes "2")

abbrev pub given_state : Option Tree → Content → Result Members TargetFault
given_state None c = Err NoState
given_state (Some t) c = state_of t c

abbrev pub opening_state : Option (List ℕ) → Content → Result Members TargetFault
opening_state version c =
    if is_supported version then given_state (get (codes "state") c.content) c else Err WrongVersion

-- ---- messages ("State update messages")

-- the message of this method that tells a state, or some of its keys
abbrev pub state_message : List ℕ → Members → Content
state_message method u = record {
  content = told_data method (member_paths u) (plain_members u);
  buffers = member_buffers u;
}

abbrev pub update_of : Members → Content
update_of u = state_message (codes "update") u

-- `echo_update` of what an update brought: of no key, nothing
abbrev pub echoes : Bool → Members → List Content
echoes echoing no_members = []
echoes echoing u = if echoing then state_message (codes "echo_update") u ∷ [] else []

-- an answer with the state that was worked out, or why there is none
abbrev pub answer_with : (Members → Answer) → Result Members TargetFault → Result Answer TargetFault
answer_with answer (Ok s) = Ok (answer s)
answer_with answer (Err f) = Err f

-- the state with these keys in place of its own
abbrev pub merge_answer : Bool → Members → Members → Answer
merge_answer echoing now u = record { state = Some (merged now u); messages = echoes echoing u; custom = None }

-- `update`: each top-level key of its `state` replaces that of the comm's state
abbrev pub update_answer : Bool → Option Tree → Members → Content → Result Answer TargetFault
update_answer echoing None now c = Ok nothing
update_answer echoing (Some t) now c = answer_with (merge_answer echoing now) (state_of t c)

-- `custom`: the caller is handed its `content`, with the message's buffers
abbrev pub custom_answer : Option Tree → List (List ℕ) → Answer
custom_answer None bs = nothing
custom_answer (Some t) bs = record {
  state = None;
  messages = [];
  custom = Some (record { content = val_of t; buffers = bs });
}

abbrev pub method_answer : Bool → List ℕ → Members → Content → Result Answer TargetFault
method_answer echoing method now c =
    if bytes_eq method (codes "update") then update_answer echoing (get (codes "state") c.content) now c
    else if bytes_eq method (codes "request_state") then Ok (one_message (update_of now))
    else if bytes_eq method (codes "custom") then Ok (custom_answer (get (codes "content") c.content) c.buffers)
    else Err UnknownMethod

abbrev pub message_answer : Bool → Option Tree → Members → Content → Result Answer TargetFault
message_answer echoing (Some (text method)) now c = method_answer echoing method now c
message_answer echoing _ now c = Err NoMethod

-- ---- the answer to each event, of a comm whose state is `now`

-- the kernel's values for these keys replace the state's, and all frontends are told of them
abbrev pub push_answer : Members → Members → Answer
push_answer now u = record { state = Some (merged now u); messages = update_of u ∷ []; custom = None }

abbrev pub answer_of : Bool → Members → Event → Result Answer TargetFault
answer_of echoing now (Open id version body) = answer_with new_state (opening_state version body)
answer_of echoing now (Msg id body) = message_answer echoing (get (codes "method") body.content) now body
answer_of echoing now (Launch id state) = Ok (new_state state)
answer_of echoing now (Push id state) = Ok (push_answer now state)
