-- What a target means, and what each call of it does.
use Rattle.std.specs.Prelude.{◌≡◌, ℕ, ◌+◌, ◌^◌, ◌-◌, Bool, true, false, List, [], ◌∷◌, ◌++◌, Option, None}
use Rattle.std.specs.Prelude.{Some, min, if◌then◌else◌}
use Rattle.std.specs.List.{list_any}
use Rattle.std.specs.Set.{remove_key}
use Rattle.std.specs.Str.{bytes_eq}
use Rattle.comm_targets.specs.declared.kind.Kind.{Kind}
use Rattle.comm_targets.specs.declared.kind.Kind.TheVariants.{Counter, Widget, WidgetEcho}
use Rattle.comm_targets.specs.declared.event.Event.{Event}
use Rattle.comm_targets.specs.declared.event.Event.TheVariants.{Open, Msg, Launch, Push}
use Rattle.comm_targets.specs.declared.answer.Answer.{Answer}
use Rattle.comm_targets.specs.declared.staged_event.StagedEvent.{StagedEvent}

-- `ids` are those of the open comms, in the order of opening
pub record Meaning : Type 0 where
  pub kind : Kind
  pub notes : ℕ
  pub ids : List (List ℕ)
  pub staged : Option StagedEvent

-- a new target of this kind: no comm is open, nothing is staged, and no message came
abbrev pub new_of : Kind → Meaning
new_of k = record { kind = k; notes = 0; ids = []; staged = None }

abbrev pub has_id : List (List ℕ) → List ℕ → Bool
has_id ids id = list_any (bytes_eq id) ids

-- the ids without this one
abbrev pub without : List ℕ → List (List ℕ) → List (List ℕ)
without id ids = remove_key (bytes_eq id) ids

abbrev pub is_open : Meaning → List ℕ → Bool
is_open m id = has_id m.ids id

-- no comm is open and nothing is staged
abbrev pub IsIdle : Meaning → Type 0
IsIdle m = (m.ids ≡ []) × (m.staged ≡ None)

-- the kinds whose comms the kernel itself opens, and whose states it changes
abbrev pub is_widget : Kind → Bool
is_widget Widget = true
is_widget WidgetEcho = true
is_widget kind = false

-- A comm that isn't open is opened, one that is open is told. Of widgets alone the kernel opens comms and changes
-- states.
abbrev pub IsAskable : Meaning → Event → Type 0
IsAskable m (Open id version body) = is_open m id ≡ false
IsAskable m (Msg id body) = is_open m id ≡ true
IsAskable m (Launch id state) = (is_open m id ≡ false) × (is_widget m.kind ≡ true)
IsAskable m (Push id state) = (is_open m id ≡ true) × (is_widget m.kind ≡ true)

-- the ids once the event is done
abbrev pub ids_after : List (List ℕ) → Event → List (List ℕ)
ids_after ids (Open id version body) = ids ++ id ∷ []
ids_after ids (Launch id state) = ids ++ id ∷ []
ids_after ids e = ids

-- one more, up to the greatest number of 64 bits
abbrev pub one_more : ℕ → ℕ
one_more n = min (n + 1) (2 ^ 64 - 1)

abbrev pub is_message : Event → Bool
is_message (Msg id body) = true
is_message e = false

abbrev pub is_opening : Event → Bool
is_opening (Open id version body) = true
is_opening (Launch id state) = true
is_opening e = false

abbrev pub stages_message : Option StagedEvent → Bool
stages_message None = false
stages_message (Some s) = is_message s.event

-- the count of messages once what is staged is done
abbrev pub count_with : Option StagedEvent → ℕ → ℕ
count_with staged n = if stages_message staged then one_more n else n

-- the notes once the event is done: a Counter counts its messages
abbrev pub notes_after : Kind → ℕ → Event → ℕ
notes_after Counter n e = if is_message e then one_more n else n
notes_after kind n e = n

-- `prepare`
abbrev pub after_prepare : Meaning → Event → Answer → Meaning
after_prepare m e a = record {
  kind = m.kind;
  notes = m.notes;
  ids = m.ids;
  staged = Some (record { event = e; answer = a });
}

-- `commit`
abbrev pub after_commit : Meaning → StagedEvent → Meaning
after_commit m s = record {
  kind = m.kind;
  notes = notes_after m.kind m.notes s.event;
  ids = ids_after m.ids s.event;
  staged = None;
}

-- `abandon`
abbrev pub after_abandon : Meaning → Meaning
after_abandon m = record { kind = m.kind; notes = m.notes; ids = m.ids; staged = None }

-- `close`
abbrev pub after_close : Meaning → List ℕ → Meaning
after_close m id = record { kind = m.kind; notes = m.notes; ids = without id m.ids; staged = m.staged }
