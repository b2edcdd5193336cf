-- What a script gives: its lines, one after the other, over a manager that holds nothing at first.
use Rattle.std.specs.Prelude.{◌≡◌, ℕ, ◌+◌, ◌≤◌, List, [], ◌∷◌, ◌++◌, length, if◌then◌else◌, Option, Some, None, Ok, Err}
use Rattle.std.specs.Prelude.{false}
use Rattle.std.specs.Io.KnownBytes.{Appends}
use Rattle.comm_messages.specs.declared.outgoing.Outgoing.TheVariants as out
use Rattle.comm_messages.specs.declared.outgoing.Parent.TheVariants as parent
use Rattle.comm_core.specs.declared.limits.Limits.{Limits}
use Rattle.comm_core.specs.declared.call.Call.{Call}
use Rattle.comm_core.specs.declared.call.Call.TheVariants as call
use Rattle.comm_core.specs.Machine.{Name, Machine, Registered}
use Rattle.comm_core.specs.Step.{Stepped, step}
use Rattle.comm_core.specs.Exact.{exact_outcome}
use Rattle.comm_core.specs.History.{mine, replay}
use Rattle.comm_core.specs.declared.entry.Entry.{Entry}
use Rattle.comm_core.specs.declared.entry.Entry.TheVariants.{Change}
use Rattle.comm_core.specs.Reads.{infos, state_of}
use Rattle.comm_script.specs.declared.stock.StockKind.{StockKind}
use Rattle.comm_script.specs.Lines.{lines_of, is_blank, has_line_feed, IsWhole}
use Rattle.comm_value.specs.declared.from_json.Numbers.{Numbers}
use Rattle.comm_script.specs.Line.{Reading}
use Rattle.comm_script.specs.Command.{asked}
use Rattle.comm_script.specs.Stock.{first_of, rest_of}
use Rattle.comm_script.specs.Words.{reply_line, bad_line, state_line, out_line, out_lines}
use Rattle.comm_script.specs.declared.asked.Request.{Request}
use Rattle.comm_script.specs.declared.asked.Request.TheVariants.{Change, Register, Infos, State}
use Rattle.comm_script.specs.declared.asked.LineFault.TheVariants.{NoStock}

-- the changes so far, and the targets that are left to register
pub record Standing : Type 0 where
  pub history : List Entry
  pub stock : List Registered

-- how a script stands after a line, and what is written for it
pub record Turn : Type 0 where
  pub after : Standing
  pub text : List ℕ

abbrev pub says : Standing → List ℕ → Turn
says now text = record { after = now; text = text }

abbrev pub machine : Limits → Standing → Machine
machine limits now = replay limits.comms now.history

-- The client's next change, where it comes to this; `left` is the stock after it. A step is none only where an
-- outcome is missing, and an exact one never is.
abbrev pub changed : Limits → Standing → ℕ → Call → List Registered → Option Stepped → Turn
changed limits now client asked left None = says now []
changed limits now client asked left (Some s) =
    let number = length (mine now.history client) + 1 in
    record {
      after = record {
        history = now.history
            ++ Change client number asked (exact_outcome limits.comms (machine limits now) asked) s.reply s.outgoing ∷ [];
        stock = left;
      };
      text = reply_line (length now.history + 1) s.reply ++ out_lines s.outgoing (parent.Call client number);
    }

abbrev pub called : Limits → Standing → ℕ → Call → List Registered → Turn
called limits now client asked left =
    changed limits now client asked left
    (step limits.comms (machine limits now) asked (exact_outcome limits.comms (machine limits now) asked))

abbrev pub registered : Limits → Standing → ℕ → ℕ → StockKind → Name → Option Registered → Turn
registered limits now number client kind name None = says now (bad_line number NoStock)
registered limits now number client kind name (Some r) =
    called limits now client (call.Register name r.kind r.notes) (rest_of kind now.stock)

abbrev pub executed : Limits → Standing → ℕ → ℕ → Request → Turn
executed limits now number client (Change asked) = called limits now client asked now.stock
executed limits now number client (Register kind name) =
    registered limits now number client kind name (first_of kind now.stock)
executed limits now number client (Infos target) =
    says now (out_line (out.InfoReply (infos (machine limits now) target)) (parent.Read client (length now.history)))
executed limits now number client (State id) =
    says now (state_line (length now.history) (state_of (machine limits now) id))

abbrev pub answered : Limits → Standing → ℕ → Reading (ℕ × Request) → Turn
answered limits now number (Ok m) = executed limits now number m.0 m.1
answered limits now number (Err fault) = says now (bad_line number fault)

-- what was written before a fault

-- what a writer holds grew by the beginning of a text
pub record Begins (before now : Option (List ℕ)) (text : List ℕ) : Type 0 where
  pub part : List ℕ
  pub rest : List ℕ
  pub appends : Appends before now part
  pub is : text ≡ part ++ rest

-- ---- what depends on which numbers are values

module _ (numbers : Numbers) where
  -- the line of this number
  unfoldable pub turn : Limits → Standing → ℕ → List ℕ → Turn
  turn limits now number line =
      if is_blank line then says now [] else answered limits now number (asked numbers limits.clients line)

  -- the lines after the first n
  abbrev pub played_from : Limits → Standing → ℕ → List (List ℕ) → Turn
  played_from limits now n [] = says now []
  played_from limits now n (line ∷ lines) =
      let first = turn limits now (n + 1) line in
      let rest = played_from limits first.after (n + 1) lines in
      record { after = rest.after; text = first.text ++ rest.text }

  -- a whole script, with these targets in stock
  abbrev pub script : Limits → List Registered → List ℕ → Turn
  script limits stock input = played_from limits (record { history = []; stock = stock }) 0 (lines_of input)

  -- what is written for it
  abbrev pub played : Limits → List Registered → List ℕ → List ℕ
  played limits stock input = (script limits stock input).text

  -- the changes that it makes
  abbrev pub history_of : Limits → List Registered → List ℕ → List Entry
  history_of limits stock input = (script limits stock input).after.history

  -- The lines are answered that were whole before the last piece was read, which is at most 16,384 bytes. Nothing else
  -- is: neither what was cut then, nor the piece, nor the rest, which is left.
  pub record Pauses (limits : Limits) (stock : List Registered) (input : List ℕ) (left before now : Option (List ℕ))
      : Type 0 where
    pub whole : List ℕ
    pub ended : IsWhole whole
    pub cut : List ℕ
    pub one_line : has_line_feed cut ≡ false
    pub piece : List ℕ
    pub short : length piece ≤ 16384
    pub rest : List ℕ
    pub known : left ≡ Some rest
    pub is : input ≡ whole ++ (cut ++ (piece ++ rest))
    pub answered : Appends before now (played limits stock whole)

  -- just the lines that were read whole are answered: what was cut isn't a line yet, and the rest is left
  pub record Stops (limits : Limits) (stock : List Registered) (input : List ℕ) (left before now : Option (List ℕ))
      : Type 0 where
    pub whole : List ℕ
    pub ended : IsWhole whole
    pub cut : List ℕ
    pub one_line : has_line_feed cut ≡ false
    pub rest : List ℕ
    pub known : left ≡ Some rest
    pub is : input ≡ whole ++ (cut ++ rest)
    pub answered : Appends before now (played limits stock whole)
