-- What a player of scripts says over a backend, of which `stands` tells how it stands, where that is known.
use denote.Ref.{MutBor}
use denote.Param.Members.{Shared}
use Rattle.std.specs.Prelude.{◌≡◌, ◌⊎◌, ℕ, ◌+◌, ◌^◌, ◌<◌, ◌≤◌, List, ◌++◌, Result, ⊤, OnOk, IfErr}
use Rattle.std.specs.declared.alloc.Global.{Global}
use Rattle.std.specs.declared.vec.Vec.{Vec}
use Rattle.comm_value.specs.declared.from_json.Numbers.{Numbers}
use Rattle.comm_core.specs.declared.limits.Limits.{Limits}
use Rattle.comm_core.specs.Machine.{Registered}
use Rattle.comm_script.specs.Lines.{lines_of, IsWhole}
use Rattle.comm_script.specs.Command.{HandsNothing}
use Rattle.comm_script.specs.Played.{Standing, Turn, executed, turn, played, played_from}
use Rattle.comm_script.specs.declared.asked.Request.{Request}
use Rattle.comm_script.specs.declared.fault.RunFault.{RunFault}
use Rattle.comm_script.specs.declared.fault.RunFault.TheVariants as run

-- ---- one request

-- what a request of a line comes to
abbrev pub request_turn : (number client : ℕ) → Request → Limits → Standing → Turn
request_turn number client request limits now = executed limits now number client request

-- the text grows by what the turn writes
abbrev pub AppendsTurn : {S : Type 0} → (Limits → Standing → S → Type 0) → (Limits → Standing → Turn)
    → S → (old new : List ℕ) → Type 0
AppendsTurn stands turns s old new =
    (limits : Limits) (now : Standing) → stands limits now s → new ≡ old ++ (turns limits now).text

-- the backend stands as it does after the turn
abbrev pub TakesTurn : {S : Type 0} → (Limits → Standing → S → Type 0) → (Limits → Standing → Turn)
    → (old new : S) → Type 0
TakesTurn stands turns old new =
    (limits : Limits) (now : Standing) → stands limits now old → stands limits (turns limits now).after new

-- why a backend can't play on
abbrev pub IsBackendFault : RunFault → Type 0
IsBackendFault fault = (fault ≡ run.Memory) ⊎ (fault ≡ run.NoReader)

-- why a script ends over a backend, of which `stops_by` tells why it can't play on
abbrev pub IsScriptFault : (RunFault → Type 0) → RunFault → Type 0
IsScriptFault stops_by fault = (fault ≡ run.Read) ⊎ (fault ≡ run.Write) ⊎ stops_by fault

-- what comes of a request
pub record IsExecuted {S : Type 0}
    (stands : Limits → Standing → S → Type 0) (sound : S → Type 0) (follows : S → S → Type 0) (count : S → ℕ)
    (stops_by : RunFault → Type 0)
    (number client : ℕ) (request : Request) (s t : S) (old new : List ℕ) (r : Result ⊤ RunFault) : Type 0 where
  pub text : OnOk r (AppendsTurn stands (request_turn number client request) s old new)
  pub moved : OnOk r (TakesTurn stands (request_turn number client request) s t)
  pub counted : count t ≤ count s + 1
  pub kept : sound t
  pub later : follows s t
  pub fault : IfErr r IsBackendFault
  pub stops : IfErr r stops_by

-- a call of f executes a request of one of so many clients
pub record Executes {F S : Type 0}
    (g : Shared F
    (MutBor S × (ℕ × (ℕ × (Request × (MutBor (Vec ℕ Global) × Unit {0})))))
    (Result ⊤ RunFault × (MutBor S × (MutBor (Vec ℕ Global) × Unit {0}))))
    (f : F) (stands : Limits → Standing → S → Type 0) (sound : S → Type 0) (follows : S → S → Type 0)
    (count : S → ℕ) (stops_by : RunFault → Type 0) (clients : ℕ) : Type 0 where
  pub callable : (s : MutBor S) (number client : ℕ) (request : Request) (text : MutBor (Vec ℕ Global))
      → sound s.now → client < clients → count s.now < 2 ^ 63 → HandsNothing request
      → g.pre f (s, (number, (client, (request, (text, tt)))))
  pub executes : (s t : MutBor S) (number client : ℕ) (request : Request) (text said : MutBor (Vec ℕ Global))
      (r : Result ⊤ RunFault)
      → sound s.now → client < clients → count s.now < 2 ^ 63 → HandsNothing request → number < 2 ^ 64
      → g.post f (s, (number, (client, (request, (text, tt))))) (r, (t, (said, tt)))
      → IsExecuted stands sound follows count stops_by number client request s.now t.now text.now.items said.now.items r

-- ---- lines, one after another, by which numbers are values

module _ (numbers : Numbers) where
  -- what a line comes to
  abbrev pub line_turn : ℕ → List ℕ → Limits → Standing → Turn
  line_turn number line limits now = turn numbers limits now number line

  -- what is written so far, and what the rest will give, is what all gives
  pub record Says {S : Type 0} (stands : Limits → Standing → S → Type 0) (limits : Limits) (stock : List Registered)
      (input : List ℕ) (s : S) (number : ℕ) (rest text : List ℕ) : Type 0 where
    pub now : Standing
    pub stand : stands limits now s
    pub whole : text ++ (played_from numbers limits now number (lines_of rest)).text ≡ played numbers limits stock input

  -- the lines that end in a chunk are played, and what is left of it is kept
  pub record Cuts {S : Type 0} (stands : Limits → Standing → S → Type 0) (s : S) (number : ℕ)
      (pending chunk text : List ℕ) (t : S) (next : ℕ) (kept said : List ℕ) : Type 0 where
    pub whole : List ℕ
    pub ended : IsWhole whole
    pub is : pending ++ chunk ≡ whole ++ kept
    pub says : (limits : Limits) (stock : List Registered) (input more written : List ℕ)
        → Says stands limits stock input s number (whole ++ more) (written ++ text)
        → Says stands limits stock input t next more (written ++ said)
