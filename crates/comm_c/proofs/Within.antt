-- A call adds at most one to each count.
use Rattle.std.proofs.Common.{◌≡◌, ℕ, zero, suc, ◌+◌, ◌≤◌, List, [], ◌∷◌, get_or, set, Option, None, Some, Ok, Err, sym, subst, arith}
use Rattle.comm_core.specs.declared.call.Call.{Call}
use Rattle.comm_core.specs.Machine.{Name}
use Rattle.comm_script.specs.Line.{Reading}
use Rattle.comm_script.specs.declared.asked.Request.{Request}
use Rattle.comm_script.specs.declared.asked.Request.TheVariants as asks_for
use Rattle.comm_c.specs.CountedCore.{Changes, HasMadeAtMost}
use Rattle.comm_c.specs.Handles.{AnswersIf, AnswersReading, Executes, GivesOnly, Handles}
use Rattle.comm_c.specs.declared.call_result.CallResult.{CallResult}
use Rattle.comm_c.specs.declared.counted_core.CountedCore.{CountedCore}
use Rattle.comm_c.specs.declared.input.Input.{Input}

set_within : (n : ℕ) (xs : List ℕ) (i v k : ℕ) → ((c : ℕ) → get_or xs c 0 ≤ n) → v ≤ n + 1 → get_or (set xs i v) k 0 ≤ n + 1
set_within n [] i v k few new = omega arith
set_within n (x ∷ xs) zero v zero few new = new
set_within n (x ∷ xs) zero v (suc k) few new = let f : get_or xs k 0 ≤ n = few (suc k) in omega (arith, f)
set_within n (x ∷ xs) (suc i) v zero few new = let f : x ≤ n = few zero in omega (arith, f)
set_within n (x ∷ xs) (suc i) v (suc k) few new = set_within n xs i v k (λ c. few (suc c)) new

change_within : (n client : ℕ) (d after : CountedCore) (c : Call) (result : CallResult) → HasMadeAtMost n d → Changes d client c after result → HasMadeAtMost (n + 1) after
change_within n client d after c result few ch = record {
  changes = let e : after.changes ≡ d.changes + 1 = ch.changes in let f : d.changes ≤ n = few.changes in omega (arith, e, f);
  made = λ k. subst (λ (ms : List ℕ). get_or ms k 0 ≤ n + 1) (sym ch.made)
      (let f : get_or d.made client 0 ≤ n = few.made client in set_within n d.made client (get_or d.made client 0 + 1) k few.made (omega (arith, f)));
}

gives_within : (n : ℕ) (d after : CountedCore) (given result : CallResult) → HasMadeAtMost n d → GivesOnly d given after result → HasMadeAtMost (n + 1) after
gives_within n d after given result few s = subst (λ (e : CountedCore). HasMadeAtMost (n + 1) e) (sym s.0) (record {
  changes = let f : d.changes ≤ n = few.changes in omega (arith, f);
  made = λ k. let f : get_or d.made k 0 ≤ n = few.made k in omega (arith, f);
})

request_within : (n client : ℕ) (d after : CountedCore) (a : Request) (result : CallResult) → HasMadeAtMost n d → Executes d client a after result → HasMadeAtMost (n + 1) after
request_within n client d after (asks_for.Change c) result few o = change_within n client d after c result few o.1
request_within n client d after (asks_for.Register kind name) result few o = change_within n client d after _ result few o
request_within n client d after (asks_for.Infos target) result few o = gives_within n d after _ result few o
request_within n client d after (asks_for.State id) result few o = gives_within n d after _ result few o

reading_within : (n number : ℕ) (d after : CountedCore) (opening : Option Name) (r : Reading (ℕ × Request)) (result : CallResult) → HasMadeAtMost n d → AnswersReading d number opening r after result
    → HasMadeAtMost (n + 1) after
reading_within n number d after opening (Ok m) result few a = request_within n m.0 d after m.1 result few a
reading_within n number d after opening (Err fault) result few a = gives_within n d after _ result few a

asked_within : (n number : ℕ) (d after : CountedCore) (opening : Option Name) (asked : Option (Reading (ℕ × Request))) (result : CallResult) → HasMadeAtMost n d
    → AnswersIf d number opening asked after result → HasMadeAtMost (n + 1) after
asked_within n number d after opening None result few a = gives_within n d after _ result few a
asked_within n number d after opening (Some r) result few a = reading_within n number d after opening r result few a

pub handled_within : (n number : ℕ) (d after : CountedCore) (input : Input) (result : CallResult) → HasMadeAtMost n d → Handles d number input after result → HasMadeAtMost (n + 1) after
unfolding Handles
handled_within n number d after input result few h = asked_within n number d after input.opening input.asked result few h
