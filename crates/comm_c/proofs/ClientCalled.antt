-- A client's call that asks for something does what it says, from what its steps say.
use Rattle.std.proofs.Common.{◌≡◌, ◌≢◌, ◌⊎◌, ◌↔◌, ℕ, ◌≤◌, ◌^◌, Option, Some, None, Err, length, refl, sym, ap, subst, ◌∙◌, inl, inr, arith}
use Rattle.comm_targets.specs.declared.kind.Kind.{Kind}
use Rattle.comm_core.specs.Machine.{Name}
use Rattle.comm_versions.specs.Known.{Known}
use Rattle.comm_shared.specs.SharedView.{most_changes}
use Rattle.comm_c.specs.CallResult.{result_number, sent}
use Rattle.comm_c.specs.ClientExports.{ClientAsk, HasClientCalled, HasRegisteredThere, IsFull}
use Rattle.comm_c.specs.ClientState.{ClientState}
use Rattle.comm_c.specs.Clients.{ClientPlaysTested, ClientRegisters, machine_of}
use Rattle.comm_c.specs.Codes.{ok, closed, busy, memory, exhausted, bad_name, bad_sizes, not_json, stranger}
use Rattle.comm_c.specs.declared.input.CallFault.TheVariants.{BadName, BadSizes, NotJson}

-- the status of a call that has entered
abbrev pub IsEnteredStatus : ℕ → Type 0
IsEnteredStatus status =
    (status ≡ ok) ⊎ (status ≡ memory) ⊎ (status ≡ exhausted) ⊎ (status ≡ bad_sizes) ⊎ (status ≡ bad_name) ⊎ (status ≡ not_json) ⊎ (status ≡ stranger)

not_closed : (status : ℕ) → IsEnteredStatus status → status ≡ closed → ⊥
not_closed status (inl e) c = omega (arith, e, c)
not_closed status (inr (inl e)) c = omega (arith, e, c)
not_closed status (inr (inr (inl e))) c = omega (arith, e, c)
not_closed status (inr (inr (inr (inl e)))) c = omega (arith, e, c)
not_closed status (inr (inr (inr (inr (inl e))))) c = omega (arith, e, c)
not_closed status (inr (inr (inr (inr (inr (inl e)))))) c = omega (arith, e, c)
not_closed status (inr (inr (inr (inr (inr (inr e)))))) c = omega (arith, e, c)

widened : (status : ℕ) → IsEnteredStatus status
    → (status ≡ ok) ⊎ (status ≡ closed) ⊎ (status ≡ busy) ⊎ (status ≡ memory) ⊎ (status ≡ exhausted) ⊎ (status ≡ bad_sizes) ⊎ (status ≡ bad_name) ⊎ (status ≡ not_json) ⊎ (status ≡ stranger)
widened status (inl e) = inl e
widened status (inr e) = inr (inr (inr e))

-- why no more calls are made
abbrev pub IsFullAt : ClientState → Known → Type 0
IsFullAt k before = (2 ^ 62 ≤ k.number) ⊎ (length before.entries ≡ most_changes)

pub full_at : (k : ClientState) (before : Known) → before.origin ≡ k.view.origin → IsFullAt k before → IsFull (Some k)
full_at k before same_history (inl calls) = inl calls
full_at k before same_history (inr entries) = inr (before, same_history, entries)

called_at : (ask : ClientAsk) (k n : ClientState) (before after : Known) (status reply count : ℕ) → before.origin ≡ k.view.origin
    → (status ≡ ok → ClientPlaysTested k before (ask (machine_of before) k.numbers) n after) → (status ≡ ok → reply ≡ result_number n.call_result)
    → (status ≡ ok → count ≡ length (sent n.call_result)) → (status ≢ ok → n ≡ k) → (status ≢ ok → reply ≡ 0) → (status ≢ ok → count ≡ 0)
    → (status ≡ bad_sizes → ask (machine_of before) k.numbers ≡ Err BadSizes) → (status ≡ bad_name → ask (machine_of before) k.numbers ≡ Err BadName)
    → (status ≡ not_json → ask (machine_of before) k.numbers ≡ Err NotJson)
    → (status ≡ exhausted → IsFullAt k before) → IsEnteredStatus status → HasClientCalled ask (Some k) (Some n) status reply count
called_at ask k n before after status reply count same_history plays number messages same no_number no_messages sizes name json full codes = record {
  played = λ e. record { before = before; after = after; origin_is = same_history; plays = plays e };
  result_is = λ e. (number e, messages e);
  same = λ e. ap (λ (x : ClientState). Some x) (same e);
  nothing = λ e. (no_number e, no_messages e);
  closed_is = (λ e. absurd (not_closed status codes e), λ e. cc);
  sizes = λ e. (before, same_history, sizes e);
  name = λ e. (before, same_history, name e);
  json = λ e. (before, same_history, json e);
  full = λ e. full_at k before same_history (full e);
  codes = widened status codes;
}

pub called : (ask : ClientAsk) (old new : Option ClientState) (k n : ClientState) (before after : Known) (status reply count : ℕ) → old ≡ Some k → new ≡ Some n
    → before.origin ≡ k.view.origin
    → (status ≡ ok → ClientPlaysTested k before (ask (machine_of before) k.numbers) n after) → (status ≡ ok → reply ≡ result_number n.call_result)
    → (status ≡ ok → count ≡ length (sent n.call_result)) → (status ≢ ok → n ≡ k) → (status ≢ ok → reply ≡ 0) → (status ≢ ok → count ≡ 0)
    → (status ≡ bad_sizes → ask (machine_of before) k.numbers ≡ Err BadSizes) → (status ≡ bad_name → ask (machine_of before) k.numbers ≡ Err BadName)
    → (status ≡ not_json → ask (machine_of before) k.numbers ≡ Err NotJson)
    → (status ≡ exhausted → IsFullAt k before) → IsEnteredStatus status → HasClientCalled ask old new status reply count
called ask old new k n before after status reply count is now same_history plays number messages same no_number no_messages sizes name json full codes =
    subst (λ (o : Option ClientState). HasClientCalled ask o new status reply count) (sym is)
    (subst (λ (w : Option ClientState). HasClientCalled ask (Some k) w status reply count) (sym now)
    (called_at ask k n before after status reply count same_history plays number messages same no_number no_messages sizes name json full codes))

-- the status of a call that hasn't entered
not_ok : (status : ℕ) → (status ≡ closed) ⊎ (status ≡ busy) → status ≡ ok → ⊥
not_ok status (inl e) c = omega (arith, e, c)
not_ok status (inr e) c = omega (arith, e, c)

outside : (status : ℕ) → (status ≡ closed) ⊎ (status ≡ busy)
    → (status ≡ ok) ⊎ (status ≡ closed) ⊎ (status ≡ busy) ⊎ (status ≡ memory) ⊎ (status ≡ exhausted) ⊎ (status ≡ bad_sizes) ⊎ (status ≡ bad_name) ⊎ (status ≡ not_json) ⊎ (status ≡ stranger)
outside status (inl e) = inr (inl e)
outside status (inr e) = inr (inr (inl e))

no_other : (status other : ℕ) → (status ≡ closed) ⊎ (status ≡ busy) → other ≢ closed → other ≢ busy → status ≡ other → ⊥
no_other status other (inl e) c b is = c (sym is ∙ e)
no_other status other (inr e) c b is = b (sym is ∙ e)

pub not_entered : (ask : ClientAsk) (old new : Option ClientState) (status : ℕ) → (status ≡ closed) ⊎ (status ≡ busy) → new ≡ old → ((status ≡ closed) ↔ (old ≡ None))
    → HasClientCalled ask old new status 0 0
not_entered ask old new status codes now closed_is = record {
  played = λ e. absurd (not_ok status codes e);
  result_is = λ e. absurd (not_ok status codes e);
  same = λ _. now;
  nothing = λ _. (refl, refl);
  closed_is = closed_is;
  sizes = λ e. absurd (no_other status bad_sizes codes (λ c. omega (arith, c)) (λ c. omega (arith, c)) e);
  name = λ e. absurd (no_other status bad_name codes (λ c. omega (arith, c)) (λ c. omega (arith, c)) e);
  json = λ e. absurd (no_other status not_json codes (λ c. omega (arith, c)) (λ c. omega (arith, c)) e);
  full = λ e. absurd (no_other status exhausted codes (λ c. omega (arith, c)) (λ c. omega (arith, c)) e);
  codes = outside status codes;
}

-- it has registered a target after the history that there was
pub registered_there : (kind : Kind) (name : Name) (k n : ClientState) (before after : Known) → before.origin ≡ k.view.origin
    → ClientRegisters k before kind name n after → HasRegisteredThere kind name k n
registered_there kind name k n before after same_history registers =
    record { before = before; after = after; origin_is = same_history; registers = registers }
