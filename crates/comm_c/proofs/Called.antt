-- A call that asks for something does what it says, from what its steps say.
use Rattle.std.proofs.Common.{◌≡◌, ◌≢◌, ◌⊎◌, ℕ, ◌≤◌, ◌^◌, Option, Some, None, Err, length, refl, sym, ap, subst, ◌∙◌, inl, inr, arith}
use Rattle.std.specs.Prelude.{IsOk}
use Rattle.comm_c.specs.CallResult.{result_number, sent}
use Rattle.comm_c.specs.Codes.{ok, closed, memory, exhausted, bad_name, bad_sizes, not_json}
use Rattle.comm_c.specs.Exports.{Ask, HasCalled}
use Rattle.comm_c.specs.ManagerState.{ManagerState, PlaysTested}
use Rattle.comm_c.specs.declared.input.CallFault.TheVariants.{BadName, BadSizes, NotJson}

-- the status of a call to a manager
abbrev pub IsPlayStatus : ℕ → Type 0
IsPlayStatus status =
    (status ≡ ok) ⊎ (status ≡ memory) ⊎ (status ≡ exhausted) ⊎ (status ≡ bad_sizes) ⊎ (status ≡ bad_name) ⊎ (status ≡ not_json)

not_closed : (status : ℕ) → IsPlayStatus status → status ≡ closed → ⊥
not_closed status (inl e) c = omega (arith, e, c)
not_closed status (inr (inl e)) c = omega (arith, e, c)
not_closed status (inr (inr (inl e))) c = omega (arith, e, c)
not_closed status (inr (inr (inr (inl e)))) c = omega (arith, e, c)
not_closed status (inr (inr (inr (inr (inl e))))) c = omega (arith, e, c)
not_closed status (inr (inr (inr (inr (inr e))))) c = omega (arith, e, c)

widened : (status : ℕ) → IsPlayStatus status
    → (status ≡ ok) ⊎ (status ≡ closed) ⊎ (status ≡ memory) ⊎ (status ≡ exhausted) ⊎ (status ≡ bad_sizes) ⊎ (status ≡ bad_name) ⊎ (status ≡ not_json)
widened status (inl e) = inl e
widened status (inr e) = inr (inr e)

called_at : (ask : Ask) (k after : ManagerState) (status reply count : ℕ) → (status ≡ ok → PlaysTested k (ask k.counted_core) after) → (status ≡ ok → reply ≡ result_number after.call_result)
    → (status ≡ ok → count ≡ length (sent after.call_result)) → (status ≢ ok → after ≡ k) → (status ≢ ok → reply ≡ 0) → (status ≢ ok → count ≡ 0)
    → (status ≡ bad_sizes → ask k.counted_core ≡ Err BadSizes) → (status ≡ bad_name → ask k.counted_core ≡ Err BadName) → (status ≡ not_json → ask k.counted_core ≡ Err NotJson)
    → (status ≡ exhausted → 2 ^ 62 ≤ k.number) → (status ≡ exhausted → IsOk (ask k.counted_core)) → IsPlayStatus status → HasCalled ask (Some k) (Some after) status reply count
called_at ask k after status reply count plays number messages same no_number no_messages sizes name json full last codes = record {
  played = plays;
  result_is = λ e. (number e, messages e);
  same = λ n. ap (λ (x : ManagerState). Some x) (same n);
  nothing = λ n. (no_number n, no_messages n);
  closed_is = (λ e. absurd (not_closed status codes e), λ e. cc);
  sizes = sizes;
  name = name;
  json = json;
  full = full;
  last = last;
  codes = widened status codes;
}

pub called : (ask : Ask) (old new : Option ManagerState) (k after : ManagerState) (status reply count : ℕ) → old ≡ Some k → new ≡ Some after
    → (status ≡ ok → PlaysTested k (ask k.counted_core) after) → (status ≡ ok → reply ≡ result_number after.call_result)
    → (status ≡ ok → count ≡ length (sent after.call_result)) → (status ≢ ok → after ≡ k) → (status ≢ ok → reply ≡ 0) → (status ≢ ok → count ≡ 0)
    → (status ≡ bad_sizes → ask k.counted_core ≡ Err BadSizes) → (status ≡ bad_name → ask k.counted_core ≡ Err BadName) → (status ≡ not_json → ask k.counted_core ≡ Err NotJson)
    → (status ≡ exhausted → 2 ^ 62 ≤ k.number) → (status ≡ exhausted → IsOk (ask k.counted_core)) → IsPlayStatus status → HasCalled ask old new status reply count
called ask old new k after status reply count is now plays number messages same no_number no_messages sizes name json full last codes =
    subst (λ (o : Option ManagerState). HasCalled ask o new status reply count) (sym is)
    (subst (λ (n : Option ManagerState). HasCalled ask (Some k) n status reply count) (sym now)
    (called_at ask k after status reply count plays number messages same no_number no_messages sizes name json full last codes))

pub uncalled : (ask : Ask) (old new : Option ManagerState) → old ≡ None → new ≡ None → HasCalled ask old new closed 0 0
uncalled ask old new is now = record {
  played = λ e. absurd (omega (arith, e));
  result_is = λ e. absurd (omega (arith, e));
  same = λ n. now ∙ sym is;
  nothing = λ n. (refl, refl);
  closed_is = (λ e. is, λ e. refl);
  sizes = λ e. absurd (omega (arith, e));
  name = λ e. absurd (omega (arith, e));
  json = λ e. absurd (omega (arith, e));
  full = λ e. absurd (omega (arith, e));
  last = λ e. absurd (omega (arith, e));
  codes = inr (inl refl);
}
