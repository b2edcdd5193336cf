-- A client's read does what it says, from what its steps say.
use Rattle.std.proofs.Common.{◌≡◌, ◌≢◌, ◌⊎◌, ℕ, ◌≤◌, ◌^◌, List, Option, Some, None, length, refl, sym, ap, subst, ◌∙◌, inl, inr, arith}
use Rattle.std.specs.Prelude.{IsUtf8}
use Rattle.comm_versions.specs.Known.{Known}
use Rattle.comm_shared.specs.SharedView.{HasRead}
use Rattle.comm_c.specs.CallResult.{result_number, sent}
use Rattle.comm_c.specs.ClientExports.{HasClientRead, HasReadSo}
use Rattle.comm_c.specs.ClientState.{ClientState}
use Rattle.comm_c.specs.Codes.{ok, closed, memory, exhausted, bad_name, again}

-- the status of a read by a client
abbrev pub IsReadStatus : ℕ → Type 0
IsReadStatus status = (status ≡ ok) ⊎ (status ≡ memory) ⊎ (status ≡ exhausted) ⊎ (status ≡ bad_name) ⊎ (status ≡ again)

not_closed : (status : ℕ) → IsReadStatus status → status ≡ closed → ⊥
not_closed status (inl e) c = omega (arith, e, c)
not_closed status (inr (inl e)) c = omega (arith, e, c)
not_closed status (inr (inr (inl e))) c = omega (arith, e, c)
not_closed status (inr (inr (inr (inl e)))) c = omega (arith, e, c)
not_closed status (inr (inr (inr (inr e)))) c = omega (arith, e, c)

widened : (status : ℕ) → IsReadStatus status
    → (status ≡ ok) ⊎ (status ≡ closed) ⊎ (status ≡ memory) ⊎ (status ≡ exhausted) ⊎ (status ≡ bad_name) ⊎ (status ≡ again)
widened status (inl e) = inl e
widened status (inr e) = inr (inr e)

module _ (Reads : ClientState → ClientState → Type 0) (named : List ℕ) where
  read_at : (k n : ClientState) (status reply count : ℕ) → (status ≡ ok → Reads k n) → (status ≡ ok → reply ≡ result_number n.call_result)
      → (status ≡ ok → count ≡ length (sent n.call_result)) → (status ≢ ok → n ≡ k) → (status ≢ ok → reply ≡ 0) → (status ≢ ok → count ≡ 0)
      → (status ≡ bad_name → ¬ (IsUtf8 named)) → (status ≡ exhausted → 2 ^ 62 ≤ k.number) → IsReadStatus status
      → HasClientRead Reads named (Some k) (Some n) status reply count
  read_at k n status reply count reads number messages same no_number no_messages name full codes = record {
    read = reads;
    result_is = λ e. (number e, messages e);
    same = λ e. ap (λ (x : ClientState). Some x) (same e);
    nothing = λ e. (no_number e, no_messages e);
    closed_is = (λ e. absurd (not_closed status codes e), λ e. cc);
    name = name;
    full = full;
    codes = widened status codes;
  }

  pub has_read : (old new : Option ClientState) (k n : ClientState) (status reply count : ℕ) → old ≡ Some k → new ≡ Some n
      → (status ≡ ok → Reads k n) → (status ≡ ok → reply ≡ result_number n.call_result)
      → (status ≡ ok → count ≡ length (sent n.call_result)) → (status ≢ ok → n ≡ k) → (status ≢ ok → reply ≡ 0) → (status ≢ ok → count ≡ 0)
      → (status ≡ bad_name → ¬ (IsUtf8 named)) → (status ≡ exhausted → 2 ^ 62 ≤ k.number) → IsReadStatus status
      → HasClientRead Reads named old new status reply count
  has_read old new k n status reply count is now reads number messages same no_number no_messages name full codes =
      subst (λ (o : Option ClientState). HasClientRead Reads named o new status reply count) (sym is)
      (subst (λ (w : Option ClientState). HasClientRead Reads named (Some k) w status reply count) (sym now)
      (read_at k n status reply count reads number messages same no_number no_messages name full codes))

  pub unread : (old new : Option ClientState) → old ≡ None → new ≡ None → HasClientRead Reads named old new closed 0 0
  unread old new is now = record {
    read = λ e. absurd (omega (arith, e));
    result_is = λ e. absurd (omega (arith, e));
    same = λ e. now ∙ sym is;
    nothing = λ e. (refl, refl);
    closed_is = (λ e. is, λ e. refl);
    name = λ e. absurd (omega (arith, e));
    full = λ e. absurd (omega (arith, e));
    codes = inr (inl refl);
  }

-- a read at its front is at what has been seen
pub at_what_is_seen : (old new : Known) (since front : ℕ) → HasRead old new since front → HasRead old new since (length new.entries)
at_what_is_seen old new since front r =
    record { origin_is = r.origin_is; later = r.later; reaches = r.reaches; legal = r.legal; front_is = refl }

-- a client that was there and is has read so
pub read_so : (Reads : ClientState → ClientState → Type 0) (old new : Option ClientState) (k n : ClientState) → old ≡ Some k → new ≡ Some n → Reads k n
    → HasReadSo Reads old new
read_so Reads old new k n is now reads =
    subst (λ (o : Option ClientState). HasReadSo Reads o new) (sym is)
    (subst (λ (w : Option ClientState). HasReadSo Reads (Some k) w) (sym now) reads)
