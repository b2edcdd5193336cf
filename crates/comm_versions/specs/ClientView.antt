-- What contracts see of a client: its number, how many changes it made, and what it has seen.
use Rattle.std.specs.Prelude.{ℕ, zero, suc, List, [], ◌∷◌, ◌++◌}
use Rattle.comm_core.specs.declared.entry.Entry.{Entry}

pub record ClientView : Type 0 where
  pub client : ℕ
  pub number : ℕ
  pub seen : List Entry

abbrev pub client_view : ℕ → ℕ → List Entry → ClientView
client_view c n seen = record { client = c; number = n; seen = seen }

-- so many clients, who have made no change and seen nothing
abbrev pub all_new : ℕ → List ClientView
all_new zero = []
all_new (suc n) = all_new n ++ client_view n 0 [] ∷ []
