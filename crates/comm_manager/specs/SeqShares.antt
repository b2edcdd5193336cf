-- Which share of which ledger a client's sequence has.
use Rattle.std.specs.Prelude.{ℕ, ◌≡◌}
use Rattle.comm_manager.specs.declared.ledger.SeqShare.{SeqShare}
use Rattle.comm_manager.specs.declared.ledger.SeqShare.TheVariants.{First, Second, Third, Fourth}

abbrev pub Matches : {M : Type 0} → SeqShare M → ℕ → ℕ → Type 0
Matches (First s) c n = (c ≡ 0) × (s.parts ≡ 1) × (s.amount ≡ n)
Matches (Second s) c n = (c ≡ 1) × (s.parts ≡ 1) × (s.amount ≡ n)
Matches (Third s) c n = (c ≡ 2) × (s.parts ≡ 1) × (s.amount ≡ n)
Matches (Fourth s) c n = (c ≡ 3) × (s.parts ≡ 1) × (s.amount ≡ n)
