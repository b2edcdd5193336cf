-- How a session over the manager of one thread stands.
use Rattle.std.specs.Prelude.{◌≡◌, ℕ, ◌≤◌, ◌<◌, true, length, slice_index}
use Rattle.comm_core.specs.declared.limits.Limits.{Limits}
use Rattle.comm_core.specs.History.{mine, replay}
use Rattle.comm_core.specs.Exact.{is_exact}
use Rattle.comm_core.specs.Ready as core
use Rattle.comm_core.specs.Limits.{AreAllowed}
use Rattle.comm_script.specs.Played.{Standing}
use Rattle.comm_script.specs.declared.session.Session.{Session}

-- it stands so
pub record Stands {A : Type 0} (limits : Limits) (now : Standing) (s : Session A) : Type 0 where
  pub same : s.limits ≡ limits
  pub limit : s.core.limit ≡ limits.comms
  pub machine : core.machine s.core ≡ replay limits.comms now.history
  pub exact : is_exact (core.machine s.core) ≡ true
  pub stock : s.stock.targets ≡ now.stock
  pub changes : s.changes ≡ length now.history
  pub made : (c : ℕ) → c < 4 → slice_index s.made c ≡ length (mine now.history c)

-- its limits are allowed, its manager is settled, and no client made more changes than all
pub record IsSound {A : Type 0} (s : Session A) : Type 0 where
  pub fits : AreAllowed s.limits
  pub settled : s.core.settled ≡ true
  pub made : (c : ℕ) → slice_index s.made c ≤ s.changes
