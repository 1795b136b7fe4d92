-- The samples that a firing moves, as the lean policy keeps them.
use Rattle.std.specs.Prelude.{◌≡◌, ℕ, ◌*◌, ◌≤◌}
use Rattle.sdf_limits.specs.declared.TheConstants.{MAX_RATE, MAX_LINKS}
use Rattle.sdf_graph.specs.Rates.{Rates}
use Rattle.sdf_sched.specs.Lean.{puts, takes}
use Rattle.sdf_sched.specs.declared.lean.Flow.{Flow}

-- the samples that actor a's next firing puts and takes at counts k
pub record IsFlow (r : Rates) (k : ℕ → ℕ) (a : ℕ) (f : Flow) : Type 0 where
  pub put : f.put ≡ puts r k a
  pub taken : f.taken ≡ takes r k a

-- the samples put and taken are at most what all channels can move
pub record AreSmall (f : Flow) : Type 0 where
  pub put : f.put ≤ MAX_RATE * MAX_LINKS
  pub taken : f.taken ≤ MAX_RATE * MAX_LINKS
