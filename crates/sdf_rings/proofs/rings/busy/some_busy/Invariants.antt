use Rattle.std.proofs.Common.{ℕ, ◌<◌, get_or}
use Rattle.sdf_rings.proofs.rings.busy.some_busy.Given as goal

abbrev pub invariant-loop-it : goal.invariant-loop-it
invariant-loop-it g l = (i : ℕ) (d : g.row.T.Denot) → i < l.it-index → g.T.Busy.busy (get_or l.s i d) → ⊥
