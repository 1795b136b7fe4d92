use Rattle.std.proofs.Common.{◌≤◌, ◌<◌, ◌+◌, ◌*◌, ℕ, slice_index}
use Rattle.sdf_warm_up.specs.declared.warm_up.TheConstants.{MAX_FIRINGS}
use Rattle.sdf_warm_up.specs.WarmUps.{AreWithin}
use Rattle.sdf_warm_up.proofs.warm_up.periods_for.Given as goal

abbrev pub invariant-loop-a : goal.invariant-loop-a
invariant-loop-a l = record {
  enough : (i : ℕ) → i < l.a → slice_index l.since i + slice_index l.memory i ≤ l.periods * slice_index l.repetitions i;
  least : (p : ℕ) → AreWithin l.repetitions p l.memory l.since → l.periods ≤ p;
  few : l.periods ≤ 2 * MAX_FIRINGS;
}
