use Rattle.std.proofs.Common.{ℕ, ◌<◌, length, slice_index}
use Rattle.sdf_graph.specs.Rates.{rates}
use Rattle.sdf_warm_up.specs.WarmUps.{AreFirings, AreEarly, AreBehind, EndsWalk}
use Rattle.sdf_warm_up.proofs.warm_up.settle.Given as goal

abbrev pub invariant-loop : goal.invariant-loop
invariant-loop l = record {
  since : AreFirings (length l.initial.since) l.since;
  early : AreEarly l.graph (slice_index l.memory) l.since;
  behind : AreBehind l.graph (slice_index l.memory) l.since l.counter;
  walked : 0 < l.counter → (a : ℕ) × EndsWalk (rates l.graph) l.counter a;
}
