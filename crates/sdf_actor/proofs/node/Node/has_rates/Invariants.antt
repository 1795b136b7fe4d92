use Rattle.std.proofs.Common.{◌≡◌, ℕ, ◌≤◌, ◌<◌, true, false}
use Rattle.sdf_actor.specs.Graphs.{rate_of}
use Rattle.sdf_actor.proofs.node.Node.has_rates.Given as goal

abbrev pub invariant-loop-phase : goal.invariant-loop-phase
invariant-loop-phase g l = record {
  small : (i : ℕ) → i < l.phase → rate_of g.A.Actor.steps l.side l.self l.port i ≤ 1024;
  still : l.moves ≡ false → (i : ℕ) → i < l.phase → rate_of g.A.Actor.steps l.side l.self l.port i ≡ 0;
  some : l.moves ≡ true → (i : ℕ) × (i < l.phase) × (0 < rate_of g.A.Actor.steps l.side l.self l.port i);
}
