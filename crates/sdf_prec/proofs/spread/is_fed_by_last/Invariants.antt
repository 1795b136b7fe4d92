use Rattle.std.proofs.Common.{◌≡◌, ◌<◌, ◌+◌, ℕ}
use Rattle.std.specs.Prelude.{IsTrue}
use Rattle.sdf_graph.specs.Rates.{channel}
use Rattle.sdf_prec.proofs.spread.is_fed_by_last.Given as goal

abbrev pub invariant-loop-channel : goal.invariant-loop-channel
invariant-loop-channel l = record {
  all : (c : ℕ) → c < l.channel-index → (channel l.graph c).to ≡ l.actor → (channel l.graph c).from + 1 ≡ l.actor;
  fed : IsTrue l.fed → (c : ℕ) × (c < l.channel-index) × ((channel l.graph c).to ≡ l.actor);
  none : (IsTrue l.fed → ⊥) → (c : ℕ) → c < l.channel-index → (channel l.graph c).to ≡ l.actor → ⊥;
}
