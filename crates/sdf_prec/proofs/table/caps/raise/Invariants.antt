use Rattle.std.proofs.Common.{◌≡◌, ℕ, ◌<◌, ◌≤◌, ◌⊎◌, max, get_or, length}
use Rattle.sdf_graph.specs.Rates.{rates}
use Rattle.sdf_graph.specs.Sequences.{tokens}
use Rattle.sdf_graph.specs.CountsValue.{counts}
use Rattle.sdf_prec.proofs.table.caps.raise.Given as goal

abbrev pub invariant-loop-c : goal.invariant-loop-c
invariant-loop-c l = record {
  same : length l.caps ≡ length l.initial.caps;
  each : (c : ℕ) → (get_or l.caps c 0 ≡ get_or l.initial.caps c 0)
      ⊎ (get_or l.caps c 0 ≡ max (get_or l.initial.caps c 0) (tokens (rates l.counts.graph) (counts l.counts) c));
  above : (j : ℕ) → j < l.c-index →
      tokens (rates l.counts.graph) (counts l.counts) (get_or l.channels j 0) ≤ get_or l.caps (get_or l.channels j 0) 0;
}
