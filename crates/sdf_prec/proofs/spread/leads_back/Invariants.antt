use Rattle.std.proofs.Common.{◌<◌, ℕ}
use Rattle.sdf_graph.specs.Rates.{channel}
use Rattle.sdf_prec.proofs.spread.leads_back.Given as goal

abbrev pub invariant-loop-channel : goal.invariant-loop-channel
invariant-loop-channel l = (c : ℕ) → c < l.channel-index → (channel l.graph c).to < l.k →
    (channel l.graph c).from < l.k
