use Rattle.std.proofs.Common.{◌≡◌, ℕ, ◌<◌, length, get_or}
use Rattle.sdf_graph.specs.Rates.{rates, channel}
use Rattle.sdf_prec.specs.Tables.{AreCountsAt, IsGreatestTo}
use Rattle.sdf_prec.proofs.table.caps.capacities.Given as goal

abbrev pub invariant-loop-channel : goal.invariant-loop-channel
invariant-loop-channel l = record {
  each : length l.caps.items ≡ l.channel-index;
  same : (c : ℕ) → c < l.channel-index → get_or l.caps.items c 0 ≡ (channel l.graph c).initial;
}

abbrev pub invariant-loop-actor : goal.invariant-loop-actor
invariant-loop-actor l = record {
  at : AreCountsAt l.graph l.order l.actor-index l.counts;
  each : length l.caps.items ≡ length l.graph.channels;
  greatest : (c : ℕ) → c < length l.graph.channels →
      IsGreatestTo (rates l.graph) l.order l.actor-index c (get_or l.caps.items c 0);
}
