-- The balance of a channel: the samples that its ends put and take, which may differ.
use Rattle.std.specs.Prelude.{◌≡◌, ℕ, ◌*◌, ◌<◌, List, length}
use Rattle.sdf_graph.specs.Rates.{GraphValue, IsShape, channel, cycle, rates}
use Rattle.sdf_graph.specs.RelativeRates.{AreRatios, IsReduced, ratio}
use Rattle.sdf_graph.specs.declared.repetitions.Ratio.{Ratio}
use Rattle.sdf_graph.specs.declared.balance.Balance.{Balance}

-- the balance of channel c over the fewest whole cycles of both ends, at some relative rates of the actors
pub record IsBalance (g : GraphValue) (c : ℕ) (m : Balance) : Type 0 where
  pub shape : IsShape g
  pub known : c < length g.channels
  pub ratios : List Ratio
  pub shares : AreRatios g ratios
  pub source_cycles : ℕ
  pub target_cycles : ℕ
  pub fewest : IsReduced ((ratio ratios (channel g c).from).num * (ratio ratios (channel g c).to).den)
      ((ratio ratios (channel g c).to).num * (ratio ratios (channel g c).from).den) source_cycles target_cycles
  pub source : m.source ≡ source_cycles * cycle g (channel g c).from
  pub target : m.target ≡ target_cycles * cycle g (channel g c).to
  pub puts : m.puts ≡ (rates g).produced c m.source
  pub takes : m.takes ≡ (rates g).consumed c m.target
