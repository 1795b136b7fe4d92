use Rattle.std.proofs.Common.{◌≡◌, map, take}
use Rattle.sdf_graph.specs.Rates.{rate_at}
use Rattle.sdf_queues.specs.Sizes.{rates_on}
use Rattle.sdf_queues.proofs.sizes.row.Given as goal

abbrev pub invariant-loop-channel : goal.invariant-loop-channel
invariant-loop-channel l = l.row.items ≡ map (λ e. rate_at (rates_on l.side e) l.phase)
    (take l.channel-index l.channels)
