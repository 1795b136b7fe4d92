use Rattle.std.proofs.Common.{ℕ, ◌<◌, get_or}
use Rattle.std.specs.Prelude.{slice_index}
use Rattle.sdf_graph.specs.Rates.{channel}
use Rattle.sdf_times.specs.Checks.{IsChannelInTime}
use Rattle.sdf_times.proofs.schedules.channels_in_time.Given as goal

abbrev pub invariant-loop-number : goal.invariant-loop-number
invariant-loop-number l = (c : ℕ) → c < l.number →
    IsChannelInTime (channel l.graph c) (get_or l.table.caps c 0) (slice_index l.costs) l.starts l.t l.q
