use Rattle.std.proofs.Common.{◌≡◌, sum, take}
use Rattle.sdf_graph.proofs.channel.has_nonzero.Given as goal

abbrev pub invariant-loop-rate : goal.invariant-loop-rate
invariant-loop-rate l = sum (take l.rate-index l.rates) ≡ 0
