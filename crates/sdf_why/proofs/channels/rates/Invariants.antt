use Rattle.std.proofs.Common.{◌≡◌, map}
use Rattle.std.specs.List.{range_with_len}
use Rattle.sdf_kit.specs.Ports.{moved}
use Rattle.sdf_why.proofs.channels.rates.Given as goal

abbrev pub invariant-loop-phase : goal.invariant-loop-phase
invariant-loop-phase l = l.rates.items ≡ map (moved l.side l.port) (range_with_len 0 l.phase)
