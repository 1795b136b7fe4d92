use Rattle.std.proofs.Common.{◌*◌, take}
use Rattle.sdf_kit.specs.Samples.{rescaled}
use Rattle.sdf_kit.specs.Tiles.{IsTurn, whole_output}
use Rattle.sdf_kit.proofs.tiles.put_turn.Given as goal

abbrev pub invariant-loop-vector : goal.invariant-loop-vector
invariant-loop-vector l =
    IsTurn (λ n. rescaled (whole_output l.taps l.firings.up l.firings.down (take l.input.len l.input.samples.now) n)
    l.firings.shift)
    l.done l.tiles.firings l.firings.up l.initial.put l.put (8 * l.vector)
