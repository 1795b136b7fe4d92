use Rattle.std.proofs.Common.{◌≡◌, ℕ, ◌*◌, ◌<◌, length, take, get_or, pos}
use Rattle.sdf_kit.specs.Samples.{rescaled}
use Rattle.sdf_kit.specs.Tiles.{whole_output}
use Rattle.sdf_kit.proofs.tiles.put_tiles.Given as goal

abbrev pub invariant-loop-number : goal.invariant-loop-number
invariant-loop-number l = record {
  len : length l.put ≡ l.firings.many * l.firings.up;
  done : (n : ℕ) → n < l.number * l.turn * l.firings.up → get_or l.put n (pos 0) ≡
      rescaled (whole_output l.taps l.firings.up l.firings.down (take l.input.len l.input.samples.now) n)
      l.firings.shift;
}
