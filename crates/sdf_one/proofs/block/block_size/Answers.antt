use Rattle.std.proofs.Common.{◌+◌, ◌^◌, ◌<◌, ℕ, get_or, arith}
use Rattle.std.proofs.Math.Facts.{Fits-of_lt}
use Rattle.std.proofs.lemmas.List.Sums.{sum_by_more_le}
use Rattle.sdf_one.proofs.block.block_size.Goals as goal

pub overflow_add-size : goal.overflow_add-size
overflow_add-size c =
    let size : ℕ → ℕ = λ e. get_or c.args.ports.now.sizes.now e 0 in
    let place = c.args.ports.now.channels.now in
    let small : c.loop-c.size + size (get_or place c.loop-c.c-index 0) < 2 ^ 64 = omega (
      arith,
      c.loop-c.invariant,
      c.requires.small,
      sum_by_more_le size place c.loop-c.c-index 0 c.loop-c-test.true,
    ) in
    Fits-of_lt small
