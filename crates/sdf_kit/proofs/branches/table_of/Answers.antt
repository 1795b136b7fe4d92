use Rattle.std.proofs.Common.{pos, arith}
use Rattle.std.proofs.lemmas.List.FromFn.{fill_by_all}
use Rattle.sdf_kit.proofs.Branching.{place_tap}
use Rattle.sdf_kit.proofs.branches.table_of.Goals as goal

pub returns : goal.returns
returns c =
    fill_by_all (place_tap c.args.taps.now c.args.up c.args.width) c.loop-place.table 2048 (pos 0)
    c.loop-place.invariant.0 (λ k l. c.loop-place.invariant.1 k (omega (arith, c.loop-place.invariant.0)))
