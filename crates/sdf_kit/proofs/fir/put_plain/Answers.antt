use Rattle.std.proofs.Common.{◌+◌, ◌*◌, ◌++◌, length, pos, arith}
use Rattle.std.proofs.lemmas.List.FromFn.{fill_by_all}
use Rattle.sdf_kit.specs.Samples.{rescaled}
use Rattle.sdf_kit.specs.Samples.{upsampled}
use Rattle.sdf_kit.specs.Fir.{convolved}
use Rattle.sdf_kit.proofs.Blocks.{place_in}
use Rattle.sdf_kit.proofs.fir.put_plain.Goals as goal

pub returns : goal.returns
returns g c =
    fill_by_all (λ k. rescaled (convolved c.args.taps.now
    (upsampled c.args.firings.up (c.args.kept.now ++ c.args.taken.now))
    (length c.args.kept.now * c.args.firings.up + k * c.args.firings.down)) c.args.firings.shift) c.loop-j.put
    (c.args.firings.many * c.args.firings.up) (pos 0)
    c.loop-j.invariant.0 (λ k l. c.loop-j.invariant.1 k (omega (arith, c.loop-j.invariant.0)))

pub fir_output-requires-clause-at : goal.fir_output-requires-clause-at
fir_output-requires-clause-at g c =
    rw (c.from.ensures, c.from-in-loop-j.ensures)
    (place_in (length c.args.kept.now) (length c.args.taken.now) c.args.firings.up c.args.firings.down
    c.args.firings.many c.loop-j.j
    c.requires.taken c.requires.firings.down.0 (omega (arith, c.loop-j.invariant.0, c.loop-j-test.true)))
