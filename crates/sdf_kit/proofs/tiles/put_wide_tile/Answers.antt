use Rattle.std.proofs.Common.{◌≡◌, ◌+◌, ◌*◌, ◌∙◌, length, ap, sym, refl, arith}
use Rattle.sdf_kit.specs.Samples.{rescaled}
use Rattle.sdf_kit.specs.Tiles.{tile_sum}
use Rattle.sdf_kit.proofs.FourTiles.{four_put}
use Rattle.sdf_kit.proofs.WideTiles.{carried_sum, carried_low, carried_small}
use Rattle.sdf_kit.proofs.tiles.put_wide_tile.Goals as goal

pub put_carried-requires-clause-low_small : goal.put_carried-requires-clause-low_small
put_carried-requires-clause-low_small c l low =
    carried_low c.args.taps.now c.args.x.now c.piece.result.now c.args.stretches.now c.args.four.first
    (2 * length c.args.stretches.now) l c.args.four.shift c.wide_sums-sums.result.a c.wide_sums-sums.ensures.a
    c.requires.stretches c.requires.total c.piece.ensures refl
    (omega (arith, c.requires.room, c.requires.stretches.many)) c.requires.x_short low

pub put_carried-requires-clause-small : goal.put_carried-requires-clause-small
put_carried-requires-clause-small c l low =
    carried_small c.args.taps.now c.args.x.now c.piece.result.now c.args.stretches.now c.args.four.first
    (2 * length c.args.stretches.now) l c.args.four.shift c.wide_sums-sums.result.a c.wide_sums-sums.ensures.a
    c.requires.stretches c.requires.total c.piece.ensures refl
    (omega (arith, c.requires.room, c.requires.stretches.many)) c.requires.x_short low

pub put_carried-requires-2-clause-low_small : goal.put_carried-requires-2-clause-low_small
put_carried-requires-2-clause-low_small c l low =
    carried_low c.args.taps.now c.args.x.now c.piece-2.result.now c.args.stretches.now
    (c.args.four.first + c.args.four.step)
    (2 * length c.args.stretches.now) l c.args.four.shift c.wide_sums-sums.result.b c.wide_sums-sums.ensures.b
    c.requires.stretches c.requires.total c.piece-2.ensures refl
    (omega (arith, c.requires.room, c.requires.stretches.many)) c.requires.x_short low

pub put_carried-requires-2-clause-small : goal.put_carried-requires-2-clause-small
put_carried-requires-2-clause-small c l low =
    carried_small c.args.taps.now c.args.x.now c.piece-2.result.now c.args.stretches.now
    (c.args.four.first + c.args.four.step)
    (2 * length c.args.stretches.now) l c.args.four.shift c.wide_sums-sums.result.b c.wide_sums-sums.ensures.b
    c.requires.stretches c.requires.total c.piece-2.ensures refl
    (omega (arith, c.requires.room, c.requires.stretches.many)) c.requires.x_short low

pub put_carried-requires-3-clause-low_small : goal.put_carried-requires-3-clause-low_small
put_carried-requires-3-clause-low_small c l low =
    carried_low c.args.taps.now c.args.x.now c.piece-3.result.now c.args.stretches.now
    (c.args.four.first + 2 * c.args.four.step)
    (2 * length c.args.stretches.now) l c.args.four.shift c.wide_sums-sums.result.c c.wide_sums-sums.ensures.c
    c.requires.stretches c.requires.total c.piece-3.ensures refl
    (omega (arith, c.requires.room, c.requires.stretches.many)) c.requires.x_short low

pub put_carried-requires-3-clause-small : goal.put_carried-requires-3-clause-small
put_carried-requires-3-clause-small c l low =
    carried_small c.args.taps.now c.args.x.now c.piece-3.result.now c.args.stretches.now
    (c.args.four.first + 2 * c.args.four.step)
    (2 * length c.args.stretches.now) l c.args.four.shift c.wide_sums-sums.result.c c.wide_sums-sums.ensures.c
    c.requires.stretches c.requires.total c.piece-3.ensures refl
    (omega (arith, c.requires.room, c.requires.stretches.many)) c.requires.x_short low

pub put_carried-requires-4-clause-low_small : goal.put_carried-requires-4-clause-low_small
put_carried-requires-4-clause-low_small c l low =
    carried_low c.args.taps.now c.args.x.now c.piece-4.result.now c.args.stretches.now
    (c.args.four.first + 3 * c.args.four.step)
    (2 * length c.args.stretches.now) l c.args.four.shift c.wide_sums-sums.result.d c.wide_sums-sums.ensures.d
    c.requires.stretches c.requires.total c.piece-4.ensures refl
    (omega (arith, c.requires.room, c.requires.stretches.many)) c.requires.x_short low

pub put_carried-requires-4-clause-small : goal.put_carried-requires-4-clause-small
put_carried-requires-4-clause-small c l low =
    carried_small c.args.taps.now c.args.x.now c.piece-4.result.now c.args.stretches.now
    (c.args.four.first + 3 * c.args.four.step)
    (2 * length c.args.stretches.now) l c.args.four.shift c.wide_sums-sums.result.d c.wide_sums-sums.ensures.d
    c.requires.stretches c.requires.total c.piece-4.ensures refl
    (omega (arith, c.requires.room, c.requires.stretches.many)) c.requires.x_short low

pub returns-clause-done : goal.returns-clause-done
returns-clause-done c =
    four_put (λ w l. rescaled (tile_sum c.args.taps.now c.args.x.now (c.args.four.first + w * c.args.four.step) l)
    c.args.four.shift)
    c.args.four.at c.args.four.stride c.args.put.now c.put_carried.new.put c.put_carried-2.new.put
    c.put_carried-3.new.put
    c.put_carried-4.new.put c.requires.apart
    (λ l low.
    let there : c.args.four.first + 0 * c.args.four.step ≡ c.args.four.first = omega arith in
    c.put_carried.ensures.done l low ∙ (ap (λ z. rescaled z c.args.four.shift)
    (carried_sum c.args.taps.now c.args.x.now c.piece.result.now c.args.stretches.now c.args.four.first
    (2 * length c.args.stretches.now) l c.args.four.shift c.wide_sums-sums.result.a c.wide_sums-sums.ensures.a
    c.requires.stretches c.requires.total c.piece.ensures refl
    (omega (arith, c.requires.room, c.requires.stretches.many)) c.requires.x_short low)
    ∙ ap (λ n. rescaled (tile_sum c.args.taps.now c.args.x.now n l) c.args.four.shift) (sym there)))
    (λ l low.
    let there : c.args.four.first + 1 * c.args.four.step ≡ c.args.four.first + c.args.four.step = omega arith in
    c.put_carried-2.ensures.done l low ∙ (ap (λ z. rescaled z c.args.four.shift)
    (carried_sum c.args.taps.now c.args.x.now c.piece-2.result.now c.args.stretches.now
    (c.args.four.first + c.args.four.step)
    (2 * length c.args.stretches.now) l c.args.four.shift c.wide_sums-sums.result.b c.wide_sums-sums.ensures.b
    c.requires.stretches c.requires.total c.piece-2.ensures refl
    (omega (arith, c.requires.room, c.requires.stretches.many)) c.requires.x_short low)
    ∙ ap (λ n. rescaled (tile_sum c.args.taps.now c.args.x.now n l) c.args.four.shift) (sym there)))
    c.put_carried-2.ensures.others
    (λ l low.
    let there : c.args.four.first + 2 * c.args.four.step ≡ c.args.four.first + 2 * c.args.four.step = omega arith in
    c.put_carried-3.ensures.done l low ∙ (ap (λ z. rescaled z c.args.four.shift)
    (carried_sum c.args.taps.now c.args.x.now c.piece-3.result.now c.args.stretches.now
    (c.args.four.first + 2 * c.args.four.step)
    (2 * length c.args.stretches.now) l c.args.four.shift c.wide_sums-sums.result.c c.wide_sums-sums.ensures.c
    c.requires.stretches c.requires.total c.piece-3.ensures refl
    (omega (arith, c.requires.room, c.requires.stretches.many)) c.requires.x_short low)
    ∙ ap (λ n. rescaled (tile_sum c.args.taps.now c.args.x.now n l) c.args.four.shift) (sym there)))
    c.put_carried-3.ensures.others
    (λ l low.
    let there : c.args.four.first + 3 * c.args.four.step ≡ c.args.four.first + 3 * c.args.four.step = omega arith in
    c.put_carried-4.ensures.done l low ∙ (ap (λ z. rescaled z c.args.four.shift)
    (carried_sum c.args.taps.now c.args.x.now c.piece-4.result.now c.args.stretches.now
    (c.args.four.first + 3 * c.args.four.step)
    (2 * length c.args.stretches.now) l c.args.four.shift c.wide_sums-sums.result.d c.wide_sums-sums.ensures.d
    c.requires.stretches c.requires.total c.piece-4.ensures refl
    (omega (arith, c.requires.room, c.requires.stretches.many)) c.requires.x_short low)
    ∙ ap (λ n. rescaled (tile_sum c.args.taps.now c.args.x.now n l) c.args.four.shift) (sym there)))
    c.put_carried-4.ensures.others
