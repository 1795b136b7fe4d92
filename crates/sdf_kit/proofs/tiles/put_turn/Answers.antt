use Rattle.std.proofs.Common.{◌≡◌, ◌≤◌, ◌+◌, ◌*◌, ◌∙◌, ap, subst, sym, refl, take, unsigned_abs, arith}
use Rattle.sdf_kit.specs.Samples.{rescaled}
use Rattle.sdf_kit.specs.Tiles.{IsTurn, whole_output}
use Rattle.sdf_kit.proofs.TileTurns.{turn_begins, turn_more}
use Rattle.sdf_kit.proofs.TilePlaces.{window_room, places, value, output_low, set_room}
use Rattle.sdf_kit.proofs.tiles.put_turn.Goals as goal

pub loop-vector-init : goal.loop-vector-init
loop-vector-init c =
    turn_begins (λ n. rescaled (whole_output c.args.taps.now c.args.firings.up c.args.firings.down
    (take c.args.input.len c.args.input.samples.now) n) c.args.firings.shift) c.args.done c.args.tiles.now.firings
    c.args.firings.up
    c.args.put.now

pub put_tile-requires-clause-room : goal.put_tile-requires-clause-room
put_tile-requires-clause-room c =
    window_room c.args.tiles.now c.args.taps.now c.args.input.samples.now c.row.result.now c.args.firings.up
    c.args.firings.down
    c.args.done c.args.firings.many c.args.input.len c.loop-vector.vector c.requires.tiles c.requires.firings.up.0
    c.requires.firings.down.0 c.loop-vector-test.true c.requires.turn c.requires.samples c.requires.room c.row.ensures

pub put_tile-requires-clause-places : goal.put_tile-requires-clause-places
put_tile-requires-clause-places c =
    let low = places c.args.tiles.now c.args.taps.now c.args.input.samples.now c.row.result.now c.args.firings.up
    c.args.firings.down
    c.args.done c.args.firings.many c.args.input.len c.loop-vector.vector c.requires.tiles c.requires.firings.up.0
    c.requires.firings.down.0 c.loop-vector-test.true c.requires.turn c.requires.samples c.requires.room
    c.row.ensures in
    omega (arith, low, c.loop-vector.invariant.len, c.requires.put)

pub put_tile-requires-clause-small : goal.put_tile-requires-clause-small
put_tile-requires-clause-small c quiet w l few low =
    subst (λ z. unsigned_abs z ≤ 2147467263)
    (sym (value c.args.tiles.now c.args.taps.now c.args.input.samples.now c.row.result.now c.args.firings.up
    c.args.firings.down
    c.args.done c.args.firings.many c.args.input.len c.loop-vector.vector c.requires.tiles c.requires.firings.up.0
    c.requires.firings.down.0 c.loop-vector-test.true c.requires.turn c.requires.samples c.requires.room
    c.row.ensures w l few low))
    (c.requires.small quiet ((c.args.done + w * c.args.tiles.now.firings) * c.args.firings.up
    + (8 * c.loop-vector.vector + l))
    (output_low c.args.tiles.now c.args.taps.now c.args.input.samples.now c.row.result.now c.args.firings.up
    c.args.firings.down
    c.args.done c.args.firings.many c.args.input.len c.loop-vector.vector c.requires.tiles c.requires.firings.up.0
    c.requires.firings.down.0 c.loop-vector-test.true c.requires.turn c.requires.samples c.requires.room
    c.row.ensures w l few low))

pub loop-vector-preserved : goal.loop-vector-preserved
loop-vector-preserved c =
    let one : 8 * c.loop-vector.vector + 8 ≡ 8 * (c.loop-vector.vector + 1) = omega arith in
    subst (λ m. IsTurn (λ n. rescaled (whole_output c.args.taps.now c.args.firings.up c.args.firings.down
    (take c.args.input.len c.args.input.samples.now) n) c.args.firings.shift) c.args.done c.args.tiles.now.firings
    c.args.firings.up
    c.args.put.now c.put_tile.new.put m) one
    (turn_more (λ n. rescaled (whole_output c.args.taps.now c.args.firings.up c.args.firings.down
    (take c.args.input.len c.args.input.samples.now) n) c.args.firings.shift) c.args.done c.args.tiles.now.firings
    c.args.firings.up
    (8 * c.loop-vector.vector) (c.args.done * c.args.firings.up + 8 * c.loop-vector.vector)
    (c.args.tiles.now.firings * c.args.firings.up) c.args.put.now c.loop-vector.put c.put_tile.new.put
    c.loop-vector.invariant refl refl
    (set_room c.args.tiles.now c.args.taps.now c.args.input.samples.now c.row.result.now c.args.firings.up
    c.args.firings.down
    c.args.done c.args.firings.many c.args.input.len c.loop-vector.vector c.requires.tiles c.requires.firings.up.0
    c.requires.firings.down.0 c.loop-vector-test.true c.requires.turn c.requires.samples c.requires.room
    c.row.ensures)
    c.put_tile.ensures.len
    (λ w l few low. c.put_tile.ensures.done w l few low
    ∙ ap (λ z. rescaled z c.args.firings.shift) (value c.args.tiles.now c.args.taps.now c.args.input.samples.now
    c.row.result.now
    c.args.firings.up c.args.firings.down
    c.args.done c.args.firings.many c.args.input.len c.loop-vector.vector c.requires.tiles c.requires.firings.up.0
    c.requires.firings.down.0 c.loop-vector-test.true c.requires.turn c.requires.samples c.requires.room
    c.row.ensures w l few low))
    c.put_tile.ensures.others)
