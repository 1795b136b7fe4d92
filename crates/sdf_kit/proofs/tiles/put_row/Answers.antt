use Rattle.std.proofs.Common.{◌+◌, ◌*◌, ◌≤◌, arith}
use Rattle.std.proofs.lemmas.Nat.{mul-le}
use Rattle.std.proofs.Math.Nat.{div-le_self}
use Rattle.sdf_kit.proofs.tiles.put_row.Goals as goal

pub put_lane-requires-clause-end : goal.put_lane-requires-clause-end
put_lane-requires-clause-end c =
    let at = (8 * c.args.vector + c.loop-lane.lane) * c.args.down in
    let far : (8 * c.args.vector + c.loop-lane.lane) * c.args.down ≤ 511 * 64 =
    mul-le (8 * c.args.vector + c.loop-lane.lane) c.args.down 511 64
    (omega (arith, c.requires.vector, c.loop-lane-test.true))
    c.requires.down.1 in
    let row = div-le_self ((8 * c.args.vector + c.loop-lane.lane) * c.args.down) c.args.up in
    let keep = div-le_self c.saturating_sub.result c.args.up in
    omega (arith, c.saturating_sub.ensures, c.requires.taps.few)
