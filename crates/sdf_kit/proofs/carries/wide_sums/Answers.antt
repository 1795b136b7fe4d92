use Rattle.std.proofs.Common.{◌≡◌, ◌≤◌, ◌+◌, ◌-◌, ◌*◌, ◌/◌, length, take, drop, refl, sym, subst, arith}
use Rattle.std.proofs.lemmas.List.{length-drop, length-take-le}
use Rattle.sdf_kit.specs.Stretches.{IsReach}
use Rattle.sdf_kit.proofs.CarriedSteps.{carried_next}
use Rattle.sdf_kit.proofs.carries.wide_sums.Goals as goal

pub stretches-preserved : goal.stretches-preserved
stretches-preserved c =
    let reach : IsReach c.from.result (drop (16 * c.stretches.done) c.args.taps.now) =
    subst (λ n. IsReach n (drop (16 * c.stretches.done) c.args.taps.now)) (sym c.from.ensures)
    (c.requires.stretches.each c.stretches.done c.stretches-test.true) in
    let some : 1 ≤ c.from.result =
    subst (λ n. 1 ≤ n) (sym c.from.ensures) (c.requires.stretches.some c.stretches.done c.stretches-test.true) in
    let taps_room : 16 * (c.stretches.done + c.from.result) ≤ length c.args.taps.now =
    omega (
      arith,
      reach.within,
      length-drop (16 * c.stretches.done) c.args.taps.now,
      c.requires.stretches.many,
      c.stretches-test.true,
    ) in
    let inside : c.stretches.done + c.from.result ≤ length c.args.stretches.now =
    omega (arith, taps_room, c.requires.stretches.many) in
    let few : c.stretches.done + c.from.result ≤ 1024 = omega (arith, inside, c.requires.stretches.few) in
    let pairs : length (take (2 * (c.stretches.done + c.from.result) - 2 * c.stretches.done)
    (drop (2 * c.stretches.done) c.args.x.now)) / 2 ≡ c.from.result =
    (let l = length-take-le (2 * (c.stretches.done + c.from.result) - 2 * c.stretches.done)
    (drop (2 * c.stretches.done) c.args.x.now)
    (omega (arith, length-drop (2 * c.stretches.done) c.args.x.now, inside, c.requires.x)) in omega arith) in
    record {
      within = inside;
      a = carried_next c.args.taps.now c.args.x.now
          (take (16 * (c.stretches.done + c.from.result) - 16 * c.stretches.done)
          (drop (16 * c.stretches.done) c.args.taps.now))
          (take (2 * (c.stretches.done + c.from.result) - 2 * c.stretches.done)
          (drop (2 * c.stretches.done) c.args.x.now)) c.tile_sums-sums.result.a c.stretches.done c.from.result
          (length (take (2 * (c.stretches.done + c.from.result) - 2 * c.stretches.done)
          (drop (2 * c.stretches.done) c.args.x.now)) / 2)
          c.stretches.a c.carry-a.result c.stretches.invariant.a c.tile_sums-sums.ensures.a pairs refl refl
          reach.stretch taps_room (omega (arith, c.requires.x)) few c.requires.x_short
          c.carry-a.ensures.high_lanes c.carry-a.ensures.low_lanes c.carry-a.ensures.high c.carry-a.ensures.low
          some;
      b = carried_next c.args.taps.now c.args.y.now
          (take (16 * (c.stretches.done + c.from.result) - 16 * c.stretches.done)
          (drop (16 * c.stretches.done) c.args.taps.now))
          (take (2 * (c.stretches.done + c.from.result) - 2 * c.stretches.done)
          (drop (2 * c.stretches.done) c.args.y.now)) c.tile_sums-sums.result.b c.stretches.done c.from.result
          (length (take (2 * (c.stretches.done + c.from.result) - 2 * c.stretches.done)
          (drop (2 * c.stretches.done) c.args.x.now)) / 2)
          c.stretches.b c.carry-b.result c.stretches.invariant.b c.tile_sums-sums.ensures.b pairs refl refl
          reach.stretch taps_room (omega (arith, c.requires.y)) few c.requires.y_short
          c.carry-b.ensures.high_lanes c.carry-b.ensures.low_lanes c.carry-b.ensures.high c.carry-b.ensures.low
          some;
      c = carried_next c.args.taps.now c.args.z.now
          (take (16 * (c.stretches.done + c.from.result) - 16 * c.stretches.done)
          (drop (16 * c.stretches.done) c.args.taps.now))
          (take (2 * (c.stretches.done + c.from.result) - 2 * c.stretches.done)
          (drop (2 * c.stretches.done) c.args.z.now)) c.tile_sums-sums.result.c c.stretches.done c.from.result
          (length (take (2 * (c.stretches.done + c.from.result) - 2 * c.stretches.done)
          (drop (2 * c.stretches.done) c.args.x.now)) / 2)
          c.stretches.c c.carry-c.result c.stretches.invariant.c c.tile_sums-sums.ensures.c pairs refl refl
          reach.stretch taps_room (omega (arith, c.requires.z)) few c.requires.z_short
          c.carry-c.ensures.high_lanes c.carry-c.ensures.low_lanes c.carry-c.ensures.high c.carry-c.ensures.low
          some;
      d = carried_next c.args.taps.now c.args.w.now
          (take (16 * (c.stretches.done + c.from.result) - 16 * c.stretches.done)
          (drop (16 * c.stretches.done) c.args.taps.now))
          (take (2 * (c.stretches.done + c.from.result) - 2 * c.stretches.done)
          (drop (2 * c.stretches.done) c.args.w.now)) c.tile_sums-sums.result.d c.stretches.done c.from.result
          (length (take (2 * (c.stretches.done + c.from.result) - 2 * c.stretches.done)
          (drop (2 * c.stretches.done) c.args.x.now)) / 2)
          c.stretches.d c.carry-d.result c.stretches.invariant.d c.tile_sums-sums.ensures.d pairs refl refl
          reach.stretch taps_room (omega (arith, c.requires.w)) few c.requires.w_short
          c.carry-d.ensures.high_lanes c.carry-d.ensures.low_lanes c.carry-d.ensures.high c.carry-d.ensures.low
          some;
    }
