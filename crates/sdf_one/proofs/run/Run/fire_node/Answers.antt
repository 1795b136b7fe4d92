use Rattle.std.proofs.Common.{◌≡◌, ◌*◌, get_or, true, true≢false, refl, inr, arith}
use Rattle.sdf_one.proofs.Sweeping.{moved_on}
use Rattle.sdf_one.proofs.run.Run.fire_node.Goals as goal

pub loop-fired-smaller : goal.loop-fired-smaller
loop-fired-smaller g c =
    let r = c.loop-fired.self in
    let now = c.fire_some.new.self in
    let moved = c.fire_some.ensures.moved in
    let may = c.may_fire.ensures.0 c.loop-fired-test.true in
    let same : now.high * get_or now.repetitions.now c.args.a 0 ≡ r.high * get_or r.repetitions.now c.args.a 0 =
    (λ i. moved.high i * get_or (moved.keeps.repetitions i).now c.args.a 0) in
    omega (arith, same, may.1, c.fire_some.ensures.further)

pub loop-fired-preserved : goal.loop-fired-preserved
loop-fired-preserved g c = record {
  swept = c.fire_some.ensures.swept;
  moved = moved_on c.args.self.now c.loop-fired.self c.fire_some.new.self c.loop-fired.fired true true (λ t. inr refl)
      (λ e. absurd (true≢false e)) c.loop-fired.invariant.moved c.fire_some.ensures.moved;
}
