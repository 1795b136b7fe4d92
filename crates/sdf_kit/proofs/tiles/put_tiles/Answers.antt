use Rattle.std.proofs.Common.{◌≡◌, ◌<◌, ◌≤◌, ◌+◌, ◌*◌, ◌/◌, ◌%◌, ◌∙◌, subst, take, pos, arith}
use Rattle.std.proofs.lemmas.Nat.{div-add-mod', row_fits}
use Rattle.std.proofs.lemmas.List.FromFn.{fill_by_all}
use Rattle.std.proofs.Math.Nat.{add-mul, mul-le-mul_right}
use Rattle.sdf_kit.specs.Samples.{rescaled}
use Rattle.sdf_kit.specs.Tiles.{whole_output}
use Rattle.sdf_kit.proofs.TileTurns.{turn_all}
use Rattle.sdf_kit.proofs.tiles.put_tiles.Goals as goal

pub put_turn-requires-clause-turn : goal.put_turn-requires-clause-turn
put_turn-requires-clause-turn c =
    let turn = 4 * c.args.tiles.now.firings in
    let all : c.args.firings.many / turn * turn + c.args.firings.many % turn ≡ c.args.firings.many =
    div-add-mod' c.args.firings.many turn in
    let fits : c.loop-number.number * turn + turn ≤ c.args.firings.many / turn * turn =
    row_fits c.loop-number.number turn (c.args.firings.many / turn) turn c.loop-number-test.true (omega arith) in
    omega (arith, c.requires.whole)

pub loop-number-preserved : goal.loop-number-preserved
loop-number-preserved c = record {
  len = c.put_turn.ensures.len ∙ c.loop-number.invariant.len;
  done = λ n l.
      let turn = 4 * c.args.tiles.now.firings in
      let one : (c.loop-number.number + 1) * turn ≡ c.loop-number.number * turn + 1 * turn =
      add-mul c.loop-number.number 1 turn in
      let further : (c.loop-number.number + 1) * turn ≡ c.loop-number.number * turn + turn = omega arith in
      turn_all (λ n. rescaled (whole_output c.args.taps.now c.args.firings.up c.args.firings.down
      (take c.args.input.len c.args.input.samples.now) n) c.args.firings.shift) (c.loop-number.number * turn)
      c.args.tiles.now.firings
      c.args.firings.up (8 * c.args.tiles.now.vectors) c.loop-number.put c.put_turn.new.put c.put_turn.ensures
      (omega (arith, c.requires.tiles.set)) (omega (arith, c.requires.tiles.some)) c.loop-number.invariant.done n
      (subst (λ m. n < m * c.args.firings.up) further l);
}

pub returns : goal.returns
returns c =
    let turn = 4 * c.args.tiles.now.firings in
    fill_by_all (λ n. rescaled (whole_output c.args.taps.now c.args.firings.up c.args.firings.down
    (take c.args.input.len c.args.input.samples.now) n) c.args.firings.shift) c.loop-number.put
    (c.args.firings.many * c.args.firings.up) (pos 0) c.loop-number.invariant.len
    (λ n l. c.loop-number.invariant.done n (
    let all : c.args.firings.many / turn * turn + c.args.firings.many % turn ≡ c.args.firings.many =
    div-add-mod' c.args.firings.many turn in
    let turns : c.args.firings.many / turn * turn ≤ c.loop-number.number * turn =
    mul-le-mul_right turn c.loop-number-test.false in
    let far : c.args.firings.many ≤ c.loop-number.number * turn = omega (arith, c.requires.whole) in
    let outputs : c.args.firings.many * c.args.firings.up ≤ c.loop-number.number * turn * c.args.firings.up =
    mul-le-mul_right c.args.firings.up far in
    omega arith
    ))
