use Rattle.std.proofs.lemmas.Nat.{mod_below}
use Rattle.std.proofs.Common.{◌/◌, ◌%◌, ◌≡◌, ◌+◌, ◌*◌, length, ap, subst, arith}
use Rattle.sdf_graph.specs.Rates.{sum_to}
use Rattle.sdf_graph.specs.Moved.{moves}
use Rattle.sdf_graph.proofs.Theorems.{sums_grow, sums_rise}
use Rattle.sdf_times.specs.Checks.{IsLeastWith}
use Rattle.sdf_times.proofs.LastAwaited.{in_time_more}
use Rattle.sdf_times.proofs.links.link_in_time.Goals as goal

pub overflow_add-wanted : goal.overflow_add-wanted
overflow_add-wanted c =
    let rise = sums_rise (moves c.args.waits c.args.channel.now) c.loop-number.number (length c.args.waiting.now)
    (omega (arith, c.loop-number-test.true)) in
    omega (
      arith,
      rise,
      c.requires.link.ends,
      c.loop-number.invariant.wanted,
      c.requires.link.small c.args.waits
          c.loop-number.number,
      c.from-wanted.ensures,
      c.moves.ensures,
    )

pub advance-moved-requires-clause-few : goal.advance-moved-requires-clause-few
advance-moved-requires-clause-few c =
    let rise = sums_rise (moves c.args.waits c.args.channel.now) c.loop-number.number (length c.args.waiting.now)
    (omega (arith, c.loop-number-test.true)) in
    omega (
      arith,
      rise,
      c.requires.link.ends,
      c.loop-number.invariant.wanted,
      c.requires.link.small c.args.waits
          c.loop-number.number,
      c.from-wanted.ensures,
      c.moves.ensures,
    )

pub advance-moved-requires-clause-enough : goal.advance-moved-requires-clause-enough
advance-moved-requires-clause-enough c =
    let f = moves c.args.waits c.args.channel.now in
    let rise = sums_rise (moves c.args.waits c.args.channel.now) (c.loop-number.number + 1) (length c.args.waiting.now)
    (omega (arith, c.loop-number-test.true)) in
    let more = sums_grow (moves c.args.waits c.args.channel.now) c.loop-number.number in
    let twice = ap (λ n. sum_to (moves c.args.other c.args.channel.now) (2 * n)) c.len.ensures in
    omega (
      arith,
      rise,
      more,
      twice,
      c.requires.link.ends,
      c.requires.link.others,
      c.loop-number.invariant.wanted,
      c.from-wanted.ensures,
      c.moves.ensures,
    )

pub loop-number-preserved : goal.loop-number-preserved
loop-number-preserved c =
    let later : c.from-in-loop-number.result * c.from-in-loop-number-2.result ≡
    c.args.t * (1 + (c.args.first / c.args.whole)) =
    (λ k. c.from-in-loop-number.ensures k * c.from-in-loop-number-2.ensures k) in
    let more = sums_grow (moves c.args.waits c.args.channel.now) c.loop-number.number in
    let wanted : c.loop-number.wanted + c.from-wanted.result ≡
    c.args.whole + sum_to (moves c.args.waits c.args.channel.now) (c.loop-number.number + 1) =
    omega (arith, more, c.loop-number.invariant.wanted, c.from-wanted.ensures, c.moves.ensures) in
    let least : IsLeastWith (moves c.args.other c.args.channel.now) (c.args.first % c.args.whole)
    (c.args.whole + sum_to (moves c.args.waits c.args.channel.now) (c.loop-number.number + 1))
    c.advance-moved.result.firings =
    subst (λ w. IsLeastWith (moves c.args.other c.args.channel.now) (c.args.first % c.args.whole) w
    c.advance-moved.result.firings)
    wanted c.advance-moved.ensures.least in
    record {
      wanted = wanted;
      samples = c.advance-moved.ensures.samples;
      below = c.advance-moved.ensures.least.below;
      within = c.advance-moved.ensures.within;
      early = c.advance-moved.ensures.early;
      passed = in_time_more (moves c.args.waits c.args.channel.now) (moves c.args.other c.args.channel.now)
          (c.args.first % c.args.whole)
          c.args.whole (c.args.first / c.args.whole) c.args.waiting.now c.args.there.now c.args.pause c.args.t
          c.loop-number.number
          c.advance-moved.result.firings (mod_below c.args.first c.args.whole c.requires.link.some) least
          (omega (arith, c.if-repeating-pause.false, c.repeating.ensures.is, c.from.ensures, c.of.ensures, later))
          c.loop-number.invariant.passed;
    }
