use Rattle.std.proofs.Common.{◌≡◌, ◌/◌, sum, subst, sym, arith}
use Rattle.std.proofs.Math.Nat.{div-le_self}
use Rattle.sdf_limits.specs.declared.TheConstants.{MAX_BLOCK}
use Rattle.sdf_graph.specs.Rates.{rates}
use Rattle.sdf_prec.proofs.Longest.{IsMost, most_firings, most_more, some_firings}
use Rattle.sdf_prec.proofs.long.long_blocking.Goals as goal

pub nonzero_div-periods : goal.nonzero_div-periods
nonzero_div-periods c = omega (
  arith,
  c.total-periods.ensures.is,
  some_firings c.args.graph.now c.channels-channels.ensures.shape c.args.repetitions.now c.requires,
)

pub loop-channel-init : goal.loop-channel-init
loop-channel-init c =
    let same : sum c.args.repetitions.now ≡ c.total-periods.result = sym c.total-periods.ensures.is in
    record {
      most = subst (λ n. IsMost (rates c.args.graph.now) c.args.repetitions.now 0 (MAX_BLOCK / n)) same
          (most_firings (rates c.args.graph.now) c.args.repetitions.now
          (some_firings c.args.graph.now c.channels-channels.ensures.shape c.args.repetitions.now c.requires));
      small = div-le_self MAX_BLOCK c.total-periods.result;
    }

pub loop-channel-preserved : goal.loop-channel-preserved
loop-channel-preserved c = record {
  most = most_more (rates c.args.graph.now) c.args.repetitions.now c.loop-channel.channel c.loop-channel.periods
      c.min-periods.result c.moved.result c.moved.ensures.is c.moved.ensures.some c.min-periods.ensures
      c.loop-channel.invariant.most;
  small = omega (arith, c.min-periods.ensures, c.loop-channel.invariant.small);
}
