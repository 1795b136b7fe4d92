use Rattle.std.proofs.Common.{arith, refl, below_more}
use Rattle.sdf_actor.specs.declared.sides.Lists.TheVariants.{Outputs}
use Rattle.sdf_actor.proofs.Counts.{list_below}
use Rattle.sdf_actor.proofs.checks.lists.list_counts.Goals as goal

pub loop-channel-preserved : goal.loop-channel-preserved
loop-channel-preserved g c = below_more _ _ c.loop-channel.invariant (c.if-not-has_list.ensures.0 refl)

pub returns : goal.returns
returns g c =
    let zero = c.loop-channel.invariant 0 (omega (arith, c.max-channel-end.ensures)) in (
      record {
        once = c.in_default.ensures;
        input = omega (arith, c.list_count-inputs.ensures);
        output = omega (arith, list_below Outputs c.args.nodes.now zero.0 0 zero.1 zero.2);
        outputs = λ e h. c.loop-channel.invariant e (omega
            (arith, c.max-channel-end.ensures, c.list_count-outputs.ensures));
      },
      c.list_count-inputs.ensures,
      c.list_count-outputs.ensures,
    )
