use Rattle.std.proofs.Common.{◌*◌, refl, ap, subst}
use Rattle.sdf_actor.specs.Sides.{period_samples}
use Rattle.sdf_actor.specs.Wires.{lists}
use Rattle.sdf_actor.specs.declared.sides.Lists.TheVariants.{Inputs}
use Rattle.sdf_queues.specs.RunResults.{AreInputs}
use Rattle.sdf_one.proofs.feed.feed_one_in.Goals as goal

pub returns : goal.returns
returns g c =
    let q = c.args.period.now.repetitions in
    let inputs = lists c.args.inputs.now in (
      subst (λ m. AreInputs m (c.args.periods * period_samples c.args.net.now.nodes Inputs q) inputs) c.inputs.ensures
          (subst (λ m. AreInputs c.inputs.result m inputs)
          (ap (λ m. c.args.periods * m) (c.samples_in.ensures.value q c.requires.period.least))
          (c.if-not-are_inputs.ensures.0 refl)),
      c.in_ok-outputs-2.ensures,
      refl,
    )
