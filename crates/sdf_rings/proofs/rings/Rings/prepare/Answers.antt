use Rattle.std.proofs.Common.{◌*◌, refl, ap, ◌∙◌, subst, arith}
use Rattle.sdf_actor.specs.Sides.{period_samples}
use Rattle.sdf_actor.specs.Wires.{lists}
use Rattle.sdf_actor.specs.declared.sides.Lists.TheVariants.{Inputs}
use Rattle.sdf_queues.specs.RunResults.{AreInputs}
use Rattle.sdf_queues.proofs.Theorems.{blocks_are_small, nets_have_facts}
use Rattle.sdf_rings.proofs.rings.Rings.prepare.Goals as goal

pub samples_of_blocks-least-requires : goal.samples_of_blocks-least-requires
samples_of_blocks-least-requires g c =
    let j = c.args.table.now.blocking in
    let q = c.args.table.now.period.repetitions in
    let net = nets_have_facts g.A.Actor.steps c.args.net.now c.samples_in.ensures.accepted in
    let few = blocks_are_small g.A.Actor.steps c.args.net.now net.net net.graph j q Inputs
    c.requires.fits.period.least c.requires.fits.table.short in
    omega (arith, few, ap (λ m. j * m) (c.samples_in.ensures.value q c.requires.fits.period.least))

pub returns : goal.returns
returns g c =
    let n = c.args.net.now in
    let q = c.args.table.now.period.repetitions in
    let periods = c.args.blocks * c.args.table.now.blocking in
    let inputs = lists c.args.inputs.now in (
      c.if-not-homed.ensures.0 refl,
      subst (λ m. AreInputs m (periods * period_samples n.nodes Inputs q) inputs) c.inputs.ensures
          (subst (λ m. AreInputs c.inputs.result m inputs) (c.samples_of_blocks-least.ensures
          ∙ ap (λ m. periods * m) (c.samples_in.ensures.value q c.requires.fits.period.least))
          (c.if-not-are_inputs.ensures.0 refl)),
      c.in_ok-prepare_homed.ensures,
    )
