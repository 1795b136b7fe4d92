use Rattle.std.proofs.Common.{◌≡◌, arith}
use Rattle.std.proofs.lemmas.Grind.{common_steps}
use Rattle.sdf_actor.specs.Sides.{period_samples}
use Rattle.sdf_actor.specs.declared.sides.Lists.TheVariants.{Inputs, Outputs}
use Rattle.sdf_texts.proofs.texts.text_with.Goals as goal

pub returns : goal.returns
returns c =
    let input : c.samples_in-input.result ≡ period_samples c.args.design.now.net.nodes Inputs c.args.repetitions.now =
    (rw c.net-net.ensures.value at c.samples_in-input.ensures.value c.args.repetitions.now) c.requires in
    let output : c.samples_out-output.result ≡ period_samples c.args.design.now.net.nodes Outputs
    c.args.repetitions.now = (rw c.net-net.ensures.value at c.samples_out-output.ensures.value
    c.args.repetitions.now) c.requires in
    grind (arith, common_steps, input, output)
