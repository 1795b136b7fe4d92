use Rattle.std.proofs.Common.{◌*◌, length, map, sym, ap, ◌∙◌, arith}
use Rattle.std.specs.Prelude.{sum}
use Rattle.std.proofs.lemmas.List.{length-map}
use Rattle.sdf_actor.specs.Wires.{lists}
use Rattle.sdf_actor.specs.declared.sides.Lists.TheVariants.{Outputs}
use Rattle.sdf_queues.proofs.Theorems.{nets_have_facts, blocks_are_small, nets_have_periods}
use Rattle.sdf_rings.proofs.Lists.{vec_long}
use Rattle.sdf_rings.proofs.Starting.{can_start, is_asked}
use Rattle.sdf_rings.proofs.prepare.prepare_homed.Goals as goal

pub asked-requires : goal.asked-requires
asked-requires g c = omega (
  arith,
  c.requires.fits.table.short,
  ap (λ r. c.args.table.now.blocking * sum r) c.repetitions.ensures,
)

pub build_rings-requires-clause-start : goal.build_rings-requires-clause-start
build_rings-requires-clause-start g c κs within =
    let n = c.args.net.now in
    let accepted = c.samples_out.ensures.accepted in
    let p = c.args.table.now.period in
    let b = c.args.blocks in
    let j = c.args.table.now.blocking in
    let asked = c.in_ok-asked.ensures ∙ ap (map (λ q. b * (j * q))) c.repetitions.ensures in
    record {
      accepted = accepted;
      can = can_start g.A.Actor.steps n p
          (nets_have_periods g.A.Actor.steps n accepted p c.requires.fits.period) b j c.in_ok-asked.field-0.items asked
          (lists c.args.inputs.now) c.samples_of_blocks.result c.first_sample.result
          (nets_have_facts g.A.Actor.steps n accepted).phases c.requires.inputs
          (c.samples_of_blocks.ensures ∙ ap (λ m. b * j * m)
          (c.samples_out.ensures.value p.repetitions c.requires.fits.period.least))
          (λ none. rw none at c.first_sample.ensures) c.requires.some
          (omega (arith, c.requires.inputs.count, accepted.1.lists.input));
      sizes_are = c.in_ok-new.ensures;
      asked_all = sym (vec_long c.in_ok-asked.field-0) ∙ (ap length asked ∙ (length-map p.repetitions (λ q. b * (j * q))
          ∙ c.requires.fits.period.least.is.all));
    }

pub build_rings-requires-clause-plan : goal.build_rings-requires-clause-plan
build_rings-requires-clause-plan g c κs within =
    let n = c.args.net.now in
    let p = c.args.table.now.period in
    let b = c.args.blocks in
    let j = c.args.table.now.blocking in
    is_asked g.A.Actor.steps n p
    (nets_have_periods g.A.Actor.steps n c.samples_out.ensures.accepted p c.requires.fits.period) b j
    c.in_ok-asked.field-0.items
    (c.in_ok-asked.ensures ∙ ap (map (λ q. b * (j * q))) c.repetitions.ensures)
    c.args.table.now.table
    c.requires.fits.table

pub samples_of_blocks-requires : goal.samples_of_blocks-requires
samples_of_blocks-requires g c =
    let q = c.args.table.now.period.repetitions in
    let net = nets_have_facts g.A.Actor.steps c.args.net.now c.samples_out.ensures.accepted in
    let few = blocks_are_small g.A.Actor.steps c.args.net.now net.net net.graph
    c.args.table.now.blocking q Outputs c.requires.fits.period.least c.requires.fits.table.short in
    omega (
      arith,
      few,
      ap (λ m. c.args.table.now.blocking * m)
          (c.samples_out.ensures.value q c.requires.fits.period.least),
    )
