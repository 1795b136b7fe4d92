use Rattle.std.proofs.Common.{◌≡◌, ◌≤◌, ◌*◌, ◌-◌, [], length, get_or, subst, sym, ap, ◌∙◌}
use Rattle.sdf_actor.specs.Wires.{lists}
use Rattle.sdf_queues.specs.RunResults.{IsRunFault}
use Rattle.sdf_queues.specs.Feeds.{GoesOnBy}
use Rattle.sdf_parallel.specs.Cuts.{cut}
use Rattle.sdf_parallel.specs.Parts.{read_by}
use Rattle.sdf_parallel.proofs.Cutting.{reaches, only_memory, refused}
use Rattle.sdf_parallel.proofs.part.run_stretch.Goals as goal

pub read-requires-clause-within : goal.read-requires-clause-within
read-requires-clause-within g c = λ e l.
    let w = c.args.split in
    let inputs = g.E.PartIo.inputs c.args.io.now in
    let size = c.samples_in-samples.ensures.value w.period.now.repetitions c.requires.split.period.least in
    subst (λ k. c.args.stretch.to * k ≤ length (get_or inputs e [])) (sym size)
    (reaches w.net.now w.period.now.repetitions inputs w.periods c.requires.split.given
    c.requires.split.full c.args.stretch.from c.args.stretch.to c.requires.order c.requires.within e l)

pub returns-in_err-ran : goal.returns-in_err-ran
returns-in_err-ran g c =
    let w = c.args.split in
    let n = w.net.now in
    let q = w.period.now.repetitions in
    let from = c.args.stretch.from in
    let to = c.args.stretch.to in
    let inputs = g.E.PartIo.inputs c.args.io.now in
    let size = c.samples_in-samples.ensures.value q c.requires.split.period.least in
    let is : lists c.deref.result.now ≡ read_by n q inputs from to =
    ap lists c.deref.ensures.value ∙ (c.in_ok-inputs.ensures ∙ ap (λ k. cut (from * k) (to * k) inputs) size) in
    refused c.from_residual-in_err-ran.result _ c.in_err-ran.field-0.0
    (only_memory n q inputs w.periods c.requires.split.given c.requires.split.full from to
    c.requires.order c.requires.within c.in_err-ran.field-0.0
    (subst (λ xs. IsRunFault n q (to - from) xs c.in_err-ran.field-0.0) is c.in_err-ran.ensures))
    c.from_residual-in_err-ran.ensures.1

pub returns : goal.returns
returns g c =
    let s = g.A.Actor.steps in
    let w = c.args.split in
    let n = w.net.now in
    let q = w.period.now.repetitions in
    let from = c.args.stretch.from in
    let to = c.args.stretch.to in
    let inputs = g.E.PartIo.inputs c.args.io.now in
    let size = c.samples_in-samples.ensures.value q c.requires.split.period.least in
    let is : lists c.deref.result.now ≡ read_by n q inputs from to =
    ap lists c.deref.ensures.value ∙ (c.in_ok-inputs.ensures ∙ ap (λ k. cut (from * k) (to * k) inputs) size) in
    subst (λ xs. GoesOnBy s n q c.args.begin.now (to - from) xs (lists c.in_ok-ran.ran.outputs.items)
    c.in_ok-ran.rest) is c.in_ok-ran.ensures.0
