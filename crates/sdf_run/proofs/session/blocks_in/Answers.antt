use Rattle.std.proofs.Common.{◌≡◌, ◌/◌, ◌%◌, ◌<◌, List, [], length, get_or, sym, ap, ◌∙◌, arith}
use Rattle.std.specs.Global.{Global}
use Rattle.std.specs.declared.vec.Vec.{Vec}
use Rattle.std.proofs.lemmas.List.{get_or-map, length-map}
use Rattle.sdf_actor.specs.Wires.{lists}
use Rattle.sdf_run.proofs.Feeding.{block_count}
use Rattle.sdf_run.proofs.session.blocks_in.Goals as goal

-- the samples of the first list
front : {T : Type 0} (inputs : List (Vec T Global)) (v : Vec T Global) → 0 < length inputs → v ≡ get_or inputs 0 v →
    get_or (lists inputs) 0 [] ≡ v.items
front inputs v some is = get_or-map (λ w. w.items) inputs 0 v [] some ∙ ap (λ w. w.items) (sym is)

pub returns-then-len-samples-ne0-clause-none : goal.returns-then-len-samples-ne0-clause-none
returns-then-len-samples-ne0-clause-none g c = λ blocks are.
    let found = block_count c.args.many c.args.samples blocks (lists c.args.inputs.now) c.index-inputs-0.result.items
    c.requires.many c.requires.samples are (front c.args.inputs.now c.index-inputs-0.result
    (omega (arith, are.count, c.requires.many, length-map c.args.inputs.now (λ v. v.items)))
    c.index-inputs-0.is) in
    let long : c.len-len.result ≡ length c.index-inputs-0.result.items = omega (arith, c.len-len.ensures) in
    absurd (c.if-len-samples-ne0.true (ap (λ m. m % c.args.samples) long ∙ found.0))

pub returns-then-blocks-clause-none : goal.returns-then-blocks-clause-none
returns-then-blocks-clause-none g c = λ blocks are.
    let found = block_count c.args.many c.args.samples blocks (lists c.args.inputs.now) c.index-inputs-0.result.items
    c.requires.many c.requires.samples are (front c.args.inputs.now c.index-inputs-0.result
    (omega (arith, are.count, c.requires.many, length-map c.args.inputs.now (λ v. v.items)))
    c.index-inputs-0.is) in
    let long : c.len-len.result ≡ length c.index-inputs-0.result.items = omega (arith, c.len-len.ensures) in
    absurd (omega (arith, ap (λ m. m / c.args.samples) long ∙ found.1, are.few, c.if-blocks.true))
