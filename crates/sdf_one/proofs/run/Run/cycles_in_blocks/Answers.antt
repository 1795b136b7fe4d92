use Rattle.std.proofs.Common.{◌≡◌, ◌*◌, ◌≤◌, ℕ, get_or, refl, sym, ◌∙◌, subst, arith}
use Rattle.std.specs.List.{sum_by}
use Rattle.std.proofs.Math.Nat.{mul-le-mul_right}
use Rattle.std.proofs.lemmas.List.{get_or_default}
use Rattle.sdf_one.specs.Many.{FitsCycles}
use Rattle.sdf_one.proofs.Sweeping.{swept_node, rows_at, blocks_at, ins_at, outs_at, go_at}
use Rattle.sdf_one.proofs.run.Run.cycles_in_blocks.Goals as goal

-- what holds of many holds of fewer
fewer : (few many size held : ℕ) → few ≤ many → many * size ≤ held → few * size ≤ held
fewer few many size held up all = let less : few * size ≤ many * size = mul-le-mul_right size up in omega arith

pub can_batch_cycles-requires-after_bounds : goal.can_batch_cycles-requires-after_bounds
can_batch_cycles-requires-after_bounds g c =
    let p = swept_node g.A.Actor.steps c.args.self.now c.requires.swept c.args.a c.requires.known in
    let are = c.ports_of-ports.ensures in λ κs within.
    rows_at p c.index.ensures are.ins are.outs are.takes are.puts refl

pub blocks_held-most-requires : goal.blocks_held-most-requires
blocks_held-most-requires g c =
    let p = swept_node g.A.Actor.steps c.args.self.now c.requires.swept c.args.a c.requires.known in
    let are = c.ports_of-ports.ensures in
    ins_at p c.index.ensures are.ins are.outs are.takes are.puts c.deref.ensures.value

pub fits-requires-clause-ins : goal.fits-requires-clause-ins
fits-requires-clause-ins g c = λ κs within.
    let p = swept_node g.A.Actor.steps c.args.self.now c.requires.swept c.args.a c.requires.known in
    let are = c.ports_of-ports.ensures in
    let at = ins_at p c.index.ensures are.ins are.outs are.takes are.puts refl in
    record { known = λ n l. omega (arith, at.known n l, at.sized); sized = refl; once = at.once }

pub fits-requires-clause-outs : goal.fits-requires-clause-outs
fits-requires-clause-outs g c = λ κs within.
    let p = swept_node g.A.Actor.steps c.args.self.now c.requires.swept c.args.a c.requires.known in
    let are = c.ports_of-ports.ensures in
    let at = outs_at p c.index.ensures are.ins are.outs are.takes are.puts refl in
    record { known = λ n l. omega (arith, at.known n l, at.sized); sized = refl; once = at.once }

pub fits-requires-clause-blocks : goal.fits-requires-clause-blocks
fits-requires-clause-blocks g c = λ κs within.
    let p = swept_node g.A.Actor.steps c.args.self.now c.requires.swept c.args.a c.requires.known in
    let are = c.ports_of-ports.ensures in
    blocks_at p c.index-2.ensures are.ins are.outs are.takes are.puts refl

pub returns-clause-go : goal.returns-clause-go
returns-clause-go g c = λ some.
    let r = c.args.self.now in
    let sw = c.requires.swept in
    let ports = c.ports_of-ports.result in
    let are = c.ports_of-ports.ensures in
    let same : c.index-2.result.now ≡ c.index.result.now = c.index-2.ensures
    ∙ (get_or_default r.works.items c.args.a c.index-2.result.now c.index.result.now
    (omega (arith, sw.stands.nodes, c.requires.known)) ∙ sym c.index.ensures) in
    go_at (swept_node g.A.Actor.steps r sw c.args.a c.requires.known) c.index.ensures are.ins are.outs are.takes
    are.puts c.deref.ensures.value c.fits.result (c.can_batch_cycles.ensures c.if-not-can_batch_cycles.false)
    (λ n l. fewer c.fits.result c.blocks_held-most.result
    (get_or ports.ins.sizes.now (get_or ports.ins.channels.now n 0) 0) _
    c.fits.ensures.within (c.blocks_held-most.ensures.held n l))
    (subst (λ w. FitsCycles w (sum_by (λ e. get_or ports.ins.sizes.now e 0) ports.ins.channels.now)
    (sum_by (λ e. get_or ports.outs.sizes.now e 0) ports.outs.channels.now) c.fits.result) same c.fits.ensures.fit)
