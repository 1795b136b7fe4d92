use Rattle.std.proofs.Common.{◌≡◌, ◌≤◌, get_or, vec_len, refl, sym, ◌∙◌, subst}
use Rattle.std.specs.List.{sum_by}
use Rattle.sdf_actor.specs.declared.node.Node.TheVariants.{Inner}
use Rattle.sdf_actor.specs.Nets.{node, wiring}
use Rattle.sdf_queues.specs.Sizes.{at_phase}
use Rattle.sdf_graph.specs.Rates.{sum_to}
use Rattle.sdf_one.specs.Cycles.{AreRowsAt}
use Rattle.sdf_one.proofs.Beginnings.{rows_in, rows_out, blocks, begun}
use Rattle.sdf_one.proofs.setup.make_work.Goals as goal

pub make_block-requires-clause-rows : goal.make_block-requires-clause-rows
make_block-requires-clause-rows g c =
    subst (λ cs. AreRowsAt cs c.args.sizes.now.takes c.cycle-cycle.result) (sym c.channels_in-ins.ensures)
    (subst (λ m. AreRowsAt ((wiring g.A.Actor.steps c.args.net.now).ins c.args.a) c.args.sizes.now.takes m)
    (sym c.cycle-cycle.ensures)
    (rows_in g.A.Actor.steps c.args.net.now c.requires.net c.args.sizes.now c.requires.sizes
    c.args.a c.requires.known c.in-Inner.actor (sym c.node.ensures.value ∙ c.in-Inner.is)))

pub make_block-requires-in-Inner-clause-rows : goal.make_block-requires-in-Inner-clause-rows
make_block-requires-in-Inner-clause-rows g c =
    subst (λ cs. AreRowsAt cs c.args.sizes.now.puts c.cycle-cycle.result) (sym c.channels_out-outs.ensures)
    (subst (λ m. AreRowsAt ((wiring g.A.Actor.steps c.args.net.now).outs c.args.a) c.args.sizes.now.puts m)
    (sym c.cycle-cycle.ensures)
    (rows_out g.A.Actor.steps c.args.net.now c.requires.net c.args.sizes.now c.requires.sizes
    c.args.a c.requires.known c.in-Inner.actor (sym c.node.ensures.value ∙ c.in-Inner.is)))

pub returns-in_ok-put-in-Inner : goal.returns-in_ok-put-in-Inner
returns-in_ok-put-in-Inner g c =
    let s = g.A.Actor.steps in
    let x = c.in-Inner.actor in
    let is : node c.args.net.now c.args.a ≡ Inner c.in-Inner.actor = sym c.node.ensures.value ∙ c.in-Inner.is in
    begun s c.args.net.now c.requires.net c.args.sizes.now c.requires.sizes c.args.a c.requires.known x is
    _ c.in_ok-state-in-Inner.state c.in_ok-taken-in-Inner.taken c.in_ok-put-in-Inner.put
    refl c.in_ok-state-in-Inner.ensures
    (blocks s c.args.net.now c.requires.net c.args.sizes.now c.requires.sizes c.args.a c.requires.known x is
    c.in_ok-taken-in-Inner.taken c.in_ok-put-in-Inner.put c.cycle-cycle.result c.cycle-cycle.ensures
    (subst (λ cs. sum_to (λ j. sum_by (λ e. get_or (at_phase c.args.sizes.now.takes j) e 0) cs) c.cycle-cycle.result ≤
    vec_len c.in_ok-taken-in-Inner.taken) c.channels_in-ins.ensures c.in_ok-taken-in-Inner.ensures)
    (subst (λ cs. sum_to (λ j. sum_by (λ e. get_or (at_phase c.args.sizes.now.puts j) e 0) cs) c.cycle-cycle.result ≤
    vec_len c.in_ok-put-in-Inner.put) c.channels_out-outs.ensures c.in_ok-put-in-Inner.ensures))
