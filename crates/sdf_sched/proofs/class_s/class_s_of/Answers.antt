use Rattle.sdf_graph.proofs.Theorems.{graphs_are_sound}
use Rattle.sdf_sched.proofs.Finish.{is_pass, is_whole}
use Rattle.sdf_sched.proofs.class_s.class_s_of.Goals as goal

pub returns-clause-pass : goal.returns-clause-pass
returns-clause-pass g c =
    is_pass _ g.P.Pick.chooses c.args.graph.now c.args.firings.now c.args.pick.now _ c.in_ok-order.order.items
    c.fire_greedily.new.pick c.in_ok-order.ensures
    (graphs_are_sound c.args.graph.now c.channels.ensures.shape)
    c.requires.some.0 c.requires.some.1

pub returns-clause-all : goal.returns-clause-all
returns-clause-all g c =
    is_whole _ g.P.Pick.chooses c.args.graph.now c.args.firings.now c.args.pick.now _ c.in_ok-order.order.items
    c.fire_greedily.new.pick c.in_ok-order.ensures
    (graphs_are_sound c.args.graph.now c.channels.ensures.shape)
    c.requires.some.0 c.requires.some.1 c.requires.all
