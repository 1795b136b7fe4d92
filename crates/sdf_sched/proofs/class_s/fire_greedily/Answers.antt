use Rattle.sdf_sched.proofs.Going.{going_begins}
use Rattle.sdf_sched.proofs.class_s.fire_greedily.Goals as goal

pub fire_all-requires-clause-begun : goal.fire_all-requires-clause-begun
fire_all-requires-clause-begun g c =
    going_begins _ g.P.Pick.chooses c.args.graph.now c.args.firings.now c.args.pick.now c.in_ok-counts.counts
    c.in_ok-order.order.items c.collect_candidates.new.candidates.runnable.items c.in_ok-counts.ensures
    c.in_ok-order.ensures.items
    c.requires.all c.collect_candidates.ensures.list.list
