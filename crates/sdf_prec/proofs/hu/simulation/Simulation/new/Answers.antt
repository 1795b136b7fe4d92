use Rattle.std.proofs.Common.{rules, ◌≡◌, None, true, replicate, ap, ◌∙◌}
use Rattle.sdf_graph.proofs.Theorems.{graphs_are_sound}
use Rattle.sdf_prec.proofs.SimulationLaws.{idle_is}
use Rattle.sdf_prec.proofs.hu.simulation.Simulation.new.Goals as goal

pub invariant_of-result : goal.invariant_of-result
invariant_of-result c =
    let g = c.args.graph.now in
    let started = c.in_ok-vec.ensures.items_if_clones_equal (λ y e. e)
    ∙ ap (λ n. replicate n 0) c.actors-actors.ensures.count in
    let whose = c.in_ok-vec-2.ensures.items_if_clones_equal (λ y e. e) in
    let until = c.in_ok-vec-3.ensures.items_if_clones_equal (λ y e. e) in
    let homes : c.in_ok-vec-4.field-0.items ≡ replicate g.actors None = search rules in
    let marks = c.in_ok-of_all.ensures ∙ ap (λ n. replicate n true) c.actors-actors.ensures.count in
    rw (c.in_ok-new.ensures, started, whose, until, homes, c.new-2.ensures.items, marks)
    (idle_is g c.args.width (graphs_are_sound g c.actors-actors.ensures.shape))
