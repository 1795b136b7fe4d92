use Rattle.std.proofs.Common.{◌≡◌, map, ap, ◌∙◌}
use Rattle.std.proofs.lemmas.List.{length-map}
use Rattle.sdf_graph.specs.Rates.{GraphValue, ChannelValue, rate_at}
use Rattle.sdf_actor.specs.Graphs.{graph_of}
use Rattle.sdf_actor.specs.Wires.{lists}
use Rattle.sdf_queues.proofs.Cycles.{are_sizes}
use Rattle.sdf_queues.proofs.Readings.{vec_long}
use Rattle.sdf_queues.proofs.Theorems.{nets_have_facts}
use Rattle.sdf_queues.proofs.sizes.Sizes.new.Goals as goal

pub returns : goal.returns
returns g c =
    let s = g.A.Actor.steps in
    let n = c.args.net.now in
    let chans : c.channels-channels.result.now ≡ (graph_of s n).channels =
    c.channels-channels.ensures.list ∙ ap (λ (x : GraphValue). x.channels) c.graph.ensures.value in
    let facts = nets_have_facts s n c.graph.ensures.accepted in
    are_sizes s n facts.alike facts.phases c.longest_cycle-phases.result
    c.longest_cycle-phases.ensures (lists c.in_ok-takes.takes.items) (lists c.in_ok-puts.puts.items)
    (length-map c.in_ok-takes.takes.items (λ v. v.items) ∙ (vec_long c.in_ok-takes.takes ∙ c.in_ok-takes.ensures.0))
    (length-map c.in_ok-puts.puts.items (λ v. v.items) ∙ (vec_long c.in_ok-puts.puts ∙ c.in_ok-puts.ensures.0))
    (λ blocking h. c.in_ok-takes.ensures.1 blocking h ∙ ap (map (λ (e : ChannelValue). rate_at e.take blocking)) chans)
    (λ blocking h. c.in_ok-puts.ensures.1 blocking h ∙ ap (map (λ (e : ChannelValue). rate_at e.put blocking)) chans)
