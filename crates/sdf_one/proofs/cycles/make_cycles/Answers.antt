use Rattle.std.proofs.Common.{◌≡◌, ◌<◌, ℕ, length, get_or, ap, ◌∙◌, subst, arith, below_more}
use Rattle.std.proofs.lemmas.List.{get_or_append_left, get_or_push, length-map}
use Rattle.sdf_graph.specs.Rates.{GraphValue, IsShape, IsAlike, rates, sum_to, rate_at, channel}
use Rattle.sdf_actor.specs.Graphs.{graph_of, channel_of}
use Rattle.sdf_actor.specs.Nets.{node, wiring, cycle_of}
use Rattle.sdf_one.proofs.Readings.{the_channel, vec_long}
use Rattle.sdf_one.proofs.cycles.make_cycles.Goals as goal
use Rattle.sdf_one.proofs.cycles.make_cycles.Goals.{After-channel-item}

-- the channel that is read is one of the graph's
edge : (g : Rattle.sdf_one.proofs.cycles.make_cycles.Given.Over) (c : After-channel-item g) →
    (c.loop-channel.channel-index < length (graph_of g.A.Actor.steps c.args.net.now).channels)
    × (c.channel-item.result ≡ channel (graph_of g.A.Actor.steps c.args.net.now) c.loop-channel.channel-index)
edge g c =
    let list : c.channels-channels.result.now ≡ (graph_of g.A.Actor.steps c.args.net.now).channels =
    c.channels-channels.ensures.list ∙ ap (λ (x : GraphValue). x.channels) c.graph.ensures.value in (
      omega (arith, c.loop-channel-test.true, ap length list),
      the_channel c.channels-channels.result.now (graph_of g.A.Actor.steps c.args.net.now) c.channel-item.result
          c.loop-channel.channel-index c.channel-item.is c.loop-channel-test.true list,
    )

shape : (g : Rattle.sdf_one.proofs.cycles.make_cycles.Given.Over) (c : After-channel-item g) →
    IsShape (graph_of g.A.Actor.steps c.args.net.now)
shape g c = subst IsShape c.graph.ensures.value c.channels-channels.ensures.shape

pub samples_moved-requires-clause-put : goal.samples_moved-requires-clause-put
samples_moved-requires-clause-put g c =
    let e = edge g (goal.at.samples_moved-requires-clause-put g c).After-channel-item in
    let cycle = (shape g (goal.at.samples_moved-requires-clause-put g c).After-channel-item).put
    c.loop-channel.channel-index e.0 in
    omega (arith, cycle.all, cycle.some, ap (λ x. length x.put) e.1)

pub samples_moved-requires-clause-take : goal.samples_moved-requires-clause-take
samples_moved-requires-clause-take g c =
    let e = edge g (goal.at.samples_moved-requires-clause-take g c).After-channel-item in
    let cycle = (shape g (goal.at.samples_moved-requires-clause-take g c).After-channel-item).take
    c.loop-channel.channel-index e.0 in
    omega (arith, cycle.all, cycle.some, ap (λ x. length x.take) e.1)

pub node-requires-in-loop-channel-after_bounds : goal.node-requires-in-loop-channel-after_bounds
node-requires-in-loop-channel-after_bounds g c κs within =
    let e = edge g (goal.at.node-requires-in-loop-channel-after_bounds g c).After-channel-item in
    omega (
      arith,
      (shape g (goal.at.node-requires-in-loop-channel-after_bounds g c).After-channel-item).from_in
          c.loop-channel.channel-index e.0,
      ap (λ x. x.from) (c.channel.view_is ∙ e.1),
    )

pub samples_moved-requires-in-loop-channel-clause-put : goal.samples_moved-requires-in-loop-channel-clause-put
samples_moved-requires-in-loop-channel-clause-put g c =
    let e = edge g (goal.at.samples_moved-requires-in-loop-channel-clause-put g c).After-channel-item in
    let cycle = (shape g (goal.at.samples_moved-requires-in-loop-channel-clause-put g c).After-channel-item).put
    c.loop-channel.channel-index e.0 in
    omega (arith, cycle.all, cycle.some, ap (λ x. length x.put) e.1)

pub samples_moved-requires-in-loop-channel-clause-take : goal.samples_moved-requires-in-loop-channel-clause-take
samples_moved-requires-in-loop-channel-clause-take g c =
    let e = edge g (goal.at.samples_moved-requires-in-loop-channel-clause-take g c).After-channel-item in
    let cycle = (shape g (goal.at.samples_moved-requires-in-loop-channel-clause-take g c).After-channel-item).take
    c.loop-channel.channel-index e.0 in
    omega (arith, cycle.all, cycle.some, ap (λ x. length x.take) e.1)

pub loop-channel-preserved : goal.loop-channel-preserved
loop-channel-preserved g c =
    let i : ℕ = c.loop-channel.channel-index in
    let s = g.A.Actor.steps in
    let n = c.args.net.now in
    let graph : GraphValue = graph_of s n in
    let inv = c.loop-channel.invariant in
    let e = edge g (goal.at.loop-channel-preserved g c).After-channel-item in
    let its = c.channel.view_is ∙ e.1 in
    let takes_turns : c.cycle.result ≡ cycle_of s (node n (channel graph i).to) =
    c.cycle.ensures ∙ ap (cycle_of s) (c.node.ensures.value ∙ ap (λ x. node n x.to) its) in
    let puts_turns : c.cycle-in-loop-channel.result ≡ cycle_of s (node n (channel graph i).from) =
    c.cycle-in-loop-channel.ensures
    ∙ ap (cycle_of s) (c.node-in-loop-channel.ensures.value ∙ ap (λ x. node n x.from) its) in
    record {
      takes_all = omega (arith, c.in_ok-push.ensures.len, inv.takes_all);
      puts_all = omega (arith, c.in_ok-push-2.ensures.len, inv.puts_all);
      takes_are = below_more (λ k. get_or c.push.new.self.items k 0 ≡
          sum_to (rate_at (channel graph k).take) (cycle_of s (node n (channel graph k).to))) i
          (λ k h. ap (λ xs. get_or xs k 0) c.in_ok-push.ensures.items
          ∙ (get_or_append_left c.loop-channel.takes.items _ 0 k
          (omega (arith, vec_long c.loop-channel.takes, inv.takes_all, h))
          ∙ inv.takes_are k h))
          (ap (λ xs. get_or xs i 0) c.in_ok-push.ensures.items
          ∙ (get_or_push c.loop-channel.takes.items _ 0 i (vec_long c.loop-channel.takes ∙ inv.takes_all)
          ∙ (c.samples_moved.ensures ∙ (λ κ. sum_to (rate_at (e.1 κ).take) (takes_turns κ)))));
      puts_are = below_more (λ k. get_or c.push-in-loop-channel.new.self.items k 0 ≡
          sum_to (rate_at (channel graph k).put) (cycle_of s (node n (channel graph k).from))) i
          (λ k h. ap (λ xs. get_or xs k 0) c.in_ok-push-2.ensures.items
          ∙ (get_or_append_left c.loop-channel.puts.items _ 0 k
          (omega (arith, vec_long c.loop-channel.puts, inv.puts_all, h))
          ∙ inv.puts_are k h))
          (ap (λ xs. get_or xs i 0) c.in_ok-push-2.ensures.items
          ∙ (get_or_push c.loop-channel.puts.items _ 0 i (vec_long c.loop-channel.puts ∙ inv.puts_all)
          ∙ (c.samples_moved-in-loop-channel.ensures ∙ (λ κ. sum_to (rate_at (e.1 κ).put) (puts_turns κ)))));
    }

pub returns : goal.returns
returns g c =
    let s = g.A.Actor.steps in
    let n = c.args.net.now in
    let graph : GraphValue = graph_of s n in
    let inv = c.loop-channel.invariant in
    let alike = subst (λ x. IsAlike (rates x) (wiring s n).rates) c.graph.ensures.value c.graph.ensures.rates in
    let list : c.channels-channels.result.now ≡ graph.channels =
    c.channels-channels.ensures.list ∙ ap (λ (x : GraphValue). x.channels) c.graph.ensures.value in
    let wires : length graph.channels ≡ length n.wires = length-map n.wires (channel_of s n.nodes) in
    let all : c.loop-channel.channel-index ≡ length n.wires = omega (
      arith,
      c.loop-channel-test.false,
      c.loop-channel.auto.channel-index-end,
      ap length list,
      wires,
    ) in
    record {
      takes_all = vec_long c.loop-channel.takes ∙ (inv.takes_all ∙ all);
      puts_all = vec_long c.loop-channel.puts ∙ (inv.puts_all ∙ all);
      taken = λ d l.
          let known : d < length graph.channels = omega (arith, wires, l) in
          inv.takes_are d (omega (arith, all, l))
          ∙ (alike.consumed d (cycle_of s (node n (channel graph d).to)) known
          ∙ ap (λ b. (wiring s n).rates.consumed d (cycle_of s (node n b))) (alike.target d known));
      put = λ d l.
          let known : d < length graph.channels = omega (arith, wires, l) in
          inv.puts_are d (omega (arith, all, l))
          ∙ (alike.produced d (cycle_of s (node n (channel graph d).from)) known
          ∙ ap (λ b. (wiring s n).rates.produced d (cycle_of s (node n b))) (alike.source d known));
    }
