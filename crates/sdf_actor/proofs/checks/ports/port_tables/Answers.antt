use Rattle.std.proofs.Common.{arith, below_more, ◌≡◌, ◌+◌, length, map, sym, ap, ◌∙◌, subst}
use Rattle.std.specs.List.{range_with_len}
use Rattle.std.proofs.lemmas.Result.{err_from_is_err_and}
use Rattle.sdf_actor.specs.declared.sides.Side.TheVariants.{Input, Output}
use Rattle.sdf_actor.specs.Nets.{inputs_of, outputs_of}
use Rattle.sdf_actor.specs.Sides.{channel_at}
use Rattle.sdf_actor.specs.Wires.{netlist, lists}
use Rattle.sdf_actor.specs.Tables.{IsPortTable}
use Rattle.sdf_actor.specs.NetFaults.{HasChannels, HasPorts, OpenFault}
use Rattle.sdf_actor.proofs.Readings.{node_read}
use Rattle.sdf_actor.proofs.Tabling.{open_input, open_output, table_push}
use Rattle.sdf_actor.proofs.checks.ports.port_tables.Goals as goal

pub returns-in_err-ins : goal.returns-in_err-ins
returns-in_err-ins g c =
    let read = node_read c.args.nodes.now c.loop-a.a c.index-nodes-a.result c.loop-a-test.true c.index-nodes-a.is in
    let ins = c.ports.ensures ∙ ap (inputs_of g.A.Actor.steps) (sym read) in
    let p = err_from_is_err_and c.from_residual.result c.from_residual.ensures.1 in
    rw (p.1, p.2) (open_input g.A.Actor.steps (netlist c.args.nodes.now c.args.links.now) c.loop-a.a
    c.in_err-ins.field-0.0 c.loop-a-test.true c.loop-a.invariant.joined
    (subst (λ k. OpenFault (netlist c.args.nodes.now c.args.links.now) c.loop-a.a Input k c.in_err-ins.field-0.0) ins
    c.in_err-ins.ensures))

pub returns-in_err-outs : goal.returns-in_err-outs
returns-in_err-outs g c =
    let read = node_read c.args.nodes.now c.loop-a.a c.index-nodes-a.result c.loop-a-test.true c.index-nodes-a.is in
    let ins = c.ports.ensures ∙ ap (inputs_of g.A.Actor.steps) (sym read) in
    let outs = c.ports-in-loop-a.ensures ∙ ap (outputs_of g.A.Actor.steps) (sym read) in
    let p = err_from_is_err_and c.from_residual-in_err-outs.result c.from_residual-in_err-outs.ensures.1 in
    rw (p.1, p.2) (open_output g.A.Actor.steps (netlist c.args.nodes.now c.args.links.now) c.loop-a.a
    c.in_err-outs.field-0.0 c.loop-a-test.true c.loop-a.invariant.joined
    (subst (HasChannels (netlist c.args.nodes.now c.args.links.now) c.loop-a.a Input) ins c.in_ok-ins.ensures.1)
    (subst (λ k. OpenFault (netlist c.args.nodes.now c.args.links.now) c.loop-a.a Output k c.in_err-outs.field-0.0) outs
    c.in_err-outs.ensures))

pub loop-a-preserved : goal.loop-a-preserved
loop-a-preserved g c =
    let read = node_read c.args.nodes.now c.loop-a.a c.index-nodes-a.result c.loop-a-test.true c.index-nodes-a.is in
    let ins = c.ports.ensures ∙ ap (inputs_of g.A.Actor.steps) (sym read) in
    let outs = c.ports-in-loop-a.ensures ∙ ap (outputs_of g.A.Actor.steps) (sym read) in
    record {
      joined = below_more _ _ c.loop-a.invariant.joined (
        subst (HasChannels (netlist c.args.nodes.now c.args.links.now) c.loop-a.a Input) ins c.in_ok-ins.ensures.1,
        subst (HasChannels (netlist c.args.nodes.now c.args.links.now) c.loop-a.a Output) outs c.in_ok-outs.ensures.1,
      );
      into =
          subst (λ vs. IsPortTable g.A.Actor.steps (netlist c.args.nodes.now c.args.links.now) Input (c.loop-a.a + 1)
          (lists vs)) (sym c.in_ok-push.ensures.items)
          (table_push g.A.Actor.steps (netlist c.args.nodes.now c.args.links.now) Input c.loop-a.a c.loop-a.into.items
          c.in_ok-ins.ins c.loop-a.invariant.into
          (c.in_ok-ins.ensures.0 ∙ ap (λ k. map (channel_at (netlist c.args.nodes.now c.args.links.now) Input
          c.loop-a.a) (range_with_len 0 k)) ins));
      out_of =
          subst (λ vs. IsPortTable g.A.Actor.steps (netlist c.args.nodes.now c.args.links.now) Output (c.loop-a.a + 1)
          (lists vs)) (sym c.in_ok-push-2.ensures.items)
          (table_push g.A.Actor.steps (netlist c.args.nodes.now c.args.links.now) Output c.loop-a.a
          c.loop-a.out_of.items c.in_ok-outs.outs c.loop-a.invariant.out_of
          (c.in_ok-outs.ensures.0 ∙ ap (λ k. map (channel_at (netlist c.args.nodes.now c.args.links.now) Output
          c.loop-a.a) (range_with_len 0 k)) outs));
    }

pub returns : goal.returns
returns g c =
    let all : c.loop-a.a ≡ length c.args.nodes.now = omega arith in (
      subst (HasPorts g.A.Actor.steps (netlist c.args.nodes.now c.args.links.now)) all c.loop-a.invariant.joined,
      subst (λ m. IsPortTable g.A.Actor.steps (netlist c.args.nodes.now c.args.links.now) Input m
          (lists c.loop-a.into.items)) all c.loop-a.invariant.into,
      subst (λ m. IsPortTable g.A.Actor.steps (netlist c.args.nodes.now c.args.links.now) Output m
          (lists c.loop-a.out_of.items)) all c.loop-a.invariant.out_of,
    )
