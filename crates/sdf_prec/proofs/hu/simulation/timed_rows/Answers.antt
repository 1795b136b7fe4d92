use Rattle.std.proofs.Common.{◌≡◌, ◌≤◌, ◌<◌, [], length, get_or, sum, sym, ap, ◌∙◌, subst, arith}
use Rattle.std.proofs.lemmas.List.{length-replicate}
use Rattle.sdf_graph.specs.Rates.{GraphValue, rates}
use Rattle.std.proofs.lemmas.Grind.{common_steps}
use Rattle.sdf_graph.specs.CountsValue.{CountsValue}
use Rattle.sdf_prec.specs.Simulations.{SimulationValue, idle, IsDueTo}
use Rattle.sdf_prec.specs.Rows.{RowsValue}
use Rattle.sdf_prec.specs.Tables.{IsValid}
use Rattle.sdf_prec.specs.Numbers.{number}
use Rattle.sdf_prec.proofs.Ends.{all_stand, rows_valid}
use Rattle.sdf_prec.proofs.Shifts.{few_ended}
use Rattle.sdf_prec.proofs.hu.simulation.timed_rows.Goals as goal

pub loop-next-init : goal.loop-next-init
loop-next-init c =
    let first = c.in_ok-state.ensures in
    record {
      graph = ap (λ (t : CountsValue). t.graph) c.add_row.ensures.counts
          ∙ ap (λ (x : SimulationValue). x.counts.graph) first;
      columns = c.add_row.ensures.columns
          ∙ (ap (λ (x : SimulationValue). length x.until) first ∙ length-replicate c.args.width 0);
      wide = c.add_row.ensures.wide ∙ ap (λ (x : RowsValue). x.width) c.new-rows.ensures;
      done = c.in_ok-add_row.ensures.done;
      queue = c.in_ok-add_row.ensures.queue;
    }

pub loop-next-smaller : goal.loop-next-smaller
loop-next-smaller c =
    let v = c.loop-next.invariant in
    let its = ap (λ (g : GraphValue). g.actors) v.graph in
    let few : sum c.loop-next.state.counts.fired ≤ sum c.args.inputs.now.firings.now =
    few_ended _ _ v.done.2.floor c.next_end.ensures.state.fired_all
    (c.requires.inputs.firings_all ∙ sym its) in
    let more : sum c.loop-next.state.counts.fired < sum c.advance.new.self.counts.fired =
    c.in_ok-advance.ensures.more in
    omega arith

pub loop-next-preserved : goal.loop-next-preserved
loop-next-preserved c =
    let v = c.loop-next.invariant in
    record {
      graph = c.advance.ensures.graph ∙ v.graph;
      columns = c.advance.ensures.columns ∙ v.columns;
      wide = c.advance.ensures.wide ∙ v.wide;
      done = c.in_ok-advance.ensures.done;
      queue = c.in_ok-advance.ensures.queue;
    }

pub returns-clause-rows : goal.returns-clause-rows
returns-clause-rows c =
    let v = c.loop-next.invariant in
    let k = c.in_default.ensures.state in
    let done = rw (v.graph, v.columns) at v.done.2 in
    let sound = rw v.graph at k.sound in (
      v.done.0,
      v.done.1,
      record {
        rows_are = done.rows;
        all = all_stand done.floor _ _ c.requires.pass.0 sound c.requires.width c.requires.pass.1 done.stuck
            (λ j l. c.in_default.ensures.next j (omega (arith, l, v.columns)));
      },
    )

pub returns-clause-valid : goal.returns-clause-valid
returns-clause-valid c =
    let v = c.loop-next.invariant in
    let k = c.in_default.ensures.state in
    let done = rw (v.graph, v.columns) at v.done.2 in
    let sound = rw v.graph at k.sound in
    let all = all_stand done.floor _ _ c.requires.pass.0 sound c.requires.width c.requires.pass.1 done.stuck
    (λ j l. c.in_default.ensures.next j (omega (arith, l, v.columns))) in
    let r = rates c.args.graph.now in
    subst (IsValid r (λ a. get_or c.args.inputs.now.firings.now a 0)) v.done.1
    (rows_valid done.floor (number c.args.inputs.now.levels.now) c.args.inputs.now.homed done.rows all)

pub add_row-requires-clause-due : goal.add_row-requires-clause-due
add_row-requires-clause-due c =
    let none : [] ≡ c.new-rows.result.rows = sym (ap (λ (x : RowsValue). x.rows) c.new-rows.ensures) in
    let due : IsDueTo c.args.inputs.now (idle c.args.graph.now c.args.width) [] = grind (arith, common_steps) in
    ([], none, subst (λ (x : SimulationValue). IsDueTo c.args.inputs.now x []) (sym c.in_ok-state.ensures) due)
