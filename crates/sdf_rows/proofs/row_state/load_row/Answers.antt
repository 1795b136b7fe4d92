use Rattle.sdf_rows.proofs.Loads.{can_load, loaded_more}
use Rattle.std.proofs.Common.{length, arith}
use Rattle.sdf_rows.proofs.row_state.load_row.Goals as goal

pub load_cell-many-requires-after_bounds : goal.load_cell-many-requires-after_bounds
load_cell-many-requires-after_bounds g c = λ κs within.
    can_load c.args.row.now (length c.args.done.now) (length c.loop-column.states) (length c.loop-column.jobs)
    c.loop-column.column c.loop-column.many
    (λ j f h is. let k = c.requires.counted j f h is in
    (k.0, omega (arith, k.1, c.loop-column.invariant.loaded.states_all)))
    (omega (arith, c.requires.few, c.loop-column.invariant.loaded.jobs_all)) c.loop-column-test.true
    c.loop-column.invariant.many

pub loop-column-preserved : goal.loop-column-preserved
loop-column-preserved g c =
    let next =
    loaded_more c.args.row.now c.args.done.now c.loop-column.column c.loop-column.many c.load_cell-many.result
    c.args.states.now c.loop-column.states c.load_cell-many.new.states
    c.args.jobs.now c.loop-column.jobs c.load_cell-many.new.jobs c.loop-column-test.true c.loop-column.invariant.many
    c.loop-column.invariant.loaded c.load_cell-many.ensures in
    record { many = next.0; loaded = next.1 }
