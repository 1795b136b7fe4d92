use Rattle.std.proofs.Common.{◌≡◌, ℕ, length, sum, slice_index, sym, ap, ◌∙◌, subst, arith}
use Rattle.sdf_limits.specs.declared.TheConstants.{MAX_BLOCK}
use Rattle.sdf_graph.specs.Rates.{rates}
use Rattle.sdf_graph.specs.Sequences.{repeated, IsPass}
use Rattle.sdf_sched.specs.Pick.{IsPicked}
use Rattle.sdf_sched.specs.Runs.{IsRunsChoice}
use Rattle.sdf_sched.proofs.Theorems.{runs_stay}
use Rattle.sdf_prec.specs.Blocks.{block}
use Rattle.sdf_prec.specs.ByHomes.{AreByHomes}
use Rattle.sdf_prec.proofs.Periods.{block_sum, block_pass}
use Rattle.sdf_prec.proofs.Homed.{are_homed, block_fires}
use Rattle.sdf_prec.proofs.Refusing.{one_of_all}
use Rattle.sdf_prec.proofs.by_homes.in_runs.Goals as goal

pub class_s_of-requires-clause-short : goal.class_s_of-requires-clause-short
class_s_of-requires-clause-short c =
    let firings_are : c.deref.result.now ≡ block c.args.blocking c.args.period.now.repetitions =
    c.deref.ensures.value ∙ (c.in_ok-firings.ensures ∙ ap (block c.args.blocking) c.repetitions.ensures) in
    omega (arith, ap sum firings_are, block_sum c.args.blocking c.args.period.now.repetitions, c.requires.short)

pub class_s_of-requires-clause-some : goal.class_s_of-requires-clause-some
class_s_of-requires-clause-some c =
    let r = rates c.args.graph.now in
    let w = repeated c.args.blocking c.args.period.now.order in
    let firings_are : c.deref.result.now ≡ block c.args.blocking c.args.period.now.repetitions =
    c.deref.ensures.value ∙ (c.in_ok-firings.ensures ∙ ap (block c.args.blocking) c.repetitions.ensures) in (
      w,
      subst (λ q. IsPass r (slice_index q) w) (sym firings_are)
          (block_pass c.args.graph.now c.channels.ensures.shape c.args.period.now
          c.requires.period c.args.blocking),
    )

pub table_by_order-requires-clause-pass : goal.table_by_order-requires-clause-pass
table_by_order-requires-clause-pass c =
    let r = rates c.args.graph.now in
    let q = block c.args.blocking c.args.period.now.repetitions in
    let firings_are : c.deref.result.now ≡ q = c.deref.ensures.value
    ∙ (c.in_ok-firings.ensures ∙ ap (block c.args.blocking) c.repetitions.ensures) in (
      slice_index q,
      subst (IsPass r (slice_index q)) (sym c.deref-2.ensures.value)
          (subst (λ q. IsPass r (slice_index q) c.in_ok-order.order.items) firings_are c.in_ok-order.ensures.pass),
      one_of_all q MAX_BLOCK (omega (arith, block_sum c.args.blocking c.args.period.now.repetitions, c.requires.short)),
    )

pub table_by_order-requires-clause-few : goal.table_by_order-requires-clause-few
table_by_order-requires-clause-few c =
    let firings_are : c.deref.result.now ≡ block c.args.blocking c.args.period.now.repetitions =
    c.deref.ensures.value ∙ (c.in_ok-firings.ensures ∙ ap (block c.args.blocking) c.repetitions.ensures) in
    omega (
      arith,
      ap length c.deref-2.ensures.value,
      c.in_ok-order.ensures.all,
      ap sum firings_are,
      block_sum c.args.blocking c.args.period.now.repetitions,
      c.requires.short,
    )

pub returns-clause-table : goal.returns-clause-table
returns-clause-table c =
    let r = rates c.args.graph.now in
    let q = block c.args.blocking c.args.period.now.repetitions in
    let firings_are : c.deref.result.now ≡ q = c.deref.ensures.value
    ∙ (c.in_ok-firings.ensures ∙ ap (block c.args.blocking) c.repetitions.ensures) in
    c.in_ok-table.ensures.table (slice_index q) (subst (IsPass r (slice_index q)) (sym c.deref-2.ensures.value)
    (subst (λ q. IsPass r (slice_index q) c.in_ok-order.order.items) firings_are c.in_ok-order.ensures.pass))

pub returns-clause-runs : goal.returns-clause-runs
returns-clause-runs c =
    let g = c.args.graph.now in
    let q = block c.args.blocking c.args.period.now.repetitions in
    let order = c.in_ok-order.order.items in
    let last = c.class_s_of.new.pick in
    let firings_are : c.deref.result.now ≡ q = c.deref.ensures.value
    ∙ (c.in_ok-firings.ensures ∙ ap (block c.args.blocking) c.repetitions.ensures) in
    let picked : IsPicked IsRunsChoice g (slice_index q) 0 order last =
    subst (λ (first : ℕ). IsPicked IsRunsChoice g (slice_index q) first order last) c.new.ensures
    (subst (λ q. IsPicked IsRunsChoice g (slice_index q) c.new.result order last) firings_are
    c.in_ok-order.ensures.picked) in
    record {
      order = order;
      in_runs = runs_stay g (slice_index q) order last picked;
      by = subst (λ w. AreByHomes c.args.homes.now c.args.m w c.in_ok-table.table.rows) c.deref-2.ensures.value
          c.in_ok-table.ensures.rows;
    }

pub returns-clause-homed : goal.returns-clause-homed
returns-clause-homed c =
    let r = rates c.args.graph.now in
    let q = block c.args.blocking c.args.period.now.repetitions in
    let firings_are : c.deref.result.now ≡ q = c.deref.ensures.value
    ∙ (c.in_ok-firings.ensures ∙ ap (block c.args.blocking) c.repetitions.ensures) in
    let pass : IsPass r (slice_index q) c.deref-2.result.now = subst (IsPass r (slice_index q))
    (sym c.deref-2.ensures.value)
    (subst (λ q. IsPass r (slice_index q) c.in_ok-order.order.items) firings_are c.in_ok-order.ensures.pass) in
    are_homed r (slice_index q) c.deref-2.result.now pass c.args.homes.now c.args.m
    c.requires.homed c.in_ok-table.table c.in_ok-table.ensures.rows
    (c.in_ok-table.ensures.table (slice_index q) pass).exact
    (λ a l. block_fires c.args.blocking c.args.period.now.repetitions a c.requires.some
    (c.requires.period.least.is.positive a l))
