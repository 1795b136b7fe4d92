use Rattle.std.proofs.Common.{◌≡◌, ℕ, ◌*◌, length, get_or, sym, ap, ◌∙◌, subst, arith}
use Rattle.sdf_limits.specs.declared.TheConstants.{MAX_BLOCK}
use Rattle.sdf_graph.specs.Rates.{rates}
use Rattle.sdf_graph.specs.Sequences.{repeated, IsPass}
use Rattle.sdf_prec.specs.Blocks.{block}
use Rattle.sdf_prec.specs.Accepting.{IsSize}
use Rattle.sdf_prec.specs.ByHomes.{AreByHomes}
use Rattle.sdf_prec.proofs.Periods.{block_sum, block_pass, repeated_length}
use Rattle.sdf_prec.proofs.Refusing.{one_of_all}
use Rattle.sdf_prec.proofs.table.Table.by_homes.Goals as goal

pub table_by_order-requires-clause-pass : goal.table_by_order-requires-clause-pass
table_by_order-requires-clause-pass c =
    let r = rates c.args.graph.now in
    let n : ℕ → ℕ = λ a. get_or (block c.args.blocking c.args.period.now.repetitions) a 0 in
    let order_is : c.deref.result.now ≡ repeated c.args.blocking c.args.period.now.order =
    c.deref.ensures.value ∙ (c.in_ok-order.ensures ∙ ap (λ w. repeated c.args.blocking w) c.order.ensures) in
    let size : IsSize c.args.blocking c.args.m c.args.period.now.repetitions =
    subst (IsSize c.args.blocking c.args.m) c.repetitions.ensures c.in_default.ensures.0 in
    let pass = block_pass c.args.graph.now c.channels.ensures.shape c.args.period.now
    c.requires c.args.blocking in (
      n,
      subst (IsPass r n) (sym order_is) pass,
      one_of_all (block c.args.blocking c.args.period.now.repetitions) MAX_BLOCK
          (omega (arith, block_sum c.args.blocking c.args.period.now.repetitions, size.short)),
    )

pub table_by_order-requires-clause-few : goal.table_by_order-requires-clause-few
table_by_order-requires-clause-few c =
    let order_is : c.deref.result.now ≡ repeated c.args.blocking c.args.period.now.order =
    c.deref.ensures.value ∙ (c.in_ok-order.ensures ∙ ap (λ w. repeated c.args.blocking w) c.order.ensures) in
    let size : IsSize c.args.blocking c.args.m c.args.period.now.repetitions =
    subst (IsSize c.args.blocking c.args.m) c.repetitions.ensures c.in_default.ensures.0 in
    omega (
      arith,
      ap length order_is,
      repeated_length c.args.blocking c.args.period.now.order,
      ap (λ n. c.args.blocking * n) c.requires.all,
      size.short,
    )

pub table_by_order-requires-clause-homed : goal.table_by_order-requires-clause-homed
table_by_order-requires-clause-homed c = λ a l. c.in_default.ensures.1 a
    (omega (arith, l, c.requires.least.is.all, ap length c.repetitions.ensures))

pub returns : goal.returns
returns c =
    let n : ℕ → ℕ = λ a. get_or (block c.args.blocking c.args.period.now.repetitions) a 0 in
    let order_is : c.deref.result.now ≡ repeated c.args.blocking c.args.period.now.order =
    c.deref.ensures.value ∙ (c.in_ok-order.ensures ∙ ap (λ w. repeated c.args.blocking w) c.order.ensures) in
    let pass = block_pass c.args.graph.now c.channels.ensures.shape c.args.period.now
    c.requires c.args.blocking in (
      subst (IsSize c.args.blocking c.args.m) c.repetitions.ensures c.in_default.ensures.0,
      c.in_ok-table.ensures.table n (subst (IsPass (rates c.args.graph.now) n) (sym order_is) pass),
      subst (λ w. AreByHomes c.args.homes.now c.args.m w c.in_ok-table.table.rows) order_is c.in_ok-table.ensures.rows,
    )
