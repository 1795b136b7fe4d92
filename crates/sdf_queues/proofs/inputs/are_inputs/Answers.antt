use Rattle.std.proofs.Common.{◌≡◌, ◌≤◌, length, vec_len, arith, refl, sym, ap, ◌∙◌, below_more}
use Rattle.std.proofs.lemmas.List.{length-map}
use Rattle.sdf_queues.specs.Lists.{list}
use Rattle.sdf_queues.proofs.Readings.{list_is, list_long}
use Rattle.sdf_queues.proofs.inputs.are_inputs.Goals as goal

pub loop-list-preserved : goal.loop-list-preserved
loop-list-preserved g c =
    let xs = c.args.inputs.now in
    let i = c.loop-list.list-index in
    let here : length (list xs i) ≡ length c.list-item.result.items =
    ap length (list_is xs i c.list-item.result c.loop-list-test.true)
    ∙ ap (λ v. length v.items) (sym c.list-item.is) in
    let first : length (list xs 0) ≡ vec_len c.index-inputs-0.result =
    list_long xs 0 c.index-inputs-0.result (omega arith) ∙ ap (λ v. vec_len v) (sym c.index-inputs-0.is) in
    let is = c.if-not-is_input.ensures.0 refl in
    let enough : c.args.least ≤ length c.list-item.result.items = is.1 in
    record {
      even = below_more (λ e. length (list xs e) ≡ length (list xs 0)) i c.loop-list.invariant.even
          (here ∙ (is.0 ∙ (c.len.ensures ∙ sym first)));
      enough = below_more (λ e. c.args.least ≤ length (list xs e)) i c.loop-list.invariant.enough
          (omega (arith, enough, here));
    }

pub returns-then-not-is_input : goal.returns-then-not-is_input
returns-then-not-is_input g c =
    let xs = c.args.inputs.now in
    let i = c.loop-list.list-index in
    let many = length-map xs (λ v. v.items) in
    let here : length (list xs i) ≡ length c.list-item.result.items =
    ap length (list_is xs i c.list-item.result c.loop-list-test.true)
    ∙ ap (λ v. length v.items) (sym c.list-item.is) in
    let first : length (list xs 0) ≡ vec_len c.index-inputs-0.result =
    list_long xs 0 c.index-inputs-0.result (omega arith) ∙ ap (λ v. vec_len v) (sym c.index-inputs-0.is) in (
      (λ e. cc),
      λ has.
          let enough : c.args.least ≤ length c.list-item.result.items =
          omega (arith, has.enough i (omega (arith, many)), here) in
          c.if-not-is_input.ensures.1 (
            sym here ∙ (has.even i (omega (arith, many))
                ∙ (first ∙ sym c.len.ensures)),
            enough,
          ),
    )
