use Rattle.std.proofs.Common.{◌≡◌, length, get_or, sym, ap, ◌∙◌, subst, arith}
use Rattle.std.proofs.lemmas.List.{take_all}
use Rattle.sdf_graph.specs.Rates.{rates}
use Rattle.sdf_graph.specs.Sequences.{times, IsAdmissible}
use Rattle.sdf_prec.specs.Tables.{order, sequence, Stands, IsValid, IsOfBlock, IsGreatestHeld}
use Rattle.sdf_prec.proofs.RowMarks.{in_order}
use Rattle.sdf_prec.proofs.Theorems.{orders_are_admissible}
use Rattle.sdf_prec.proofs.table.Table.of_rows.Goals as goal

pub homes-requires : goal.homes-requires
homes-requires c =
    let rs = c.args.rows.rows in
    let v : IsValid (rates c.args.graph.now) c.requires.0 rs = c.requires.1 in
    λ i f l st.
    let all : Stands (order rs) f = subst (λ xs. Stands (order xs) f) (take_all (length rs) rs (omega arith))
    (in_order rs i (length rs) f l l st) in
    let known : IsOfBlock (rates c.args.graph.now) c.requires.0 f =
    subst (IsOfBlock (rates c.args.graph.now) c.requires.0) all.2 (v.known all.0 all.1) in
    omega (arith, known.0, c.actors.ensures.count)

pub capacities-requires-clause-admissible : goal.capacities-requires-clause-admissible
capacities-requires-clause-admissible c =
    let r = rates c.args.graph.now in
    let rs = c.args.rows.rows in
    subst (IsAdmissible r) (sym (c.deref.ensures.value ∙ c.in_ok-order.ensures))
    (orders_are_admissible r c.requires.0 rs c.requires.1).0

pub capacities-requires-clause-few : goal.capacities-requires-clause-few
capacities-requires-clause-few c =
    let rs = c.args.rows.rows in
    let order_is : c.deref.result.now ≡ sequence rs = c.deref.ensures.value ∙ c.in_ok-order.ensures in
    λ a l. omega (
      arith,
      ap (λ w. times w a) order_is,
      (orders_are_admissible (rates c.args.graph.now) c.requires.0 rs c.requires.1).1 a l,
      c.requires.2 a,
    )

pub returns-clause-exact : goal.returns-clause-exact
returns-clause-exact c =
    let r = rates c.args.graph.now in
    record {
      order_is = c.in_ok-order.ensures;
      homes_all = c.in_ok-homes.ensures.all ∙ c.actors.ensures.count;
      homes_each = λ a j l. c.in_ok-homes.ensures.each a j (omega (arith, l, c.actors.ensures.count));
      caps_all = c.in_ok-caps.ensures.0;
      caps_each = λ k l. subst (λ w. IsGreatestHeld r w k (get_or c.in_ok-caps.caps.items k 0)) c.deref.ensures.value
          (c.in_ok-caps.ensures.1 k l);
    }
