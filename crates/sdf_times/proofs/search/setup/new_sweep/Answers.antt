use Rattle.std.proofs.Common.{◌≡◌, ◌∙◌, ℕ, ◌<◌, List, length, get_or, sum, ap, arith, subst, sym, Some}
use Rattle.std.specs.List.{All}
use Rattle.std.proofs.lemmas.List.{length-replicate}
use Rattle.std.proofs.lemmas.List.Elements.{All-replicate}
use Rattle.sdf_prec.specs.Blocks.{block}
use Rattle.sdf_prec.specs.Numbers.{InBlock}
use Rattle.sdf_prec.specs.Tables.{cell}
use Rattle.sdf_prec.specs.declared.firing.Firing.{Firing}
use Rattle.sdf_times.specs.Searches.{EventsValue, IsLast}
use Rattle.sdf_times.proofs.Searching.{actors_are, cells_known, block_few, all_fire}
use Rattle.sdf_times.proofs.search.setup.new_sweep.Goals as goal

pub new-requires-clause-few : goal.new-requires-clause-few
new-requires-clause-few c =
    let r = c.requires.run in
    let few = block_few c.args.graph.now c.args.reps.now c.args.blocking r.0 c.args.table.now r.1 r.2 in
    omega (arith, ap sum c.in_ok-firings_of.ensures, few)

pub new-requires-clause-fires : goal.new-requires-clause-fires
new-requires-clause-fires c =
    let r = c.requires.run in
    subst (λ (n : List ℕ). (a : ℕ) → a < length n → 0 < get_or n a 0) (sym c.in_ok-firings_of.ensures)
    (all_fire c.args.graph.now c.args.reps.now c.args.blocking r.0 c.args.table.now r.1 r.2
    c.actors-actors.ensures.shape)

pub invariant_of-sweep : goal.invariant_of-sweep
invariant_of-sweep c =
    let r = c.requires.run in
    let v = c.in_ok-events.events in
    let firings : v.firings ≡ block c.args.blocking c.args.reps.now =
    c.in_ok-events.ensures ∙ c.in_ok-firings_of.ensures in
    let all : length v.firings ≡ c.args.graph.now.actors = ap length firings
    ∙ actors_are c.args.graph.now c.args.reps.now c.args.blocking r.0 c.args.table.now r.1 r.2 in
    let known : 0 < length v.firings = omega (arith, all, c.actors-actors.ensures.shape.some) in
    let here : 0 < length c.events.inside.firings.items =
    omega (arith, known, ap (λ (k : EventsValue). length k.firings) c.events.view_is) in
    let total : 0 < v.total = omega (
      arith,
      ap (λ (k : EventsValue). k.total) c.events.view_is,
      c.events.invariant.within 0 here,
      c.events.invariant.fires 0 here,
    ) in
    let lasts = c.in_ok-lasts.ensures.items_if_clones_equal (λ y e. e) in
    record {
      actors = ap length (c.in_ok-waits.ensures.items_if_clones_equal (λ y e. e))
          ∙ (length-replicate c.actors-actors.result 0 ∙ (c.actors-actors.ensures.count ∙ sym all));
      channels = c.in_ok-room.ensures ∙ sym c.in_ok-samples.ensures;
      each = subst (All (IsLast v)) (sym lasts)
          (All-replicate (IsLast v) c.columns.result _ (record { known = known; index = total }));
    }

pub place-requires-clause-cells : goal.place-requires-clause-cells
place-requires-clause-cells c =
    let r = c.requires.run in
    let firings = c.in_ok-events.ensures ∙ c.in_ok-firings_of.ensures in
    subst (λ (n : List ℕ). (i j : ℕ) (f : Firing) → cell c.args.table.now.rows i j ≡ Some f → InBlock n f) (sym firings)
    (cells_known c.args.graph.now c.args.reps.now c.args.blocking r.0 c.args.table.now r.1 r.2)
