use Rattle.std.proofs.Common.{◌≡◌, ℕ, ◌+◌, get_or, set, length, replicate, Option, Some, None, ap, ◌∙◌, arith}
use Rattle.std.proofs.lemmas.List.{length-set, length-replicate, get_or_read}
use Rattle.sdf_prec.specs.declared.firing.Firing.{Firing}
use Rattle.sdf_prec.specs.ByHomes.{firing_at}
use Rattle.sdf_prec.proofs.Capacities.{counts_more}
use Rattle.sdf_prec.proofs.Standings.{some_within}
use Rattle.sdf_prec.proofs.Placing.{times_small, by_homes_more}
use Rattle.sdf_prec.proofs.RowsIn.{cleared}
use Rattle.sdf_prec.proofs.by_homes.rows_of.Goals as goal

pub overflow_add-number : goal.overflow_add-number
overflow_add-number c =
    let w = c.args.order.now in
    let i : ℕ = c.loop-actor.actor-index in
    let a : ℕ = get_or w i 0 in
    let known = c.requires.known i c.loop-actor-test.true in
    let read = get_or_read c.loop-actor.done.items a c.index-number.result.now
    (omega (arith, known, c.loop-actor.invariant.each)) c.index-number.ensures 0 in
    omega (
      arith,
      read,
      c.loop-actor.invariant.done a known,
      times_small w i a (omega (arith, c.loop-actor-test.true)),
      c.loop-actor-test.true,
      c.requires.few,
    )

pub home_of-home-requires : goal.home_of-home-requires
home_of-home-requires c =
    let home = c.requires.homed (get_or c.args.order.now c.loop-actor.actor-index 0)
    (c.requires.known c.loop-actor.actor-index c.loop-actor-test.true) in
    some_within c.args.homes.now (get_or c.args.order.now c.loop-actor.actor-index 0) home.0 home.1

pub index_mut-requires-in-loop-actor : goal.index_mut-requires-in-loop-actor
index_mut-requires-in-loop-actor c =
    let home = c.requires.homed (get_or c.args.order.now c.loop-actor.actor-index 0)
    (c.requires.known c.loop-actor.actor-index c.loop-actor-test.true) in
    omega (
      arith,
      c.home_of-home.ensures home.0 home.1,
      home.2,
      c.loop-actor.row.ok.0,
      ap length c.loop-actor.invariant.empty,
      length-replicate {A = Option Firing} c.args.m None,
    )

pub push-requires-clause-some : goal.push-requires-clause-some
push-requires-clause-some c =
    let home = c.requires.homed (get_or c.args.order.now c.loop-actor.actor-index 0)
    (c.requires.known c.loop-actor.actor-index c.loop-actor-test.true) in
    omega (
      arith,
      c.home_of-home.ensures home.0 home.1,
      home.2,
      c.loop-actor.row.ok.0,
      ap length c.loop-actor.invariant.empty,
      length-replicate {A = Option Firing} c.args.m None,
      c.deref.ensures.len,
    )

pub index_mut-requires-in-loop-actor-2 : goal.index_mut-requires-in-loop-actor-2
index_mut-requires-in-loop-actor-2 c =
    let home = c.requires.homed (get_or c.args.order.now c.loop-actor.actor-index 0)
    (c.requires.known c.loop-actor.actor-index c.loop-actor-test.true) in
    omega (
      arith,
      c.home_of-home.ensures home.0 home.1,
      home.2,
      c.loop-actor.row.ok.0,
      ap length c.loop-actor.invariant.empty,
      length-replicate {A = Option Firing} c.args.m None,
    )

pub loop-actor-preserved : goal.loop-actor-preserved
loop-actor-preserved c =
    let w = c.args.order.now in
    let i : ℕ = c.loop-actor.actor-index in
    let a : ℕ = get_or w i 0 in
    let number : ℕ = c.index-number.result.now in
    let done = c.loop-actor.done.items in
    let known = c.requires.known i c.loop-actor-test.true in
    let home = c.requires.homed a known in
    let read = get_or_read done a number (omega (arith, known, c.loop-actor.invariant.each)) c.index-number.ensures 0 in
    let its : record { actor = a; number = number } ≡ firing_at w i =
    (λ k. record { actor = a; number = (read ∙ c.loop-actor.invariant.done a known) k }) in
    let at = c.home_of-home.ensures home.0 home.1 in
    let is : c.deref.result.now ≡ set (replicate c.args.m None) home.0 (Some (firing_at w i)) =
    c.deref.ensures.value ∙ (λ k. set (c.loop-actor.invariant.empty k) (at k) (Some (its k))) in
    record {
      each = length-set done a (number + 1) ∙ c.loop-actor.invariant.each;
      done = counts_more w done i c.args.actors (number + 1) c.loop-actor-test.true known
          c.loop-actor.invariant.each c.loop-actor.invariant.done (ap (λ k. k + 1) read);
      rows = rw c.in_ok-push.ensures.rows
          (by_homes_more c.args.homes.now c.args.m w i home.0 c.loop-actor.rows.rows
          c.deref.result.now c.loop-actor-test.true c.loop-actor.invariant.rows home.1 home.2 is);
      wide = c.push.ensures.width ∙ c.loop-actor.invariant.wide;
      empty = ap (λ cells. set (set cells c.home_of-home.result
          (Some (record { actor = a; number = number }))) c.home_of-home.result None) c.loop-actor.invariant.empty
          ∙ cleared c.args.m c.home_of-home.result (Some (record { actor = a; number = number }));
    }
