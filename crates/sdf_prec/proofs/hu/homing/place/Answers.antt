use Rattle.std.proofs.Common.{◌≡◌, ℕ, ◌≤◌, length, get_or, subst, arith, None}
use Rattle.std.specs.Prelude.{MatchOption}
use Rattle.std.proofs.lemmas.Option.{MatchOption-at_some, MatchOption-at_none}
use Rattle.sdf_prec.specs.Tables.{firing}
use Rattle.sdf_prec.specs.Trying.{load, IsPlace}
use Rattle.sdf_prec.specs.Placing.{IsOpen, IsNowhere, IsPlacing, AreWaiting}
use Rattle.sdf_prec.proofs.Bests.{nowhere_none}
use Rattle.sdf_prec.proofs.Trial.{placing_waits, placing_stands, waiting_waits, waiting_stands}
use Rattle.sdf_prec.proofs.hu.homing.place.Goals.{in-Some, in_default}
use Rattle.sdf_prec.proofs.hu.homing.place.Goals as goal

pub loop-firing-preserved : goal.loop-firing-preserved
loop-firing-preserved c =
    let u = c.args.until.now in
    let queue = c.args.queue.now in
    let i : ℕ = c.loop-firing.firing-index in
    let cells = c.loop-firing.cells.items in
    let homes = c.loop-firing.homes in
    let weight : ℕ → ℕ = λ a. get_or c.args.weights.now a 0 in
    let v = c.loop-firing.invariant in
    let home = get_or homes (firing queue i).actor None in
    let found = subst (λ k. MatchOption c.column_for.result (IsNowhere (length u) (IsOpen u c.args.now cells) home)
    (IsPlace (length u) (IsOpen u c.args.now cells) (load k weight (λ a. get_or homes a None)) home)) v.placed.all
    (subst (λ cs. MatchOption c.column_for.result (IsNowhere (length u) (IsOpen u c.args.now cs) home)
    (IsPlace (length u) (IsOpen u c.args.now cs) (load (length homes) weight (λ a. get_or homes a None)) home))
    c.deref.ensures.value c.column_for.ensures) in
    elim c.match-column_for.branch [
      | in-Some w ↦
          let place = MatchOption-at_some _ _ w.in-Some.column w.in-Some.is found in
          rw (w.homes-is, w.cells-is) (record {
            placed = placing_stands (length c.args.homes.now) (length u) weight (λ j. get_or u j 0 ≤ c.args.now)
                (λ a. get_or c.args.homes.now a None) queue i cells homes c.requires.once
                c.loop-firing-test.true v.placed
                w.in-Some.column place (c.requires.known i c.loop-firing-test.true);
            waiting = waiting_stands u c.args.now queue i cells homes w.in-Some.column
                (load (length c.args.homes.now) weight (λ a. get_or homes a None)) v.waiting place v.placed.wide;
          })
      | in_default w ↦
          let nowhere = MatchOption-at_none _ _ w.in_default.is found in
          rw (w.homes-is, w.cells-is) (record {
            placed = placing_waits (length c.args.homes.now) (length u) weight (λ j. get_or u j 0 ≤ c.args.now)
                (λ a. get_or c.args.homes.now a None) queue i cells homes c.requires.once
                c.loop-firing-test.true v.placed
                (nowhere_none (length u) (IsOpen u c.args.now cells)
                (load (length c.args.homes.now) weight (λ a. get_or homes a None)) home nowhere);
            waiting = waiting_waits u c.args.now queue i cells homes v.waiting nowhere;
          })
    ]

pub returns-clause-placed : goal.returns-clause-placed
returns-clause-placed c =
    let end : c.loop-firing.firing-index ≡ length c.args.queue.now = omega arith in
    subst (λ i. IsPlacing (length c.args.homes.now) (length c.args.until.now) (λ a. get_or c.args.weights.now a 0)
    (λ j. get_or c.args.until.now j 0 ≤ c.args.now) (λ a. get_or c.args.homes.now a None) c.args.queue.now i
    c.loop-firing.cells.items c.loop-firing.homes) end c.loop-firing.invariant.placed

pub returns-clause-waiting : goal.returns-clause-waiting
returns-clause-waiting c =
    let end : c.loop-firing.firing-index ≡ length c.args.queue.now = omega arith in
    subst (λ i. AreWaiting c.args.until.now c.args.now c.args.queue.now i c.loop-firing.cells.items c.loop-firing.homes)
    end c.loop-firing.invariant.waiting
