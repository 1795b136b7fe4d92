use Rattle.std.proofs.Common.{◌≡◌, ℕ, ◌+◌, ◌<◌, length, get_or, refl, sym, ◌∙◌, subst, arith}
use Rattle.std.proofs.lemmas.List.{length-set}
use Rattle.sdf_graph.specs.Rates.{GraphValue, rates}
use Rattle.sdf_sched.proofs.Theorems.{enabled_stays}
use Rattle.sdf_prec.specs.Queued.{IsApart}
use Rattle.sdf_prec.proofs.Starts.{ending_begins, ending_more, ending_skips, rises_more}
use Rattle.sdf_prec.proofs.Readies.{rested_more}
use Rattle.sdf_prec.proofs.hu.floor.end_firings.Goals.{then-until-column+in_ok-mark, else-until-column}
use Rattle.sdf_prec.proofs.hu.floor.end_firings.Goals as goal

pub loop-column-init : goal.loop-column-init
loop-column-init c = record {
  same = refl;
  all = refl;
  ended = ending_begins c.args.now _ _ _;
  rises = λ a. omega arith;
  marked = refl;
  rested = λ a h. record { own = refl; sources = λ k l to. refl };
}

pub fire-requires-clause-known : goal.fire-requires-clause-known
fire-requires-clause-known c = rw c.loop-column.invariant.same
    (c.requires.at_work.known c.loop-column.column c.loop-column-test.true c.if-until-column.true)

pub fire-requires-clause-enabled : goal.fire-requires-clause-enabled
fire-requires-clause-enabled c =
    let i : ℕ = c.loop-column.column in
    let v = c.loop-column.invariant in
    let work = c.requires.at_work in
    let its = c.if-until-column.true in
    let actor : ℕ = get_or c.args.whose.now i 0 in
    let same : get_or c.loop-column.counts.fired actor 0 ≡ get_or c.args.counts.now.fired actor 0 =
    v.ended.same actor (λ j l e is. let same = work.apart j i (omega (arith, c.loop-column-test.true))
    c.loop-column-test.true e its is in omega arith) in
    rw v.same (enabled_stays (rates c.args.counts.now.graph) c.requires.sound
    (λ a. get_or c.args.counts.now.fired a 0) (λ a. get_or c.loop-column.counts.fired a 0) actor (sym same)
    (λ b l. v.rises b) (work.on i c.loop-column-test.true its))

pub fire-requires-clause-room : goal.fire-requires-clause-room
fire-requires-clause-room c =
    let i : ℕ = c.loop-column.column in
    let v = c.loop-column.invariant in
    let its = c.if-until-column.true in
    let actor : ℕ = get_or c.args.whose.now i 0 in
    let same : get_or c.loop-column.counts.fired actor 0 ≡ get_or c.args.counts.now.fired actor 0 =
    v.ended.same actor (λ j l e is. let same = c.requires.at_work.apart j i (omega (arith, c.loop-column-test.true))
    c.loop-column-test.true e its is in omega arith) in
    omega (arith, same, c.requires.room actor)

pub loop-column-preserved : goal.loop-column-preserved
loop-column-preserved c =
    let r = rates c.args.counts.now.graph in
    let i : ℕ = c.loop-column.column in
    let v = c.loop-column.invariant in
    let whose : ℕ → ℕ = λ j. get_or c.args.whose.now j 0 in
    let until : ℕ → ℕ = λ j. get_or c.args.until.now j 0 in
    let old = c.args.counts.now.fired in
    let fired = c.loop-column.counts.fired in
    elim c.if-until-column.branch [
      | then-until-column+in_ok-mark w ↦
          let its : until i ≡ c.args.now = w.if-until-column.true in
          let known = c.requires.at_work.known i c.loop-column-test.true its in
          let l : whose i < length fired = omega (arith, known, v.all, c.requires.each) in
          rw (w.counts-is, w.fire.ensures, w.marks-is) (record {
            same = v.same;
            all = length-set fired (whose i) (get_or fired (whose i) 0 + 1) ∙ v.all;
            ended = ending_more c.args.now i whose until old fired v.ended l its (λ j k e is.
                let same = c.requires.at_work.apart j i (omega (arith, c.loop-column-test.true))
                c.loop-column-test.true e its is in
                omega arith);
            rises = rises_more old fired (whose i) l v.rises;
            marked = w.mark.ensures.same ∙ v.marked;
            rested = λ a h. rested_more r (whose i) (get_or fired (whose i) 0 + 1) a old fired
                (v.rested a (w.in_ok-mark.ensures.left a h))
                (subst (λ (g : GraphValue). IsApart (rates g) (whose i) a) (sym c.requires.graph)
                (w.in_ok-mark.ensures.apart a h));
          })
      | else-until-column w ↦
          rw (w.counts-is, w.marks-is) (record {
            same = v.same;
            all = v.all;
            ended = ending_skips c.args.now i whose until old fired v.ended (λ e.
                (let no' = w.if-until-column.false in absurd (no' e)));
            rises = v.rises;
            marked = v.marked;
            rested = v.rested;
          })
    ]
