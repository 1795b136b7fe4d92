use Rattle.std.proofs.Common.{◌≡◌, length, drop, get_or, slice_index, sym, subst, arith}
use Rattle.std.proofs.lemmas.Bool.{false≢true}
use Rattle.std.proofs.lemmas.List.{get_or_read}
use Rattle.std.specs.List.{remove}
use Rattle.sdf_graph.specs.Rates.{rates}
use Rattle.sdf_sched.specs.ClassS.{IsTested}
use Rattle.sdf_sched.proofs.Updates.{taken_out}
use Rattle.sdf_sched.proofs.Tested.{tested_by, whole}
use Rattle.sdf_sched.proofs.class_s.dismiss.Goals as goal

pub returns-then-not-check_runnable-clause-tested : goal.returns-then-not-check_runnable-clause-tested
returns-then-not-check_runnable-clause-tested c =
    let xs = c.args.candidates.now.runnable.items in
    let ws = c.args.candidates.now.awaited.items in
    let vs = c.check_runnable.new.awaited in
    let is : c.index-actor.result.now ≡ get_or xs c.args.at 0 =
    get_or_read xs c.args.at c.index-actor.result.now c.requires.place c.index-actor.ensures 0 in
    let long : length vs ≡ length ws = rw c.deref_mut.ensures.value at c.check_runnable.ensures.each in
    let others = rw c.deref_mut.ensures.value at c.check_runnable.ensures.others in
    rw (
      c.remove.ensures.items,
      whole c.args.candidates.now.awaited.len vs (drop (length vs) ws)
          (omega (arith, long, c.args.candidates.now.awaited.ok.0)),
    )
    (subst (λ a. IsTested (rates c.args.counts.now.graph) (slice_index c.args.firings.now)
    (slice_index c.args.counts.now.fired) a xs ws (remove xs c.args.at) vs) is
    (tested_by (rates c.args.counts.now.graph) (slice_index c.args.firings.now) (slice_index c.args.counts.now.fired)
    c.index-actor.result.now xs (remove xs c.args.at) ws vs long others c.check_runnable.ensures.here
    (taken_out xs c.requires.rising c.index-actor.result.now c.args.at c.requires.place (sym is) _
    (λ on. false≢true (c.if-not-check_runnable.ensures.fires.1 on)))))
