use Rattle.std.proofs.Common.{◌≡◌, length, drop, slice_index, arith}
use Rattle.std.proofs.lemmas.Bool.{false≢true}
use Rattle.sdf_graph.specs.Rates.{rates}
use Rattle.sdf_sched.proofs.Updates.{same_list}
use Rattle.sdf_sched.proofs.Tested.{tested_by, whole}
use Rattle.sdf_sched.proofs.class_s.admit.Goals as goal

pub insert-requires-clause-below : goal.insert-requires-clause-below
insert-requires-clause-below c = λ a h. omega (arith, c.requires.below a h, c.requires.room)

pub returns-else-check_runnable-clause-tested : goal.returns-else-check_runnable-clause-tested
returns-else-check_runnable-clause-tested c =
    let xs = c.args.candidates.now.runnable.items in
    let ws = c.args.candidates.now.awaited.items in
    let vs = c.check_runnable.new.awaited in
    let long : length vs ≡ length ws = rw c.deref_mut.ensures.value at c.check_runnable.ensures.each in
    let others = rw c.deref_mut.ensures.value at c.check_runnable.ensures.others in
    rw (whole c.args.candidates.now.awaited.len vs (drop (length vs) ws)
    (omega (arith, long, c.args.candidates.now.awaited.ok.0)))
    (tested_by (rates c.args.counts.now.graph) (slice_index c.args.firings.now) (slice_index c.args.counts.now.fired)
    c.args.actor xs xs ws vs long others c.check_runnable.ensures.here
    (same_list xs c.requires.rising c.args.actor _ c.requires.listed
    (λ on. absurd (false≢true (c.if-check_runnable.ensures.fires.1 on)))))
