use Rattle.std.proofs.Common.{ℕ, ◌<◌, get_or, set, sym, ◌∙◌, subst, refl, arith, true, false}
use Rattle.std.proofs.lemmas.Bool.{false≢true}
use Rattle.std.proofs.lemmas.List.{get_or_default, length-set}
use Rattle.sdf_graph.specs.Rates.{rates}
use Rattle.sdf_prec.specs.Numbers.{number}
use Rattle.sdf_prec.specs.Tables.{firing}
use Rattle.sdf_prec.specs.Floor.{IsNextReady}
use Rattle.sdf_prec.specs.Queued.{IsUnmarked}
use Rattle.sdf_prec.proofs.Markings.{many, fewer, unmarked_then}
use Rattle.sdf_prec.proofs.Queues.{queue_skip, queue_more, queue_all}
use Rattle.sdf_prec.proofs.hu.queue.add_ready.Goals as goal

pub add-requires-clause-each : goal.add-requires-clause-each
add-requires-clause-each c = λ p l.
    let h = c.loop-actor.invariant.queue.each (firing c.loop-actor.queue.items p) (p, l, refl) in
    rw c.requires.levels (omega (arith, h.known, c.requires.firings), h.within)

pub loop-actor-preserved-in-Continue-1 : goal.loop-actor-preserved-in-Continue-1
loop-actor-preserved-in-Continue-1 c =
    let v = c.loop-actor.invariant in
    let marks = c.loop-actor.marks in
    let i : ℕ = c.in-Some.actor in
    let level = number c.args.levels.now in
    let ready = IsNextReady (rates c.args.counts.now.graph) (λ a. get_or c.args.firings.now a 0)
    (λ a. get_or c.args.counts.now.fired a 0) (λ a. get_or c.args.started.now a 0) in
    let next : ℕ → ℕ = λ a. get_or c.args.started.now a 0 in
    rw c.in-Some.ensures.taken (record {
      queue = queue_more level ready next (λ f h. h.next) (IsUnmarked marks) (IsUnmarked (set marks i false)) i
          (unmarked_then marks i) c.loop-actor.queue.items c.add.new.queue.items
          (c.is_ready.ensures.0 c.if-is_ready.true) v.queue c.in_ok-add.ensures.sorted c.in_ok-add.ensures.stands;
      same = length-set marks i false ∙ v.same;
    })

pub loop-actor-preserved : goal.loop-actor-preserved
loop-actor-preserved c =
    let v = c.loop-actor.invariant in
    let marks = c.loop-actor.marks in
    let i : ℕ = c.in-Some.actor in
    let level = number c.args.levels.now in
    let ready = IsNextReady (rates c.args.counts.now.graph) (λ a. get_or c.args.firings.now a 0)
    (λ a. get_or c.args.counts.now.fired a 0) (λ a. get_or c.args.started.now a 0) in
    let next : ℕ → ℕ = λ a. get_or c.args.started.now a 0 in
    rw c.in-Some.ensures.taken (record {
      queue = queue_skip level ready next (λ f h. h.next) (IsUnmarked marks) (IsUnmarked (set marks i false)) i
          (unmarked_then marks i) c.loop-actor.queue.items (λ h. false≢true (c.if-is_ready.ensures.1 h)) v.queue;
      same = length-set marks i false ∙ v.same;
    })

pub loop-actor-smaller-in-Continue-1 : goal.loop-actor-smaller-in-Continue-1
loop-actor-smaller-in-Continue-1 c = subst (λ m. many m < many c.loop-actor.marks) (sym c.in-Some.ensures.taken)
    (fewer c.loop-actor.marks c.in-Some.actor c.in-Some.ensures.whose)

pub loop-actor-smaller : goal.loop-actor-smaller
loop-actor-smaller c = subst (λ m. many m < many c.loop-actor.marks) (sym c.in-Some.ensures.taken)
    (fewer c.loop-actor.marks c.in-Some.actor c.in-Some.ensures.whose)

pub returns-clause-queue : goal.returns-clause-queue
returns-clause-queue c =
    let v = c.loop-actor.invariant in
    let marks = c.loop-actor.marks in
    let level = number c.args.levels.now in
    let ready = IsNextReady (rates c.args.counts.now.graph) (λ a. get_or c.args.firings.now a 0)
    (λ a. get_or c.args.counts.now.fired a 0) (λ a. get_or c.args.started.now a 0) in
    queue_all level ready (IsUnmarked marks) c.loop-actor.queue.items
    (λ f h. get_or_default marks f.actor true false (omega (arith, h.known, v.same, c.requires.marks))
    ∙ c.in_default.ensures.whose f.actor) v.queue
