use Rattle.std.proofs.Common.{◌≡◌, ◌+◌, ℕ, length, get_or, slice_index, subst, ap, ◌∙◌, arith}
use Rattle.std.proofs.lemmas.List.{take_all, length-map, length-set}
use Rattle.sdf_graph.specs.Sequences.{times}
use Rattle.sdf_actor.specs.Wires.{lists}
use Rattle.sdf_queues.proofs.Theorems.{firings_move_on}
use Rattle.sdf_rows.specs.Loading.{actors_of}
use Rattle.sdf_rows.specs.RowStates.{IsSettling}
use Rattle.sdf_rows.proofs.Settles.{Settling, can_settle, has_state, has_count, count_small, settled_next}
use Rattle.sdf_rows.proofs.Settles.{counts_next}
use Rattle.sdf_rows.proofs.Keeps.{kept_set}
use Rattle.sdf_rows.proofs.row_state.settle_row.Given.{Over}
use Rattle.sdf_rows.proofs.row_state.settle_row.Goals as goal
use Rattle.sdf_rows.proofs.row_state.settle_row.Goals.{In-loop-place}

here : (g : Over) (c : In-loop-place g) (many low high : ℕ → ℕ) →
    IsSettling g.A.Actor.steps c.args.scene.now.net.now (lists c.args.scene.now.inputs.now) many low high
    (actors_of c.args.jobs.now) 0 (slice_index c.args.run_state.now.done.items) c.args.run_state.now.states.items
    c.args.run_state.now.queues.items c.args.jobs.now →
    Settling g.A.Actor.steps c.args.scene.now.net.now c.args.scene.now.sizes (lists c.args.scene.now.inputs.now) many
    low high (actors_of c.args.jobs.now) c.loop-place.place c.loop-place.run_state.done.items
    c.loop-place.run_state.states.items c.loop-place.run_state.queues.items c.loop-place.jobs
here g c many low high was = record {
  good = c.requires.scene.good;
  moves = firings_move_on g.A.Actor.steps c.history_grows_by_firing.ensures;
  sizes = c.requires.scene.sizes;
  so_far = c.loop-place.invariant.settled many low high was;
  inside = omega (
    arith,
    length-map c.args.jobs.now (λ j. j.actor),
    c.loop-place-test.true,
    c.loop-place.auto.jobs,
  );
  counted = c.loop-place.invariant.counted ∙ c.requires.counted;
}

pub settle_at-requires-clause-can : goal.settle_at-requires-clause-can
settle_at-requires-clause-can g c = λ κs within.
    let b = c.requires.back in
    can_settle (here g (goal.at.settle_at-requires-clause-can g c).In-loop-place b.0 b.1 b.2 b.3)
    c.index-jobs-place.result

pub settle_at-requires-clause-state : goal.settle_at-requires-clause-state
settle_at-requires-clause-state g c = λ κs within.
    let b = c.requires.back in
    has_state (here g (goal.at.settle_at-requires-clause-state g c).In-loop-place b.0 b.1 b.2 b.3)
    c.index-jobs-place.result

pub settle_at-requires-clause-counted : goal.settle_at-requires-clause-counted
settle_at-requires-clause-counted g c = λ κs within.
    let b = c.requires.back in
    has_count (here g (goal.at.settle_at-requires-clause-counted g c).In-loop-place b.0 b.1 b.2 b.3)
    c.index-jobs-place.result

pub settle_at-requires-clause-small : goal.settle_at-requires-clause-small
settle_at-requires-clause-small g c = λ κs within.
    let b = c.requires.back in
    count_small (here g (goal.at.settle_at-requires-clause-small g c).In-loop-place b.0 b.1 b.2 b.3)
    c.index-jobs-place.result

pub loop-place-preserved : goal.loop-place-preserved
loop-place-preserved g c =
    let b = c.requires.back in
    let d = c.index-jobs-place.result in
    let now = here g (goal.at.loop-place-preserved g c).In-loop-place in
    record {
      settled = λ many low high was.
          settled_next (now many low high was) d c.settle_at.ensures.queues c.settle_at.ensures.states
          c.settle_at.ensures.done c.settle_at.new.job;
      done = counts_next (now b.0 b.1 b.2 b.3) d c.settle_at.ensures.queues c.settle_at.ensures.states
          c.settle_at.ensures.done c.settle_at.new.job c.args.run_state.now.done.items c.loop-place.invariant.done;
      counted = ap length c.settle_at.ensures.done
          ∙ (length-set _ _ _ ∙ c.loop-place.invariant.counted);
      blocks = kept_set c.args.jobs.now c.loop-place.jobs c.loop-place.place c.settle_at.new.job d
          c.loop-place.invariant.blocks (omega (arith, c.loop-place-test.true, c.loop-place.auto.jobs))
          c.settle_at.ensures.taken c.settle_at.ensures.put;
    }

pub returns-clause-settled : goal.returns-clause-settled
returns-clause-settled g c = λ many low high was.
    let e : c.loop-place.place ≡ length c.args.jobs.now =
    omega (arith, c.loop-place-test.false, c.loop-place.auto.place-end, c.loop-place.auto.jobs) in
    subst (λ i. IsSettling g.A.Actor.steps c.args.scene.now.net.now (lists c.args.scene.now.inputs.now) many low high
    (actors_of c.args.jobs.now) i (λ a. get_or c.loop-place.run_state.done.items a 0)
    c.loop-place.run_state.states.items
    c.loop-place.run_state.queues.items
    c.loop-place.jobs) e
    (c.loop-place.invariant.settled many low high was)

pub returns-clause-done : goal.returns-clause-done
returns-clause-done g c = λ a.
    let acts = actors_of c.args.jobs.now in
    let e : c.loop-place.place ≡ length c.args.jobs.now =
    omega (arith, c.loop-place-test.false, c.loop-place.auto.place-end, c.loop-place.auto.jobs) in
    c.loop-place.invariant.done a ∙ ap (λ w. get_or c.args.run_state.now.done.items a 0 + times w a)
    (take_all c.loop-place.place acts (omega (arith, e, length-map c.args.jobs.now (λ j. j.actor))))
