use Rattle.std.proofs.Common.{◌≡◌, ◌+◌, ◌<◌, ℕ, List, ◌++◌, length, get_or, take, drop, sym, ap, ◌∙◌, subst, arith}
use Rattle.std.proofs.Math.Seq.{take-append_seam}
use Rattle.std.proofs.lemmas.List.{get_or-take}
use Rattle.sdf_graph.specs.Sequences.{times}
use Rattle.sdf_actor.specs.Wires.{lists}
use Rattle.sdf_prec.specs.Tables.{firings}
use Rattle.sdf_rows.specs.Loading.{AreLoaded, actors_of}
use Rattle.sdf_rows.specs.RowStates.{IsFilling}
use Rattle.sdf_rows.proofs.Between.{cells_known, filling_front, front_actors, row_keeps}
use Rattle.sdf_rows.proofs.Readings.{vec_long}
use Rattle.sdf_rows.proofs.row_state.run_row.Goals as goal
use Rattle.sdf_rows.proofs.row_state.run_row.Goals.{After-load_row-many}

loaded : (g : Rattle.sdf_rows.proofs.row_state.run_row.Given.Over) (c : After-load_row-many g) →
    AreLoaded c.args.row.now c.args.run_state.now.done.items (firings c.args.row.now) c.args.run_state.now.states.items
    c.load_row-many.new.states c.args.jobs.now c.load_row-many.new.jobs
loaded g c = subst (λ d. AreLoaded c.args.row.now d (firings c.args.row.now) c.args.run_state.now.states.items
    c.load_row-many.new.states c.args.jobs.now c.load_row-many.new.jobs) c.deref.ensures.value
    (subst (λ w. AreLoaded c.args.row.now c.deref.result.now (firings c.args.row.now) w
    c.load_row-many.new.states c.args.jobs.now c.load_row-many.new.jobs) c.deref_mut.ensures.value
    c.load_row-many.ensures.loaded)

-- the states of the run are those that were loaded
states : (g : Rattle.sdf_rows.proofs.row_state.run_row.Given.Over) (c : After-load_row-many g) →
    take c.args.run_state.now.states.len (c.load_row-many.new.states
    ++ drop (length c.load_row-many.new.states) c.args.run_state.now.states.items) ≡ c.load_row-many.new.states
states g c =
    let made = c.load_row-many.new.states in
    let more = drop (length made) c.args.run_state.now.states.items in
    ap (λ m. take m (made ++ more)) (sym ((loaded g c).states_all ∙ vec_long c.args.run_state.now.states))
    ∙ take-append_seam made more

-- the jobs at the front are those that were loaded
front_same : {X : Type 0} {many count : ℕ} {front : List X} (jobs : List X) → front ≡ take many jobs → many ≡ count →
    (i : ℕ) (d : X) → i < count → get_or front i d ≡ get_or jobs i d
front_same {many = many} jobs is all i d h = ap (λ xs. get_or xs i d) is
    ∙ get_or-take many jobs i d (omega (arith, all, h))

pub load_row-many-requires-clause-counted : goal.load_row-many-requires-clause-counted
load_row-many-requires-clause-counted g c = λ κs within j f h is.
    let b = c.requires.between in
    let known = cells_known g.A.Actor.steps c.args.scene.now.net.now
    (λ a. get_or c.args.run_state.now.done.items a 0) b.2
    c.args.row.now b.4 j f h is in
    (omega (arith, known, c.requires.counted), omega (arith, known, b.3.nodes))

pub fire_row-requires-clause-filled : goal.fire_row-requires-clause-filled
fire_row-requires-clause-filled g c = λ κs within.
    let b = c.requires.between in
    let at = (goal.at.fire_row-requires-clause-filled g c).After-load_row-many in
    let front = c.split_at_mut-front.result.0.now in
    let split = c.split_at_mut-front.ensures in
    let count = c.load_row-many.ensures.many in (
      b.0,
      b.1,
      b.2,
      subst (λ v. IsFilling g.A.Actor.steps c.args.scene.now.net.now (lists c.args.scene.now.inputs.now) b.0 b.1 b.2
          (actors_of front) 0 (λ a. get_or c.args.run_state.now.done.items a 0) v
          c.args.run_state.now.queues.items front)
          (sym (states g at))
          (filling_front b.3 b.4 c.requires.blocks c.requires.few (loaded g at) front (split.front_len ∙ count)
          (front_same c.load_row-many.new.jobs split.front count)),
    )

pub returns-clause-between : goal.returns-clause-between
returns-clause-between g c = λ many low high st is.
    let at = (goal.at.returns-clause-between g c).After-load_row-many in
    let front = c.split_at_mut-front.result.0.now in
    let split = c.split_at_mut-front.ensures in
    let count = c.load_row-many.ensures.many in
    c.fire_row.ensures.settled many low high
    (subst (λ v. IsFilling g.A.Actor.steps c.args.scene.now.net.now (lists c.args.scene.now.inputs.now) many low high
    (actors_of front) 0 (λ a. get_or c.args.run_state.now.done.items a 0) v c.args.run_state.now.queues.items front)
    (sym (states g at))
    (filling_front st is c.requires.blocks c.requires.few (loaded g at) front (split.front_len ∙ count)
    (front_same c.load_row-many.new.jobs split.front count)))

pub returns-clause-done : goal.returns-clause-done
returns-clause-done g c = λ a.
    let b = c.requires.between in
    let split = c.split_at_mut-front.ensures in
    let count = c.load_row-many.ensures.many in
    c.fire_row.ensures.done a ∙ ap (λ w. get_or c.args.run_state.now.done.items a 0 + times w a)
    (front_actors b.3 b.4 c.requires.blocks c.requires.few
    (loaded g (goal.at.returns-clause-done g c).After-load_row-many) c.split_at_mut-front.result.0.now
    (split.front_len ∙ count) (front_same c.load_row-many.new.jobs split.front count))

pub returns-clause-blocks : goal.returns-clause-blocks
returns-clause-blocks g c =
    let b = c.requires.between in
    let split = c.split_at_mut-front.ensures in
    let count = c.load_row-many.ensures.many in
    row_keeps b.3 b.4 c.requires.blocks c.requires.few
    (loaded g (goal.at.returns-clause-blocks g c).After-load_row-many) c.split_at_mut-front.result.0.now
    (split.front_len ∙ count) (front_same c.load_row-many.new.jobs split.front count)
    c.fire_row.new.jobs c.split_at_mut-front.result.1.now
    (split.back ∙ ap (λ m. drop m c.load_row-many.new.jobs) count)
    c.fire_row.ensures.blocks
