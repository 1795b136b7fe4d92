-- A row's jobs, filled and then fired.
use Rattle.std.proofs.Common.{◌≡◌, ℕ, ◌≤◌, ◌<◌, List, [], ◌∷◌, ◌++◌, length, get_or, take, sym, ap, ◌∙◌, subst, arith}
use Rattle.std.specs.List.{All, sum_by}
use Rattle.std.proofs.lemmas.List.{get_or-map, length-map}
use Rattle.std.proofs.lemmas.List.Elements.{All-nil, All-from_get_or}
use Rattle.sdf_actor.specs.Steps.{Steps}
use Rattle.sdf_actor.specs.Histories.{taken, taken_before}
use Rattle.sdf_actor.specs.Nets.{Netlist, node, wiring, answer_of, IsNet}
use Rattle.sdf_node.specs.Nodes.{phase_at, takes_of, puts_of, CanStep, IsAt}
use Rattle.sdf_node.specs.declared.node.NodeState.{NodeState}
use Rattle.sdf_node.proofs.Theorems.{nodes_can_step, nodes_keep_phase}
use Rattle.sdf_rows.specs.declared.row_firing.RowFiring.{RowFiring}
use Rattle.sdf_queues.specs.QueueValue.{QueueValue}
use Rattle.sdf_queues.specs.Blocks.{samples, front}
use Rattle.sdf_queues.specs.Sizes.{SizesValue, AreSizes, at_phase, phase_of}
use Rattle.sdf_queues.proofs.Theorems.{blocks_are_counted, blocks_stand}
use Rattle.sdf_rows.specs.Jobs.{JobFits, HasFired, HaveFired}
use Rattle.sdf_rows.specs.Loading.{actors_of}
use Rattle.sdf_rows.specs.RowStates.{IsLoaded, IsBack, IsFilling, IsSettling, IsBetween, KeepBlocks}
use Rattle.sdf_rows.proofs.Jobs.{actors_are}
use Rattle.sdf_rows.proofs.Settles.{AtPlace, plan, held, ports_in, in_cycle, takes_in, takes_are}

-- all elements, each with a default of its own
pub all_from : {X : Type 0} (P : X → Type 0) (xs : List X) → ((i : ℕ) (d : X) → i < length xs → P (get_or xs i d)) →
    All P xs
all_from P [] each = All-nil P
all_from P (x ∷ xs) each = All-from_get_or P (x ∷ xs) x (λ i h. each i x h)

-- one of a row's jobs, which are filled
module _ {A S T : Type 0} {s : Steps A S T} {n : Netlist A T} (good : IsNet s n) {z : SizesValue}
    (sizes : AreSizes s n z)
    {inputs : List (List T)} {many low high k : ℕ → ℕ} {acts : List ℕ} {states : List (NodeState T S)}
    {ls : List (QueueValue T)} {jobs : List (RowFiring A T S)}
    (st : IsFilling s n inputs many low high acts 0 k states ls jobs)
    (i : ℕ) (h : i < length acts) (d : RowFiring A T S) where
  abbrev pub who : ℕ
  who = get_or acts i 0

  abbrev pub job : RowFiring A T S
  job = get_or jobs i d

  first : 0 ≤ i
  first = omega arith

  has : IsLoaded s n inputs many k st.history who job
  has = st.jobs_are i d first h

  count : length (taken_before (wiring s n) st.history who (k who)) ≡ k who
  count = blocks_are_counted s n st.history who (k who)

  -- the job is at the phase of its state
  at_phase_is : phase_at job.state ≡ job.phase
  at_phase_is =
      nodes_keep_phase s inputs (node n who) (many who) (taken_before (wiring s n) st.history who (k who))
      job.state has.state ∙
      (ap (phase_of s (node n who)) count ∙ sym has.phase)

  same_job : record job { actor = who } ≡ job
  same_job = λ e. record job { actor = sym has.actor e }

  left : k who < many who
  left = let l = st.within i first h in omega (arith, l, st.top who (st.known i h))

  here : AtPlace s n z inputs many low high acts 0 i k states ls jobs (IsLoaded s n inputs many) job.phase
  here = record { good = good; sizes = sizes; st = st; first = first; inside = h; phase_is = has.phase }

  fits_at : JobFits s n inputs z ls (record job { actor = who })
  fits_at =
      let total : ℕ = sum_by (λ c. get_or (at_phase z.takes job.phase) c 0) ((wiring s n).ins who) in
      let total_is : total ≡ takes_of s (node n who) job.phase = takes_are here in
      let can : CanStep s inputs (node n who) job.state (takes_of s (node n who) (phase_at job.state))
      (puts_of s (node n who) (phase_at job.state)) =
      nodes_can_step s inputs (node n who) (many who) (taken_before (wiring s n) st.history who (k who)) job.state
      has.state
      (sizes.some who (st.known i h)) (omega (arith, count, left)) in
      record {
        known = st.known i h;
        in_cycle = in_cycle here;
        sized = takes_in here;
        ports = ports_in here;
        held = held here;
        room = omega (
          arith,
          total_is,
          ap (takes_of s (node n who)) has.phase,
          has.blocks.taken who (k who) (st.known i h),
        );
        long = omega (arith, ap (puts_of s (node n who)) has.phase, has.blocks.put who (k who) (st.known i h));
        can = subst (λ m. CanStep s inputs (node n who) job.state m (puts_of s (node n who) job.phase)) (sym total_is)
            (subst (λ p. CanStep s inputs (node n who) job.state (takes_of s (node n who) p) (puts_of s (node n who) p))
            at_phase_is can);
      }

  pub job_fits : JobFits s n inputs z ls job
  job_fits = subst (λ j. JobFits s n inputs z ls j) same_job fits_at

  -- what it takes is the node's next block
  block_is : front (at_phase z.takes job.phase) ((wiring s n).ins who) ls ≡ taken (wiring s n) st.history who (k who)
  block_is =
      blocks_stand s n k who st.history (at_phase z.takes job.phase) (at_phase z.puts job.phase) (samples ls)
      good (st.known i h) (plan here) st.left

  pub is_back : (job' : RowFiring A T S) → HasFired s n inputs z ls job job' →
      IsBack s n inputs many k st.history who job'
  is_back job' fired =
      let past : List (List T) = taken_before (wiring s n) st.history who (k who) in
      let at : HasFired s n inputs z ls (record job { actor = who }) job' =
      subst (λ j. HasFired s n inputs z ls j job') (sym same_job) fired in
      let phase : job'.phase ≡ phase_of s (node n who) (k who) = at.phase_kept ∙ has.phase in
      record {
        actor = at.actor_kept;
        phase = phase;
        long = omega (
          arith,
          ap (puts_of s (node n who)) phase,
          at.long_kept,
          has.blocks.put who (k who) (st.known i h),
        );
        state = subst (λ b. IsAt s inputs (many who) (node n who) (past ++ b ∷ []) job'.state) block_is
            (at.at (many who) past has.state);
        put = ap (λ m. take (puts_of s (node n who) m) job'.put.items) at.phase_kept ∙
            (at.put (many who) past has.state ∙ ap (answer_of s inputs (node n who) past) block_is);
      }

-- all of them
module _ {A S T : Type 0} {s : Steps A S T} {n : Netlist A T} (good : IsNet s n) {z : SizesValue}
    (sizes : AreSizes s n z)
    {inputs : List (List T)} {many low high k : ℕ → ℕ} {states : List (NodeState T S)} {ls : List (QueueValue T)}
    {jobs : List (RowFiring A T S)} (st : IsFilling s n inputs many low high (actors_of jobs) 0 k states ls jobs) where
  acts_long : length (actors_of jobs) ≡ length jobs
  acts_long = length-map jobs (λ j. j.actor)

  pub all_fit : All (JobFits s n inputs z ls) jobs
  all_fit = all_from (JobFits s n inputs z ls) jobs (λ i d h. job_fits good sizes st i (omega (arith, acts_long)) d)

  module _ (jobs' : List (RowFiring A T S)) (all : length jobs' ≡ length jobs)
      (fired : HaveFired s n inputs z ls jobs jobs') where
    pub same_actors : actors_of jobs' ≡ actors_of jobs
    same_actors =
        actors_are jobs' (actors_of jobs) (all ∙ sym acts_long)
        (λ i d h. (fired i d (omega (arith, all))).actor_kept
        ∙ sym (get_or-map (λ (j : RowFiring A T S). j.actor) jobs i d 0 (omega (arith, all))))

    pub all_back : IsSettling s n inputs many low high (actors_of jobs) 0 k states ls jobs'
    all_back = record {
      small = st.small;
      reach = st.reach;
      top = st.top;
      history = st.history;
      is = st.is;
      channels = st.channels;
      left = st.left;
      above = st.above;
      below = st.below;
      fits = st.fits;
      nodes = st.nodes;
      known = st.known;
      apart = st.apart;
      idle = st.idle;
      jobs_are = λ i j from h.
          is_back good sizes st i h j (get_or jobs' i j) (fired i j (omega (arith, acts_long)));
      able = st.able;
      within = st.within;
    }

    pub all_back_here : IsSettling s n inputs many low high (actors_of jobs') 0 k states ls jobs'
    all_back_here = subst (λ acts. IsSettling s n inputs many low high acts 0 k states ls jobs')
        (sym same_actors) all_back

    pub fired_keep : KeepBlocks jobs jobs'
    fired_keep = record {
      all = all;
      taken = λ i j h. (fired i j h).room_kept;
      put = λ i j h. (fired i j h).long_kept;
    }

-- when all are settled, the row is over
pub row_over : {A S T : Type 0} {s : Steps A S T} {n : Netlist A T} {inputs : List (List T)} {many low high : ℕ → ℕ}
    {acts : List ℕ} {from : ℕ} {k : ℕ → ℕ} {states : List (NodeState T S)} {ls : List (QueueValue T)}
    {jobs : List (RowFiring A T S)} → IsSettling s n inputs many low high acts from k states ls jobs →
    length acts ≤ from →
    IsBetween s n inputs many low high k states ls
row_over st over = record {
  small = st.small;
  reach = st.reach;
  top = st.top;
  history = st.history;
  is = st.is;
  channels = st.channels;
  left = st.left;
  above = st.above;
  below = st.below;
  fits = st.fits;
  nodes = st.nodes;
  known = λ i h. absurd (omega arith);
  apart = λ i m h. absurd (omega arith);
  idle = λ a w l none. st.idle a w l (λ i f h e. absurd (omega arith));
  jobs_are = λ i j f h. absurd (omega arith);
  able = λ i f h. absurd (omega arith);
  within = λ i f h. absurd (omega arith);
}
