-- From one quiescent state to the next.
use Rattle.std.proofs.Common.{◌≡◌, ℕ, ◌+◌, ◌-◌, ◌≤◌, ◌<◌, List, [], ◌∷◌, length, take, sym, ap, ◌∙◌, subst, inl, inr}
use Rattle.std.proofs.Common.{◌⊎◌, arith}
use Rattle.std.proofs.lemmas.List.{take_all, take-take}
use Rattle.std.proofs.lemmas.Bool.{cases_lt}
use Rattle.sdf_actor.specs.Steps.{Steps}
use Rattle.sdf_actor.specs.Histories.{Wiring, Answers, taken, put, taken_before, IsWired}
use Rattle.sdf_actor.specs.Nets.{Netlist, node, wiring, answers, IsNet, IsHistoryOf}
use Rattle.sdf_actor.proofs.Theorems.{nets_are_wired, put_stays, taken_stays}
use Rattle.sdf_rings.specs.Machine.{Machine, Event, Take, Put, at_start, happens, IsAllowed, IsRun, after}
use Rattle.sdf_rings.specs.MachineLaws.{blocks_left, Idle, resting, firings, capacity, IsQuiescent, IsStateOf, HasGrown}
use Rattle.sdf_rings.specs.MachineLaws.{IsWithin, IsMachinePlan, MachinePlan, IsLike, QuiescentReached}
use Rattle.sdf_rings.specs.MachineLaws.{QuiescentIsReached}
use Rattle.sdf_rings.proofs.Kept.{Keeps, keeps_start, keeps_run, last_agrees}
use Rattle.sdf_rings.proofs.Plans.{sequence_of, plan_sequence, room_first}
use Rattle.sdf_rings.proofs.Progress.{goes_on}
use Rattle.sdf_rings.proofs.Reaches.{runs_to_end}
use Rattle.sdf_rings.proofs.Folds.{state_is, put_is}

-- what is allowed within fewer firings is allowed within more
allowed_more : {A : Type 0} (f : Wiring A) → IsWired f → (k m cap : ℕ → ℕ) →
    ((a : ℕ) → a < f.rates.actors → k a ≤ m a) → (s : Machine A) (e : Event) → IsAllowed f k cap s e →
    IsAllowed f m cap s e
allowed_more f ok k m cap more s (Take c) h = record {
  known = h.known;
  left = omega (arith, h.left, more (f.rates.target c) (ok.sound.target_in c h.known));
  taken = h.taken;
  put = h.put;
  holds = h.holds;
  own = h.own;
}
allowed_more f ok k m cap more s (Put c) h = record {
  known = h.known;
  left = omega (arith, h.left, more (f.rates.source c) (ok.sound.source_in c h.known));
  taken = h.taken;
  put = h.put;
  room = h.room;
  own = h.own;
}

run_more : {A : Type 0} (f : Wiring A) → IsWired f → (x : Answers A) (k m cap : ℕ → ℕ) →
    ((a : ℕ) → a < f.rates.actors → k a ≤ m a) → (s : Machine A) (es : List Event) → IsRun f x k cap s es →
    IsRun f x m cap s es
run_more f ok x k m cap more s [] run = tt
run_more f ok x k m cap more s (e ∷ es) run = (
  allowed_more f ok k m cap more s e run.0,
  run_more f ok x k m cap more (happens f x s e) es run.1,
)

module _ {A S T : Type 0} (s : Steps A S T) (n : Netlist A T) (good : IsNet s n)
    (inputs : List (List T)) (cap : ℕ → ℕ) (x y : Idle S T)
    (rest : IsQuiescent s n inputs cap x) (grown : HasGrown s n inputs x y) where
  abbrev f : Wiring T
  f = wiring s n

  ok : IsWired (wiring s n)
  ok = nets_are_wired s n good

  -- what node a took before stays
  taken_within : (a : ℕ) → a < length n.nodes → (c : ℕ) → c < length n.wires → f.rates.target c ≡ a →
      f.rates.consumed c (x.done a) ≤ length (x.lists c)
  taken_within a l c h e = subst (λ b. f.rates.consumed c (x.done b) ≤ length (x.lists c)) e
      (omega (arith, rest.history.enough c h, rest.history.lengths c h))

  past_stays : (a i : ℕ) → a < length n.nodes → i ≤ x.done a → taken_before f x.lists a i ≡ taken_before f y.lists a i
  past_stays a i l h = taken_stays s n x.lists y.lists a i good l
      (λ c k e. let rise : f.rates.consumed c i ≤ f.rates.consumed c (x.done a) =
      ok.sound.consumed_rises c i (x.done a) h in omega (arith, taken_within a l c k e)) grown.kept

  -- the equations of the history hold of lists that go on
  steps_stay : (a i : ℕ) → a < length n.nodes → i < x.done a →
      put f y.lists a i ≡ answers s n inputs a (taken_before f y.lists a i) (taken f y.lists a i)
  steps_stay a i l h =
      let past : taken_before f x.lists a i ≡ taken_before f y.lists a i = past_stays a i l (omega arith) in
      let next : taken_before f x.lists a (i + 1) ≡ taken_before f y.lists a (i + 1) =
      past_stays a (i + 1) l (omega arith) in
      let now : taken f x.lists a i ≡ taken f y.lists a i = last_agrees f x.lists y.lists a i past next in
      let puts : put f x.lists a i ≡ put f y.lists a i = put_stays s n x.lists y.lists a i good l
      (λ c k e.
      let in_done : i + 1 ≤ x.done (f.rates.source c) =
      subst (λ b. i + 1 ≤ x.done b) (sym e) (let g : i + 1 ≤ x.done a = omega arith in g) in
      let rise : f.rates.produced c (i + 1) ≤ f.rates.produced c (x.done (f.rates.source c)) =
      ok.sound.produced_rises c (i + 1) (x.done (f.rates.source c)) in_done in
      omega (arith, rest.history.lengths c k)) grown.kept in
      let old : put f x.lists a i ≡ answers s n inputs a (taken_before f x.lists a i) (taken f x.lists a i) =
      rest.history.steps a i l h in
      sym puts ∙ (old ∙ (ap (λ b. answers s n inputs a b (taken f x.lists a i)) past
      ∙ ap (answers s n inputs a (taken_before f y.lists a i)) now))

  -- each node's state before is that after what it took of the longer lists
  state_stays : (a : ℕ) → a < length n.nodes → IsStateOf s (node n a) (taken_before f y.lists a (x.done a)) (x.states a)
  state_stays a l = subst (λ b. IsStateOf s (node n a) b (x.states a)) (past_stays a (x.done a) l (omega arith))
      (rest.states a l)

  steps_later : (a i : ℕ) → a < length n.nodes → i < y.done a → x.done a ≤ i →
      put f y.lists a i ≡ answers s n inputs a (taken_before f y.lists a i) (taken f y.lists a i)
  steps_later a i l h late =
      let j : ℕ = i - x.done a in
      let e : x.done a + j ≡ i = omega arith in
      subst (λ i. put f y.lists a i ≡ answers s n inputs a (taken_before f y.lists a i) (taken f y.lists a i)) e
      (grown.puts a j l (omega arith) ∙
      put_is s f y.lists a inputs (node n a) (x.done a) j (x.states a) (taken f y.lists a (x.done a + j))
      (state_stays a l))

  begins_longer : (c : ℕ) → c < length n.wires → x.lists c ≡
      take (f.rates.initial c + f.rates.produced c (x.done (f.rates.source c))) (y.lists c)
  begins_longer c l = grown.kept c l ∙ ap (λ j. take j (y.lists c)) (rest.history.lengths c l)

  pub history_later : IsHistoryOf s n inputs y.done y.lists
  history_later = record {
    begins = λ c l. sym (ap (take (f.rates.initial c)) (begins_longer c l)
        ∙ take-take (f.rates.initial c) (f.rates.initial c + f.rates.produced c (x.done (f.rates.source c)))
        (y.lists c) (omega arith)) ∙ rest.history.begins c l;
    lengths = grown.lengths;
    enough = λ c l. omega (arith, grown.enough c l, grown.lengths c l);
    steps = λ a i l h. go a i l h (cases_lt i (x.done a));
  }
    where
      go : (a i : ℕ) → a < length n.nodes → i < y.done a → (i < x.done a) ⊎ (x.done a ≤ i) →
          put f y.lists a i ≡ answers s n inputs a (taken_before f y.lists a i) (taken f y.lists a i)
      go a i l h (inl early) = steps_stay a i l early
      go a i l h (inr late) = steps_later a i l h late

  pub quiescent_later : IsWithin s n cap (resting s n y) → IsQuiescent s n inputs cap y
  quiescent_later within = record {
    history = history_later;
    states = λ a l. state_is s f y.lists a (node n a) (x.done a) (y.done a - x.done a) (y.done a) (x.states a)
        (y.states a) (omega (arith, grown.more a l)) (state_stays a l) (grown.states a l);
    within = within;
  }

  pub keeps_resting : Keeps f y.done cap y.lists (resting s n x)
  keeps_resting = record {
    counts = record {
      took_in = λ c l. grown.more (f.rates.target c) (ok.sound.target_in c l);
      gave_in = λ c l. grown.more (f.rates.source c) (ok.sound.source_in c l);
      enough = rest.history.enough;
      room = λ c l. omega (arith, rest.within c l, rest.history.lengths c l);
    };
    lists = begins_longer;
  }

module _ {A S T : Type 0} (s : Steps A S T) where
  module _ (n : Netlist A T) (inputs : List (List T)) (p : MachinePlan) (b : ℕ)
      (plan : IsMachinePlan s n p) (y : Idle S T)
      (quiet : IsQuiescent s n inputs (capacity p) y)
      (short : (a : ℕ) → a < length n.nodes → y.done a ≤ firings p b a) where
    -- from where the history is kept a run leads to the quiescent state
    leads : (start : Machine T) → Keeps (wiring s n) y.done (capacity p) y.lists start →
        (es : List Event) × IsRun (wiring s n) (answers s n inputs) (firings p b) (capacity p) start es
        × IsLike n (after (wiring s n) (answers s n inputs) start es) (resting s n y)
    leads start keeps =
        let f = wiring s n in
        let ok = nets_are_wired s n plan.net in
        let cap : ℕ → ℕ = capacity p in
        let later = quiet.history in
        let seq = plan_sequence s n p b plan in
        let cap_y : (c : ℕ) → c < f.rates.channels →
        f.rates.initial c + f.rates.produced c (y.done (f.rates.source c)) ≤
        cap c + f.rates.consumed c (y.done (f.rates.target c)) =
        (λ c l. omega (arith, quiet.within c l, later.lengths c l)) in
        let goes = (λ (m : Machine T). goes_on f ok y.done cap (sequence_of p b) seq.admissible later.enough
        cap_y seq.room m (λ a l. omega (arith, short a l, seq.counts a l))) in
        let run = runs_to_end f (answers s n inputs) y.done cap goes (blocks_left f y.done start f.rates.channels) start
        (omega arith) in
        let end : Machine T = after f (answers s n inputs) start run.0 in
        let kept : Keeps f y.done cap y.lists end = keeps_run s n plan.net inputs y.done cap y.lists later start
        run.0 keeps run.1 in
        let gave : (c : ℕ) → c < f.rates.channels → end.gave c ≡ y.done (f.rates.source c) =
        (λ c l. omega (arith, kept.counts.gave_in c l, (run.2 c l).1)) in (
          run.0,
          run_more f ok (answers s n inputs) y.done (firings p b) cap short start run.0 run.1,
          record {
            took = λ c l. omega (arith, kept.counts.took_in c l, (run.2 c l).0);
            gave = gave;
            lists = λ c l. kept.lists c l ∙ (ap (λ j. take (f.rates.initial c + f.rates.produced c j)
                (y.lists c)) (gave c l) ∙
                take_all (f.rates.initial c + f.rates.produced c (y.done (f.rates.source c))) (y.lists c)
                (omega (arith, later.lengths c l)));
          },
        )

  pub quiescent_reached : QuiescentReached s
  quiescent_reached n inputs p b x y plan rest grown short within =
      let quiet = quiescent_later s n plan.net inputs (capacity p) x y rest grown within in (
        quiet,
        leads n inputs p b plan y quiet short (resting s n x)
            (keeps_resting s n plan.net inputs (capacity p) x y rest grown),
      )

  pub quiescent_is_reached : QuiescentIsReached s
  quiescent_is_reached n inputs p b x plan quiet short =
      leads n inputs p b plan x quiet short (at_start (wiring s n))
      (keeps_start s n plan.net inputs x.done (capacity p) x.lists quiet.history
      (room_first (wiring s n).rates (firings p b) (capacity p) (sequence_of p b) (nets_are_wired s n plan.net).sound
      (plan_sequence s n p b plan)))
