-- Histories at the first firing and at the last.
use Rattle.std.proofs.Common.{◌≡◌, ℕ, ◌+◌, ◌*◌, ◌≤◌, ◌<◌, List, [], length, get_or, take, drop, sym, ap, ◌∙◌}
use Rattle.std.proofs.Common.{arith, add-zero, refl}
use Rattle.std.specs.List.{flat_map}
use Rattle.std.proofs.Math.Nat.{mul-le-mul_left}
use Rattle.std.proofs.lemmas.List.{take_all}
use Rattle.sdf_graph.specs.Sequences.{times}
use Rattle.sdf_actor.specs.NetStates.{state_left}
use Rattle.sdf_actor.specs.Steps.{Steps}
use Rattle.sdf_actor.specs.Histories.{Wiring, Answers, IsHistory, IsWired, taken_before}
use Rattle.sdf_actor.specs.Nets.{Netlist, node, wiring, answers, to_port}
use Rattle.sdf_actor.specs.Sides.{period_samples}
use Rattle.sdf_actor.specs.declared.sides.Lists.TheVariants.{Inputs}
use Rattle.sdf_actor.proofs.Theorems.{nets_are_wired}
use Rattle.sdf_queues.specs.RunResults.{HasInputs, periods_of}
use Rattle.sdf_queues.specs.Feeds.{SinksMakeRuns, NothingRuns}
use Rattle.sdf_queues.specs.Laws.{HistoriesBegin, SinksTakeAll, SinksMakeOutputs, NothingMakesNothing}
use Rattle.sdf_queues.proofs.Periods.{sinks_below}
use Rattle.sdf_queues.proofs.Sinks.{joined_taken, into_sink}

-- a history where nothing has fired
begun_history : {A : Type 0} (f : Wiring A) → IsWired f → (x : Answers A) → IsHistory f x (times []) f.starts
begun_history f wired x = record {
  begins = λ c l. take_all (f.rates.initial c) (f.starts c) (omega (arith, wired.starts_fit c l));
  lengths = λ c l. wired.starts_fit c l ∙ rw (wired.sound.produced_none, add-zero) refl;
  enough = λ c l. omega (arith, wired.sound.consumed_none c);
  steps = λ a i l h. absurd (omega arith);
}

-- a history at counts that are the same
pub history_along : {A : Type 0} (f : Wiring A) → IsWired f → (x : Answers A) (k m : ℕ → ℕ) (V : ℕ → List A) →
    ((a : ℕ) → a < f.rates.actors → k a ≡ m a) → IsHistory f x k V → IsHistory f x m V
history_along f wired x k m V same r = record {
  begins = r.begins;
  lengths = λ c l. r.lengths c l ∙ ap (λ i. f.rates.initial c + f.rates.produced c i)
      (same (f.rates.source c) (wired.sound.source_in c l));
  enough = λ c l.
      let from : f.rates.produced c (k (f.rates.source c)) ≡ f.rates.produced c (m (f.rates.source c)) =
      ap (f.rates.produced c) (same (f.rates.source c) (wired.sound.source_in c l)) in
      let to : f.rates.consumed c (k (f.rates.target c)) ≡ f.rates.consumed c (m (f.rates.target c)) =
      ap (f.rates.consumed c) (same (f.rates.target c) (wired.sound.target_in c l)) in
      omega (arith, r.enough c l);
  steps = λ a i l h. r.steps a i l (let e : k a ≡ m a = same a l in omega arith);
}

module _ {A S T : Type 0} (s : Steps A S T) where
  pub histories_begin : HistoriesBegin s
  histories_begin n inputs k good none =
      history_along (wiring s n) (nets_are_wired s n good) (answers s n inputs) (times []) k (wiring s n).starts
      (λ a l. sym (none a l)) (begun_history (wiring s n) (nets_are_wired s n good) (answers s n inputs))

  pub sinks_take_all : SinksTakeAll s
  sinks_take_all n V k a ext block good is = joined_taken s n (nets_are_wired s n good) V a (to_port n a 0)
      (into_sink s n a ext block is) (k a)

  pub sinks_make_outputs : SinksMakeOutputs s
  sinks_make_outputs n inputs q periods k V outputs good r same count lists_are = record {
    history = V;
    is = history_along (wiring s n) (nets_are_wired s n good) (answers s n inputs) k (periods_of q periods) V same r;
    count = count;
    each = λ a e block l is.
        lists_are a e block l is ∙
        (sinks_take_all n V k a e block good is ∙ ap
        (λ i. take ((wiring s n).rates.consumed (to_port n a 0) i) (V (to_port n a 0))) (same a l));
  }

  pub sinks_make_runs : SinksMakeRuns s
  sinks_make_runs n inputs q periods k V outputs rest good r same count lists_are left = record {
    history = V;
    is = history_along (wiring s n) (nets_are_wired s n good) (answers s n inputs) k (periods_of q periods) V same r;
    count = count;
    each = λ a e block l is.
        lists_are a e block l is ∙
        (sinks_take_all n V k a e block good is ∙ ap
        (λ i. take ((wiring s n).rates.consumed (to_port n a 0) i) (V (to_port n a 0))) (same a l));
    left = record {
      nodes = left.nodes;
      states = λ a l. left.states a l ∙ ap
          (λ i. state_left s (node n a) (taken_before (wiring s n) V a i)) (same a l);
      channels = left.channels;
      held = λ c l. left.held c l ∙ ap (λ i. drop ((wiring s n).rates.consumed c i) (V c))
          (same ((wiring s n).rates.target c) ((nets_are_wired s n good).sound.target_in c l));
    };
  }

  -- where the inputs hold no sample, no node was asked to fire
  module _ (n : Netlist A T) (q : List ℕ) (periods : ℕ) (inputs : List (List T)) (has : HasInputs n q periods inputs)
      (some : 0 < length inputs)
      (moves : 0 < period_samples n.nodes Inputs q) (empty : length (get_or inputs 0 []) ≡ 0) where
    no_periods : periods ≡ 0
    no_periods =
        let least : periods * period_samples n.nodes Inputs q ≤ 0 = omega (arith, has.enough 0 some, empty) in
        let one : periods * 1 ≤ periods * period_samples n.nodes Inputs q =
        mul-le-mul_left periods (omega (arith, moves)) in
        omega (arith, least, one)

    idle : (a : ℕ) → periods * get_or q a 0 ≡ 0
    idle a = ap (λ p. p * get_or q a 0) no_periods ∙ (let z : 0 * get_or q a 0 ≡ 0 = omega arith in z)

  pub nothing_makes_nothing : NothingMakesNothing s
  nothing_makes_nothing n q periods inputs outputs good has some moves empty count none =
      let still = idle n q periods inputs has some moves empty in
      sinks_make_outputs n inputs q periods (periods_of q periods) (wiring s n).starts outputs good
      (histories_begin n inputs (periods_of q periods) good (λ a l. still a)) (λ a l. refl) count
      (λ a ext block l is.
      none ext (omega (arith, sinks_below n a ext block l is, count)) ∙
      ap (λ i. flat_map (λ (b : List T). b) (taken_before (wiring s n) (wiring s n).starts a i)) (sym (still a)))

  pub nothing_runs : NothingRuns s
  nothing_runs n q periods inputs outputs rest good has some moves empty count none is =
      sinks_make_runs n inputs q periods (λ _. 0) is.history outputs rest good is.is
      (λ a l. sym (idle n q periods inputs has some moves empty a)) count
      (λ a ext block l at. none ext (omega (arith, sinks_below n a ext block l at, count)))
      is.left
