-- What a table asks of so many blocks.
use Rattle.std.proofs.Common.{◌≡◌, ℕ, ◌*◌, ◌≤◌, ◌<◌, ◌^◌, List, length, get_or, sym, ap, ◌∙◌, subst, arith}
use Rattle.std.specs.Prelude.{sum}
use Rattle.std.proofs.Math.Nat.{mul-le-mul, mul-le-mul_left}
use Rattle.std.proofs.lemmas.List.{get_or-map}
use Rattle.sdf_limits.specs.declared.TheConstants.{MAX_BLOCK, MAX_PATIENCE}
use Rattle.sdf_graph.specs.Rates.{rates}
use Rattle.sdf_graph.specs.Sequences.{times, repeated}
use Rattle.sdf_graph.proofs.Theorems.{graphs_are_sound, graphs_have_periods}
use Rattle.sdf_sched.specs.Period.{Schedule}
use Rattle.sdf_prec.specs.Blocks.{block}
use Rattle.sdf_prec.specs.Laws.{AreBlocks}
use Rattle.sdf_prec.specs.Tables.{TableValue, IsHomed}
use Rattle.sdf_prec.proofs.Theorems.{tables_count, tables_repeat}
use Rattle.sdf_actor.specs.declared.net_state.NetState.{NetState}
use Rattle.sdf_actor.specs.Graphs.{graph_of}
use Rattle.sdf_actor.specs.Laws.{AreCountsOf}
use Rattle.sdf_actor.specs.Nets.{Netlist}
use Rattle.sdf_actor.specs.Steps.{Steps}
use Rattle.sdf_queues.specs.RunResults.{HasInputs, AreOutputs, periods_of}
use Rattle.sdf_queues.specs.Feeds as feeds
use Rattle.sdf_queues.specs.Periods.{HasPeriod}
use Rattle.sdf_prec.specs.BlockTables.{IsTableOf}
use Rattle.sdf_rings.specs.Asks.{IsPlanned}
use Rattle.sdf_rings.specs.Outcome.{HasRunInRounds, HasEnded}
use Rattle.sdf_rings.specs.Prepared.{IsPrepared}
use Rattle.sdf_rings.specs.Rests.{RingsValue, HaveMet}
use Rattle.sdf_rings.specs.Totals.{total_left}
use Rattle.sdf_rings.proofs.Lengths.{left_few, left_some}

module _ {A S T : Type 0} (s : Steps A S T) (n : Netlist A T) (p : Schedule) (has : HasPeriod s n p) (j : ℕ)
    (t : TableValue)
    (is : IsTableOf (rates (graph_of s n)) p.repetitions j t) (b : ℕ) where
  abbrev q : List ℕ
  q = p.repetitions

  blocks : AreBlocks (rates (graph_of s n)) (λ a. get_or (block j q) a 0) t b
  blocks = tables_repeat (rates (graph_of s n)) q j is.width t b (graphs_are_sound (graph_of s n) has.shape)
      (graphs_have_periods (graph_of s n) q has.shape has.period.least.is) is.table

  pub counts_are : AreCountsOf n (repeated b t.order) (periods_of q (b * j))
  counts_are a l =
      let known : a < (rates (graph_of s n)).actors = subst (λ m. a < m) (sym has.alike.actors) l in
      let each : get_or (block j q) a 0 ≡ j * get_or q a 0 =
      get_or-map (λ (m : ℕ). j * m) q a 0 0 (omega (arith, known, has.period.least.is.all)) in
      let turn : b * j * get_or q a 0 ≡ b * (j * get_or q a 0) = omega arith in
      turn ∙ (ap (λ m. b * m) (sym each) ∙ sym (blocks.counts a known))

  pub order_long : length (repeated b t.order) ≡ b * (j * sum q)
  order_long = tables_count (rates (graph_of s n)) q j is.width t b has.period.least.is.all is.table

  pub order_few : b < 2 ^ 32 → length (repeated b t.order) < 2 ^ 64
  order_few few =
      let within : b * (j * sum q) ≤ b * MAX_BLOCK = mul-le-mul_left b is.short in
      omega (arith, order_long, within, few)

  pub some_node : 0 < length n.nodes
  some_node = subst (λ m. 0 < m) has.alike.actors has.shape.some

  pub some_asked : 0 < b → 0 < times (repeated b t.order) 0
  some_asked more =
      let known : 0 < (rates (graph_of s n)).actors = has.shape.some in
      let each : get_or (block j q) 0 0 ≡ j * get_or q 0 0 =
      get_or-map (λ (m : ℕ). j * m) q 0 0 0 (omega (arith, known, has.period.least.is.all)) in
      let one : 1 * 1 ≤ j * get_or q 0 0 = mul-le-mul is.some (has.period.least.is.positive 0 known) in
      let some : 1 ≤ j * get_or q 0 0 = omega (arith, one) in
      let all : 1 * 1 ≤ b * (j * get_or q 0 0) = mul-le-mul more some in
      omega (arith, all, ap (λ m. b * m) each, blocks.counts 0 known)

  module _ (inputs : List (List T)) (r : RingsValue A S T) (prepared : IsPrepared s n inputs t b r) where
    -- what is asked, of the net in hand
    pub asked : IsPlanned s r.net r.seats r.places (repeated b t.order) (λ c. get_or t.caps c 0)
    asked = subst (λ m. IsPlanned s m r.seats r.places (repeated b t.order) (λ c. get_or t.caps c 0))
        (sym prepared.net_is) prepared.planned

    few_left : total_left r.seats ≤ length (repeated b t.order)
    few_left = left_few s r.net r.inputs r.seats r.places prepared.rings (repeated b t.order)
        (λ c. get_or t.caps c 0) asked

    pub few_rounds : b < 2 ^ 32 → total_left r.seats < 2 ^ 64
    few_rounds few = omega (arith, few_left, order_few few)

    pub has_ended : (new : RingsValue A S T) (patience rounds : ℕ) → IsHomed t → patience ≤ MAX_PATIENCE →
        HasInputs n q (b * j) inputs →
        (new.net ≡ r.net) × (new.inputs ≡ r.inputs) × (new.places ≡ r.places) →
        ((order : List ℕ) (cap : ℕ → ℕ) → IsPlanned s r.net r.seats r.places order cap →
        IsPlanned s new.net new.seats new.places order cap) →
        HaveMet new.net new.seats new.places → total_left new.seats ≡ 0 → rounds ≤ total_left r.seats →
        (0 < total_left r.seats → 0 < rounds) →
        HasEnded s n q j t b inputs patience new rounds
    has_ended new patience rounds homed patient fits same kept met none most least =
        let net : new.net ≡ n = same.0 ∙ prepared.net_is in
        record {
          homed = homed;
          patient = patient;
          has = fits;
          net_is = net;
          inputs_are = same.1 ∙ prepared.inputs_are;
          met = met;
          none_left = none;
          planned = kept (repeated b t.order) (λ c. get_or t.caps c 0) asked;
          counts = subst (λ m. AreCountsOf m (repeated b t.order) (periods_of q (b * j))) (sym net) counts_are;
          rounds_few = omega (arith, most, few_left, order_long);
          rounds_some = λ more. least (left_some s r.net r.inputs r.seats r.places prepared.rings (repeated b t.order)
              (λ c. get_or t.caps c 0) asked 0
              (subst (λ m. 0 < length m.nodes) (sym prepared.net_is) some_node)
              (λ e d. prepared.undone 0 e d some_node) (some_asked more));
        }

module _ {A S T : Type 0} (s : Steps A S T) (n : Netlist A T) (q : List ℕ) (j : ℕ) (t : TableValue) (b : ℕ)
    (inputs : List (List T)) (patience : ℕ) (r : RingsValue A S T) (rounds : ℕ)
    (ended : HasEnded s n q j t b inputs patience r rounds) where
  -- what holds at the counts of a plan's firings holds of the run
  at_counts : (P : Netlist A T → List (List T) → (ℕ → ℕ) → Type 0) →
      ((order : List ℕ) (cap k : ℕ → ℕ) → IsPlanned s r.net r.seats r.places order cap → AreCountsOf r.net order k →
      P r.net r.inputs k) → P n inputs (periods_of q (b * j))
  at_counts P given =
      let k : ℕ → ℕ = periods_of q (b * j) in
      subst (λ is. P n is k) ended.inputs_are (subst (λ m. P m r.inputs k) ended.net_is
      (given (repeated b t.order) (λ c. get_or t.caps c 0) k ended.planned ended.counts))

  run_with : (outputs : List (List T)) → AreOutputs s n inputs (periods_of q (b * j)) outputs →
      HasRunInRounds s n q j t b inputs patience outputs rounds
  run_with outputs made = record {
    homed = ended.homed;
    patient = ended.patient;
    has = ended.has;
    outputs_are = made;
    rounds_few = ended.rounds_few;
    rounds_some = ended.rounds_some;
  }

  pub has_run : (outputs : List (List T)) → ((order : List ℕ) (cap k : ℕ → ℕ) →
      IsPlanned s r.net r.seats r.places order cap → AreCountsOf r.net order k →
      AreOutputs s r.net r.inputs k outputs) →
      HasRunInRounds s n q j t b inputs patience outputs rounds
  has_run outputs given = run_with outputs (at_counts (λ m is k. AreOutputs s m is k outputs) given)

  pub has_fed : (outputs : List (List T)) (rest : NetState T S) →
      ((order : List ℕ) (cap k : ℕ → ℕ) → IsPlanned s r.net r.seats r.places order cap → AreCountsOf r.net order k →
      feeds.HasRun s r.net r.inputs k outputs rest) →
      HasRunInRounds s n q j t b inputs patience outputs rounds
      × feeds.HasRun s n inputs (periods_of q (b * j)) outputs rest
  has_fed outputs rest given =
      let run = at_counts (λ m is k. feeds.HasRun s m is k outputs rest) given in
      (run_with outputs (record { history = run.history; is = run.is; count = run.count; each = run.each }), run)
