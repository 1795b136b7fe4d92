-- What a run of blocks begins with.
use Rattle.std.proofs.Common.{◌≡◌, ℕ, ◌*◌, ◌≤◌, ◌<◌, List, [], length, map, get_or, Option, refl, sym, ap, ◌∙◌, subst}
use Rattle.std.proofs.Common.{arith}
use Rattle.std.specs.Prelude.{None}
use Rattle.std.proofs.Math.Nat.{mul-le-mul_left}
use Rattle.std.proofs.lemmas.List.{get_or-map, length-map}
use Rattle.sdf_graph.specs.Rates.{rates}
use Rattle.sdf_graph.proofs.Theorems.{graphs_are_sound, graphs_have_periods}
use Rattle.sdf_sched.specs.Period.{Schedule}
use Rattle.sdf_prec.specs.Tables.{TableValue}
use Rattle.sdf_actor.specs.Steps.{Steps}
use Rattle.sdf_actor.specs.Graphs.{graph_of}
use Rattle.sdf_actor.specs.Nets.{Netlist, node, cycle_of}
use Rattle.sdf_actor.specs.Sides.{period_samples}
use Rattle.sdf_actor.specs.declared.node.Node.{Node}
use Rattle.sdf_actor.specs.declared.node.Node.TheVariants.{Source, Sink, Inner}
use Rattle.sdf_actor.specs.declared.sides.Lists.TheVariants.{Inputs, Outputs}
use Rattle.sdf_queues.specs.RunResults.{HasInputs}
use Rattle.sdf_queues.specs.Periods.{HasPeriod, CanRun}
use Rattle.sdf_prec.specs.BlockTables.{IsTableOf}
use Rattle.sdf_node.specs.Nodes.{CanBegin}
use Rattle.sdf_queues.proofs.Theorems.{nets_can_run}
use Rattle.sdf_rings.specs.Begun.{CanStart}
use Rattle.sdf_rings.specs.Prepared.{IsAsked}

module _ {A S T : Type 0} (s : Steps A S T) (n : Netlist A T) (p : Schedule)
    (period : HasPeriod s n p) (blocks j : ℕ)
    (asked : List ℕ) (asked_are : asked ≡ map (λ q. blocks * (j * q)) p.repetitions) where
  all : length p.repetitions ≡ length n.nodes
  all = period.period.least.is.all

  pub asked_long : length asked ≡ length n.nodes
  asked_long = ap length asked_are ∙ (length-map p.repetitions (λ (q : ℕ). blocks * (j * q)) ∙ all)

  many : (a : ℕ) → a < length n.nodes → get_or asked a 0 ≡ blocks * (j * get_or p.repetitions a 0)
  many a l = ap (λ w. get_or w a 0) asked_are ∙ get_or-map (λ (q : ℕ). blocks * (j * q)) p.repetitions a 0 0
      (omega (arith, all))

  -- of so many periods
  counted : (a : ℕ) → a < length n.nodes → get_or asked a 0 ≡ blocks * j * get_or p.repetitions a 0
  counted a l = let e = many a l in let turn : blocks * (j * get_or p.repetitions a 0) ≡
      blocks * j * get_or p.repetitions a 0 = omega arith in e ∙ turn

  pub can_start : (inputs : List (List T)) (room : ℕ) (filler : Option T) →
      ((a : ℕ) → a < length n.nodes → 0 < cycle_of s (node n a)) → HasInputs n p.repetitions (blocks * j) inputs →
      room ≡ blocks * j * period_samples n.nodes Outputs p.repetitions →
      (filler ≡ None → length (get_or inputs 0 []) ≡ 0) → 0 < period_samples n.nodes Inputs p.repetitions →
      0 < length inputs →
      CanStart s n inputs (λ a. get_or asked a 0) room filler
  can_start inputs room filler phases has room_is empty some first = record {
    net = period.net;
    phases = phases;
    begin = λ a l. go a l (node n a) refl;
    fillers = λ a l none.
        let e = empty none in
        let least = has.enough 0 first in
        let one : blocks * j * 1 ≤ blocks * j * period_samples n.nodes Inputs p.repetitions =
        mul-le-mul_left (blocks * j) (omega (arith, some)) in
        let zero : blocks * j ≡ 0 = omega (arith, least, e, one) in
        let nothing : blocks * j * get_or p.repetitions a 0 ≡ 0 * get_or p.repetitions a 0 =
        ap (λ m. m * get_or p.repetitions a 0) zero in
        omega (arith, counted a l, nothing);
  }
    where
      run : CanRun s n p.repetitions (blocks * j) inputs
      run = nets_can_run s n p (blocks * j) inputs period has

      go : (a : ℕ) → a < length n.nodes → (x : Node A) → node n a ≡ x → CanBegin inputs (get_or asked a 0) room x
      go a l (Source ext block) x =
          let found = run.reads a ext block l x in
          (found.0, omega (arith, found.1, ap (λ m. block * m) (counted a l)))
      go a l (Sink ext block) x = omega (arith, run.makes a ext block l x, ap (λ m. block * m) (counted a l), room_is)
      go a l (Inner y) x = tt

  pub is_asked : (t : TableValue) →
      IsTableOf (rates (graph_of s n)) p.repetitions j t → IsAsked s n t blocks (λ a. get_or asked a 0)
  is_asked t table = record {
    plan = record {
      rates = rates (graph_of s n);
      period = p.repetitions;
      blocking = j;
      width = table.width;
      table = t;
    };
    is = record {
      net = period.net;
      alike = period.alike;
      sound = graphs_are_sound (graph_of s n) period.shape;
      period = graphs_have_periods (graph_of s n) p.repetitions period.shape period.period.least.is;
      table = table.table;
    };
    table_is = refl;
    asked_are = λ a l. many a l ∙ ap (λ m. blocks * m)
        (sym (get_or-map (λ (q : ℕ). j * q) p.repetitions a 0 0 (omega (arith, all))));
  }
