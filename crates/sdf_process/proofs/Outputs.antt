-- There is one output: its lists are those of one history, and its sound is that of one file.
use Rattle.std.proofs.Common.{◌≡◌, ℕ, ◌<◌, ℤ, List, [], length, get_or, take, sym, ap, ◌∙◌, subst, Some, None, arith}
use Rattle.std.proofs.lemmas.List.{ext_get_or}
use Rattle.sdf_actor.specs.declared.node.Node.{Node}
use Rattle.sdf_actor.specs.declared.node.Node.TheVariants.{Source, Sink, Inner}
use Rattle.sdf_actor.specs.declared.sides.Lists.TheVariants.{Outputs}
use Rattle.sdf_actor.specs.Steps.{Steps}
use Rattle.sdf_actor.specs.Nets.{Netlist, node, wiring, to_port, inputs_of, IsNet, IsHistoryOf}
use Rattle.sdf_actor.specs.Sides.{list_of}
use Rattle.sdf_actor.specs.NetFaults.{HasLists}
use Rattle.sdf_graph.specs.Rates.{rates, IsShape, IsAlike}
use Rattle.sdf_graph.specs.Sequences.{times, IsAdmissible, repeated}
use Rattle.sdf_graph.proofs.Theorems.{alike_sequences, graphs_are_sound, graphs_have_periods, one_least_period}
use Rattle.sdf_graph.proofs.Theorems.{periods_repeat}
use Rattle.sdf_sched.specs.Period.{Schedule, IsPeriodOf}
use Rattle.sdf_actor.specs.Graphs.{graph_of}
use Rattle.sdf_actor.specs.Laws.{HistoryIsUnique}
use Rattle.sdf_kit.specs.Kit.{kit_steps}
use Rattle.sdf_queues.specs.RunResults.{AreOutputs, periods_of as firings}
use Rattle.sdf_wav.specs.Sound.{Sound}
use Rattle.sdf_wav.proofs.Theorems.{one_sound}
use Rattle.sdf_file.specs.Designs.{DesignValue}
use Rattle.sdf_process.specs.Output.{io_rates_of, periods_of, input_lists, output_of}
use Rattle.sdf_process.specs.Run.{IsOutput, HasOutput}
use Rattle.sdf_process.specs.Laws.{OneOutput}

-- a node that makes a list is a sink
pub sink_of : {A : Type 0} (x : Node A) (e : ℕ) → list_of Outputs x ≡ Some e → (block : ℕ) × (x ≡ Sink e block)
sink_of (Source ext block) e is = absurd (let no : None ≡ Some e = is in cc)
sink_of (Sink ext block) e is = (block, let same : Some ext ≡ Some e = is in cc)
sink_of (Inner x) e is = absurd (let no : None ≡ Some e = is in cc)

module _ {A S T : Type 0} (s : Steps A S T) (n : Netlist A T) (inputs : List (List T)) (k : ℕ → ℕ) (net : IsNet s n)
    (has : HasLists n.nodes)
    (unique : (V W : ℕ → List T) → IsHistoryOf s n inputs k V → IsHistoryOf s n inputs k W → (c : ℕ) →
    c < length n.wires → V c ≡ W c) where
  module _ (xs ys : List (List T)) (x : AreOutputs s n inputs k xs) (y : AreOutputs s n inputs k ys) where
    at_sink : (a e block : ℕ) → a < length n.nodes → node n a ≡ Sink e block → get_or xs e [] ≡ get_or ys e []
    at_sink a e block l is =
        let port : 0 < inputs_of s (node n a) = subst (λ z. 0 < inputs_of s z) (sym is) (omega arith) in
        let same : x.history (to_port n a 0) ≡ y.history (to_port n a 0) =
        unique x.history y.history x.is y.is (to_port n a 0) (net.to_all a 0 l port) in
        x.each a e block l is ∙ (ap (take ((wiring s n).rates.consumed (to_port n a 0) (k a))) same
        ∙ sym (y.each a e block l is))

    at_list : (e : ℕ) → e < length xs → get_or xs e [] ≡ get_or ys e []
    at_list e h =
        let found = has.outputs e (omega (arith, x.count)) in
        let sink = sink_of (node n found.0) e found.2 in
        at_sink found.0 e sink.0 found.1 sink.1

    pub one_lists : xs ≡ ys
    one_lists = ext_get_or [] xs ys (x.count ∙ sym y.count) at_list

module _ (d : DesignValue) (net : IsNet kit_steps d.net) (shape : IsShape (graph_of kit_steps d.net))
    (alike : IsAlike (rates (graph_of kit_steps d.net)) (wiring kit_steps d.net).rates)
    (has : HasLists d.net.nodes) (unique : HistoryIsUnique kit_steps) where
  module _ (p : Schedule) (is : IsPeriodOf (rates (graph_of kit_steps d.net)) p) where
    -- the order again and again
    again : (b : ℕ) → IsAdmissible (wiring kit_steps d.net).rates (repeated b p.order)
        × ((a : ℕ) → a < length d.net.nodes → firings p.repetitions b a ≡ times (repeated b p.order) a)
    again b =
        let both = periods_repeat (rates (graph_of kit_steps d.net)) (λ a. get_or p.repetitions a 0) p.order b
        (graphs_are_sound (graph_of kit_steps d.net) shape)
        (graphs_have_periods (graph_of kit_steps d.net) p.repetitions shape is.least.is) is.pass in (
          alike_sequences (rates (graph_of kit_steps d.net)) (wiring kit_steps d.net).rates (repeated b p.order) alike
              both.0,
          λ a l. sym (both.1 a l),
        )

    one_history : (inputs : List (List ℤ)) (b : ℕ) (V W : ℕ → List ℤ) →
        IsHistoryOf kit_steps d.net inputs (firings p.repetitions b) V →
        IsHistoryOf kit_steps d.net inputs (firings p.repetitions b) W →
        (c : ℕ) → c < length d.net.wires → V c ≡ W c
    one_history inputs b = unique d.net inputs (repeated b p.order) (firings p.repetitions b) net
        (again b).0 (again b).1

    -- of one sound
    same_output : (s x y : Sound) → IsOutput d.net p.repetitions s x → IsOutput d.net p.repetitions s y → x ≡ y
    same_output s x y of_x of_y =
        let e = io_rates_of d.net p.repetitions in
        let ins = input_lists e s in
        let k = firings p.repetitions (periods_of e s) in
        of_x.output
        ∙ (ap (output_of e s) (one_lists kit_steps d.net ins k net has (one_history ins (periods_of e s)) of_x.lists
        of_y.lists of_x.are_outputs of_y.are_outputs)
        ∙ sym of_y.output)

    -- of one input
    same_file : (input : List ℕ) (x y : Sound) → HasOutput d.net p.repetitions input x →
        HasOutput d.net p.repetitions input y → x ≡ y
    same_file input x y of_x of_y =
        same_output of_y.sound x y
        (subst (λ s. IsOutput d.net p.repetitions s x)
        (one_sound input of_x.sound of_y.sound of_x.rest of_y.rest of_x.is_wav of_y.is_wav).0 of_x.is_output)
        of_y.is_output

  pub one_output_of : OneOutput d
  one_output_of s t input x y of_s of_t of_x of_y =
      let same : t.repetitions ≡ s.repetitions =
      one_least_period (rates (graph_of kit_steps d.net)) t.repetitions s.repetitions of_t.least of_s.least in
      same_file s of_s input x y of_x (subst (λ q. HasOutput d.net q input y) same of_y)
