-- The outputs of more periods begin with those of fewer.
use Rattle.std.proofs.Common.{◌≡◌, ℕ, ◌*◌, ◌≤◌, ◌<◌, List, [], length, map, get_or, take, sym, ap, ◌∙◌, subst, arith}
use Rattle.std.proofs.Math.Nat.{mul-le-mul_right}
use Rattle.std.proofs.lemmas.List.{get_or-map, length-map, take-take}
use Rattle.sdf_graph.specs.Sequences.{times, IsPass}
use Rattle.sdf_actor.specs.declared.node.Node.{Node}
use Rattle.sdf_actor.specs.declared.node.Node.TheVariants.{Source, Sink, Inner}
use Rattle.sdf_actor.specs.declared.sides.Lists.TheVariants.{Outputs}
use Rattle.sdf_actor.specs.Steps.{Steps}
use Rattle.sdf_actor.specs.Nets.{node, wire, wiring, answers, to_port, inputs_of, consumed_at, arrived}
use Rattle.sdf_actor.specs.Nets.{IsHistoryOf, SourceReaches, InputsReach}
use Rattle.sdf_actor.specs.Sides.{period_samples}
use Rattle.sdf_actor.specs.Laws.{HistoryExists}
use Rattle.sdf_actor.proofs.Theorems.{histories_grow, nets_are_wired, ports_have_channels}
use Rattle.sdf_queues.specs.RunResults.{periods_of}
use Rattle.sdf_queues.specs.Laws.{RunsGoOn}
use Rattle.sdf_queues.proofs.Histories.{history_along}
use Rattle.sdf_queues.proofs.Periods.{sinks_below}
use Rattle.sdf_queues.proofs.Wholes.{passes, all_read, makes}

-- sources find their samples at counts that are the same
reach_along : {A T : Type 0} (inputs : List (List T)) (k m : ℕ → ℕ) (a : ℕ) (x : Node A) → k a ≡ m a →
    SourceReaches inputs k a x → SourceReaches inputs m a x
reach_along inputs k m a (Source ext block) same h = subst (λ i. block * i ≤ length (get_or inputs ext [])) same h
reach_along inputs k m a (Sink ext block) same h = tt
reach_along inputs k m a (Inner x) same h = tt

-- the names on the left are those of RunsGoOn, which gives their types
pub runs_go_on_of : {A S T : Type 0} (s : Steps A S T) → HistoryExists s → RunsGoOn s
runs_go_on_of {T} s exists n p few many inputs later longer has less given begin made = record {
  history = short.0;
  is = short.1;
  count = length-map longer (take (few * period_samples n.nodes Outputs q)) ∙ made.count;
  each = at_sink;
}
  where
    q : List ℕ
    q = p.repetitions

    pass : (w : List ℕ) × IsPass (wiring s n).rates (periods_of q few) w
    pass = passes has few

    reaches : InputsReach n inputs (periods_of q few)
    reaches = all_read has few inputs given

    short : (V : ℕ → List T) × IsHistoryOf s n inputs (periods_of q few) V
    short = exists n inputs pass.0 (periods_of q few) has.net pass.1.0 (λ a l. sym (pass.1.1 a l)) reaches

    begins : (c : ℕ) → c < length n.wires → short.0 c ≡ take (length (short.0 c)) (made.history c)
    begins =
        histories_grow s n inputs later pass.0 (periods_of q many) has.net pass.1.0
        (λ a l. reach_along inputs (periods_of q few) (times pass.0) a (node n a) (sym (pass.1.1 a l)) (reaches a l))
        begin
        (λ a l. let less : few * get_or q a 0 ≤ many * get_or q a 0 = mul-le-mul_right (get_or q a 0) less in
        omega (arith, pass.1.1 a l))
        short.0 made.history
        (history_along (wiring s n) (nets_are_wired s n has.net) (answers s n inputs) (periods_of q few) (times pass.0)
        short.0 (λ a l. sym (pass.1.1 a l)) short.1)
        made.is

    at_sink : (a e block : ℕ) → a < length n.nodes → node n a ≡ Sink e block →
        get_or (map (take (few * period_samples n.nodes Outputs q)) longer) e [] ≡
        arrived s n (periods_of q few) short.0 a
    at_sink a e block l is =
        get_or-map (take cut) longer e [] [] (whole few).0 ∙
        (ap (take cut) (made.each a e block l is) ∙
        (take-take cut ((wiring s n).rates.consumed c (periods_of q many a)) (made.history c) within ∙
        (sym (take-take cut (length (short.0 c)) (made.history c) enough) ∙
        (ap (take cut) (sym (begins c known)) ∙ ap (λ i. take i (short.0 c)) (sym (whole few).1)))))
      where
        c : ℕ
        c = to_port n a 0

        cut : ℕ
        cut = few * period_samples n.nodes Outputs q

        port : 0 < inputs_of s (node n a)
        port = subst (λ x. 0 < inputs_of s x) (sym is) (omega arith)

        known : c < length n.wires
        known = has.net.to_all a 0 l port

        to : (wiring s n).rates.target c ≡ a
        to = ((ports_have_channels s n a 0 has.net l).0 port).0

        -- a sink takes its block each time
        takes : (i : ℕ) → (wiring s n).rates.consumed c i ≡ block * i
        takes i = ap (λ b. consumed_at s (node n b) (wire n c).to.1 i) to
            ∙ ap (λ x. consumed_at s x (wire n c).to.1 i) is

        whole : (b : ℕ) → (e < length longer) × ((wiring s n).rates.consumed c (periods_of q b a) ≡
            b * period_samples n.nodes Outputs q)
        whole b = (
          omega (arith, sinks_below n a e block l is, made.count),
          takes (periods_of q b a) ∙ makes has b a e block l is,
        )

        enough : cut ≤ length (short.0 c)
        enough =
            let at : (wiring s n).rates.consumed c (periods_of q few ((wiring s n).rates.target c)) ≡ cut =
            ap (λ b. (wiring s n).rates.consumed c (periods_of q few b)) to ∙ (whole few).1 in
            omega (arith, short.1.enough c known, short.1.lengths c known)

        within : cut ≤ (wiring s n).rates.consumed c (periods_of q many a)
        within = omega (arith, mul-le-mul_right (period_samples n.nodes Outputs q) less, (whole many).1)
