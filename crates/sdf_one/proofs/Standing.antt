-- What a runner holds, before a firing and after it.
use Rattle.std.proofs.Common.{◌≡◌, ℕ, ◌+◌, ◌*◌, ◌≤◌, ◌<◌, List, length, get_or, drop}
use Rattle.std.proofs.Common.{sym, ap, ◌∙◌, subst, arith}
use Rattle.std.specs.List.{flat_map}
use Rattle.std.proofs.lemmas.List.{length-drop, length-take-le}
use Rattle.sdf_graph.specs.Rates.{Rates}
use Rattle.sdf_graph.specs.Sequences.{IsEnabled}
use Rattle.sdf_actor.specs.declared.node.Node.TheVariants as node
use Rattle.sdf_actor.specs.Histories.{taken_before}
use Rattle.sdf_actor.specs.Nets as nets
use Rattle.sdf_actor.specs.Nets.{wire, wiring, to_port, consumed_at, answers, InputsReach}
use Rattle.sdf_one.specs.declared.work.Work.{Work}
use Rattle.sdf_queues.specs.Blocks.{samples, ArePorts, HoldBlocks}
use Rattle.sdf_queues.specs.Moves.{FitsPorts}
use Rattle.sdf_queues.specs.Sizes.{IsPlan, at_phase, phase_of}
use Rattle.sdf_queues.proofs.Theorems.{blocks_are_counted, plans_fit}
use Rattle.sdf_queues.proofs.Theorems.{sinks_take_all}
use Rattle.sdf_one.specs.Firings.{phase_at}
use Rattle.sdf_one.specs.Runs.{IsWork}
use Rattle.sdf_one.proofs.Known.{ins_all, into_sink}
use Rattle.sdf_one.proofs.Holding.{Holding}
use Rattle.sdf_one.proofs.Works.{phase_is}

-- an enabled actor takes what has come
pub enabled_within : (r : Rates) (k : ℕ → ℕ) (a : ℕ) → IsEnabled r k a → (c : ℕ) → c < r.channels → r.target c ≡ a →
    r.consumed c (k a + 1) ≤ r.initial c + r.produced c (k (r.source c))
enabled_within r k a on c l e = subst (λ n. r.consumed c (n + 1) ≤ r.initial c + r.produced c (k (r.source c)))
    (ap k e) (on c l e)

module _ {A S T Z : Type 0} (g : Holding A S T Z) (d : Work A T S) where
  open g use {s, n, net, z, sizes, inputs, many, k, a, known, works, qs, outputs, st}

  abbrev ins : List ℕ
  ins = (wiring s n).ins a

  abbrev outs : List ℕ
  outs = (wiring s n).outs a

  abbrev w : Work A T S
  w = get_or works a d

  -- the sizes of its next firing
  abbrev takes : List ℕ
  takes = at_phase z.takes (phase_at w)

  abbrev puts : List ℕ
  puts = at_phase z.puts (phase_at w)

  abbrev past : List (List T)
  past = taken_before (wiring s n) st.history a (k a)

  work : IsWork s inputs outputs (many a) (nets.node n a) past w
  work = st.each a d known

  pub count : length past ≡ k a
  count = blocks_are_counted s n st.history a (k a)

  -- so many samples has a sink taken
  pub sink_took : (ext block : ℕ) → nets.node n a ≡ node.Sink ext block →
      length (flat_map (λ (b : List T). b) past) ≡ block * k a
  sink_took ext block is =
      let c : ℕ = to_port n a 0 in
      let at = into_sink s n net a known ext block is in
      let node_is : nets.node n ((wiring s n).rates.target c) ≡ node.Sink ext block = ap (nets.node n) at.2 ∙ is in
      let size : (wiring s n).rates.consumed c (k a) ≡ block * k a =
      ap (λ x. consumed_at s x (wire n c).to.1 (k a)) node_is in
      let own : (wiring s n).rates.consumed c (k ((wiring s n).rates.target c)) ≡ (wiring s n).rates.consumed c (k a) =
      ap (λ b. (wiring s n).rates.consumed c (k b)) at.2 in
      let within : (wiring s n).rates.consumed c (k a) ≤ length (st.history c) =
      omega (arith, st.is.lengths c at.1, st.is.enough c at.1, own) in
      ap length (sinks_take_all s n st.history k a ext block net.good is)
      ∙ (length-take-le ((wiring s n).rates.consumed c (k a)) (st.history c) within ∙ size)

  pub at : phase_at w ≡ phase_of s (nets.node n a) (k a)
  at = phase_is s inputs (many a) (nets.node n a) past w outputs work ∙ ap (phase_of s (nets.node n a)) count

  pub plan : IsPlan s n a (k a) takes puts
  plan = subst (λ j. IsPlan s n a (k a) (at_phase z.takes j) (at_phase z.puts j)) (sym at) (sizes.plan a (k a) known)

  pub fits_ports : FitsPorts s n a (k a) takes puts
  fits_ports = plans_fit s n a (k a) takes puts net.good known plan

  -- what stands on a channel
  pub standing : (c : ℕ) → c < length n.wires → length (samples qs c)
      + (wiring s n).rates.consumed c (k ((wiring s n).rates.target c)) ≡
      (wiring s n).rates.initial c + (wiring s n).rates.produced c (k ((wiring s n).rates.source c))
  standing c l =
      let q : length (samples qs c) ≡ length (drop ((wiring s n).rates.consumed c (k ((wiring s n).rates.target c)))
      (st.history c)) = ap length (st.left c l) in
      omega (
        arith,
        length-drop ((wiring s n).rates.consumed c (k ((wiring s n).rates.target c))) (st.history c),
        st.is.enough c l,
        st.is.lengths c l,
      )

  -- its channels hold what its next firing takes exactly where it is enabled
  pub held : IsEnabled (wiring s n).rates k a → HoldBlocks ins takes qs
  held on i h =
      let c : ℕ = get_or ins i 0 in
      let is = net.wired.ins_are a i known h in
      let own : (wiring s n).rates.consumed c (k ((wiring s n).rates.target c)) ≡
      (wiring s n).rates.consumed c (k a) = ap (λ b. (wiring s n).rates.consumed c (k b)) is.1 in
      omega (
        arith,
        own,
        standing c is.0,
        enabled_within (wiring s n).rates k a on c is.0 is.1,
        plan.taken c is.0 is.1,
      )

  pub enabled : HoldBlocks ins takes qs → IsEnabled (wiring s n).rates k a
  enabled holds c l e =
      let at = ins_all s n net a known c l e in
      let here : get_or takes c 0 ≤ length (samples qs c) =
      subst (λ b. get_or takes b 0 ≤ length (samples qs b)) at.2 (holds at.0 at.1) in
      let own : (wiring s n).rates.consumed c (k ((wiring s n).rates.target c)) ≡
      (wiring s n).rates.consumed c (k a) = ap (λ b. (wiring s n).rates.consumed c (k b)) e in
      let next : (wiring s n).rates.consumed c (k ((wiring s n).rates.target c) + 1) ≡
      (wiring s n).rates.consumed c (k a + 1) = ap (λ b. (wiring s n).rates.consumed c (k b + 1)) e in
      omega (arith, standing c l, plan.taken c l e)

  -- a port of its is a channel, with a size
  pub ports_in : ArePorts ins takes (length qs)
  ports_in = subst (ArePorts ins takes) (sym st.channels) fits_ports.ins_are
