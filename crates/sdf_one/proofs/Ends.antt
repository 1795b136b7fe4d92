-- Before the first firing of a run and after the last.
use Rattle.std.proofs.Common.{◌≡◌, ℕ, ◌*◌, ◌≤◌, ◌<◌, List, [], length, get_or, drop, refl, sym, ap, ◌∙◌, subst, arith}
use Rattle.std.specs.List.{flat_map}
use Rattle.std.proofs.Math.Nat.{zero-mod}
use Rattle.std.specs.declared.vec.Vec.{Vec}
use Rattle.sdf_actor.specs.declared.node.Node.{Node}
use Rattle.sdf_actor.specs.declared.node.Node.TheVariants as node
use Rattle.sdf_actor.specs.Steps.{Steps}
use Rattle.sdf_actor.specs.Histories.{IsWired, taken, taken_before}
use Rattle.sdf_actor.specs.Nets as nets
use Rattle.sdf_actor.specs.Nets.{Netlist, wire, wiring, IsHistoryOf}
use Rattle.sdf_one.specs.declared.work.Work.{Work}
use Rattle.sdf_one.specs.declared.work.Work.TheVariants.{Source, Sink, Inner}
use Rattle.sdf_queues.specs.QueueValue.{QueueValue}
use Rattle.sdf_queues.specs.Blocks.{samples}
use Rattle.sdf_queues.specs.Lists.{list, capacity}
use Rattle.sdf_one.specs.Runs.{IsWork, IsState, BeginsWork}
use Rattle.sdf_one.proofs.Readings.{some_of}

module _ {A S T Z : Type 0} (s : Steps A S T) (inputs : List (List T)) (outputs : List (Vec T Z)) (many : ℕ) where
  begun_work : (x : Node A) (w : Work A T S) → BeginsWork s x w →
      ((ext block : ℕ) → x ≡ node.Source ext block →
      (ext < length inputs) × (block * many ≤ length (get_or inputs ext []))) →
      ((ext block : ℕ) → x ≡ node.Sink ext block → (ext < length outputs) × (list outputs ext ≡ [])
      × (block * many ≤ capacity outputs ext)) →
      IsWork s inputs outputs many x [] w
  begun_work (node.Source ext block) (Source e next size) is reads makes = let found = reads ext block refl in
      (is.0, found.0, omega (arith, is.1), is.2, found.1)
  begun_work (node.Sink ext block) (Sink e) is reads makes = let room = makes ext block refl in
      (is, room.0, room.1, room.2)
  begun_work (node.Inner x) (Inner actor j state taken put) is reads makes =
      (is.0, is.1 ∙ sym (zero-mod (s.cycle x)), is.2, is.3)
  begun_work (node.Source ext block) (Sink e) is reads makes = absurd is
  begun_work (node.Source ext block) (Inner actor j state taken put) is reads makes = absurd is
  begun_work (node.Sink ext block) (Source e next size) is reads makes = absurd is
  begun_work (node.Sink ext block) (Inner actor j state taken put) is reads makes = absurd is
  begun_work (node.Inner x) (Source e next size) is reads makes = absurd is
  begun_work (node.Inner x) (Sink e) is reads makes = absurd is

  sink_list : (ext block : ℕ) (past : List (List T)) (w : Work A T S) →
      IsWork s inputs outputs many (node.Sink ext block) past w → list outputs ext ≡ flat_map (λ b. b) past
  sink_list ext block past (Sink e) is = is.2
  sink_list ext block past (Source e next size) is = absurd is
  sink_list ext block past (Inner actor j state taken put) is = absurd is

module _ {A S T Z : Type 0} (s : Steps A S T) (n : Netlist A T) (wired : IsWired (wiring s n)) (inputs : List (List T))
    (many k : ℕ → ℕ) (works : List (Work A T S)) (qs : List (QueueValue T)) (outputs : List (Vec T Z)) where
  -- before the first firing
  pub begun_stands : ((a : ℕ) → k a ≡ 0) → IsHistoryOf s n inputs k (wiring s n).starts → length qs ≡ length n.wires →
      length works ≡ length n.nodes →
      ((c : ℕ) → c < length n.wires → samples qs c ≡ (wire n c).initial) →
      ((a : ℕ) (d : Work A T S) → a < length n.nodes → BeginsWork s (nets.node n a) (get_or works a d)) →
      ((a ext block : ℕ) → a < length n.nodes → nets.node n a ≡ node.Source ext block →
      (ext < length inputs) × (block * many a ≤ length (get_or inputs ext []))) →
      ((a ext block : ℕ) → a < length n.nodes → nets.node n a ≡ node.Sink ext block →
      (ext < length outputs) × (list outputs ext ≡ []) × (block * many a ≤ capacity outputs ext)) →
      IsState s n inputs many k works qs outputs
  begun_stands none begun channels nodes queues works_begin reads makes = record {
    history = (wiring s n).starts;
    is = begun;
    channels = channels;
    left = λ c l.
        let gone : 0 ≡ (wiring s n).rates.consumed c (k ((wiring s n).rates.target c)) =
        sym (ap ((wiring s n).rates.consumed c) (none ((wiring s n).rates.target c))
        ∙ wired.sound.consumed_none c) in
        queues c l ∙ ap (λ i. drop i (wire n c).initial) gone;
    nodes = nodes;
    each = λ a d l.
        subst (λ i. IsWork s inputs outputs (many a) (nets.node n a) (taken_before (wiring s n) (wiring s n).starts a i)
        (get_or works a d)) (sym (none a))
        (begun_work s inputs outputs (many a) (nets.node n a) (get_or works a d) (works_begin a d l)
        (λ ext block. reads a ext block l) (λ ext block. makes a ext block l));
  }

  -- after the last firing the list of each sink is what it took
  pub all_taken : (st : IsState s n inputs many k works qs outputs) → (a e block : ℕ) → a < length n.nodes →
      nets.node n a ≡ node.Sink e block →
      list outputs e ≡ flat_map (λ (b : List T). b) (taken_before (wiring s n) st.history a (k a))
  all_taken st a e block l is =
      let d : Work A T S = some_of works a (omega (arith, st.nodes)) in
      let at : IsWork s inputs outputs (many a) (node.Sink e block) (taken_before (wiring s n) st.history a (k a))
      (get_or works a d) =
      subst (λ x. IsWork s inputs outputs (many a) x (taken_before (wiring s n) st.history a (k a)) (get_or works a d))
      is (st.each a d l) in
      sink_list s inputs outputs (many a) e block (taken_before (wiring s n) st.history a (k a)) (get_or works a d) at

-- nobody has fired
abbrev pub the_none : ℕ
the_none = 0
