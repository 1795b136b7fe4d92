-- Nodes before their first firing.
use Rattle.std.proofs.Common.{◌≡◌, ℕ, zero, suc, ◌∷◌, true, false, rules, ◌%◌, ◌≤◌, ◌<◌, List, [], length, get_or, take}
use Rattle.std.proofs.Common.{Option, Some, None, sym, ap, ◌∙◌, refl, subst, arith, vec_len}
use Rattle.std.specs.Global.{Global}
use Rattle.std.specs.Option.{IfSome, IsSome, is_some as has_value}
use Rattle.std.specs.declared.vec.Vec.{Vec}
use Rattle.std.proofs.lemmas.Nat.{mod_below}
use Rattle.std.proofs.lemmas.Option.{same_Some}
use Rattle.rtrb.specs.Ring.{sent, received}
use Rattle.rtrb.specs.declared.producer.Producer.{Producer}
use Rattle.rtrb.specs.declared.consumer.Consumer.{Consumer}
use Rattle.rtrb.specs.declared.AnyItems.{AnyItems}
use Rattle.sdf_actor.specs.Steps.{Steps}
use Rattle.sdf_actor.specs.Histories.{IsWired}
use Rattle.sdf_actor.specs.Nets.{Netlist, wire, node, wiring, cycle_of, inputs_of, outputs_of, IsNet}
use Rattle.sdf_actor.specs.Wires.{lists}
use Rattle.sdf_actor.specs.declared.sides.Side.TheVariants.{Input, Output}
use Rattle.sdf_actor.proofs.Theorems.{locals_begin}
use Rattle.sdf_node.specs.Nodes.{takes_of, puts_of, IsAt}
use Rattle.sdf_node.specs.declared.node.NodeState.{NodeState}
use Rattle.sdf_queues.specs.Sizes.{AreRows}
use Rattle.sdf_rings.specs.RingNodes.{OwnArePairs, IsRingNode}
use Rattle.sdf_rings.specs.Openings.{end_at, AreEndsAt, HasEnds}
use Rattle.sdf_rings.specs.Begun.{HasIns, HasOuts}
use Rattle.sdf_rings.proofs.Known.{out_channel, in_channel, port_at}
use Rattle.sdf_rings.proofs.Lists.{vec_long}
use Rattle.sdf_rings.proofs.PortBlocks.{ins_long, outs_long}

-- fillers are long enough where firings are asked
filled : {T : Type 0} (filler : Option T) (asked many : ℕ) (v : Vec T Global) → IfSome filler (λ _. vec_len v ≡ many) →
    (filler ≡ None → asked ≡ 0) → 0 < asked → many ≤ length v.items
filled (Some x) asked many v is none some = omega arith
filled None asked many v is none some = let e = none refl in absurd (omega arith)

module _ {A S T : Type 0} (s : Steps A S T) (n : Netlist A T) (net : IsNet s n)
    (wired : IsWired (wiring s n)) (inputs : List (List T)) (a : ℕ) (known : a < length n.nodes) where
  -- what has not fired knows what its channels begin with
  pub ring_node_begun : (state : NodeState T S) (ins : Vec (Consumer T Global AnyItems) Global)
      (outs : Vec (Producer T Global AnyItems) Global) (takes puts : Vec (Vec ℕ Global) Global)
      (taken put : Vec T Global)
      (asked : ℕ) (filler : Option T) (many : ℕ) →
      HasIns s n a ins.items → HasOuts s n a outs.items → OwnArePairs n a ins.items outs.items →
      0 < cycle_of s (node n a) → IsAt s inputs asked (node n a) [] state →
      AreRows s Input (node n a) (lists takes.items) → AreRows s Output (node n a) (lists puts.items) →
      ((j : ℕ) → j < cycle_of s (node n a) → (takes_of s (node n a) j ≤ many) × (puts_of s (node n a) j ≤ many)) →
      IfSome filler (λ _. vec_len taken ≡ many) → IfSome filler (λ _. vec_len put ≡ many) →
      (filler ≡ None → asked ≡ 0) →
      IsRingNode s n inputs (record {
        actor = a;
        state = state;
        ins = ins;
        outs = outs;
        takes = takes;
        puts = puts;
        taken = taken;
        put = put;
        done = 0;
        asked = asked;
      })
  ring_node_begun state ins outs takes puts taken put asked filler many has_ins has_outs own some at
      take_rows put_rows most
      long_taken long_put none = record {
        known = known;
        own_pairs = own;
        within = omega arith;
        own = (wiring s n).starts;
        local = locals_begin s n inputs a net;
        at = at;
        ins_all = let e = has_ins.all in omega arith;
        outs_all = let e = has_outs.all in omega arith;
        took = λ i d h. has_ins.untaken i d (omega arith) ∙
            ap (λ m. take m ((wiring s n).starts (get_or ((wiring s n).ins a) i 0)))
            (sym (wired.sound.consumed_none (get_or ((wiring s n).ins a) i 0)));
        gave = λ i d h. has_outs.put i d (omega arith);
        phases = some;
        takes = take_rows;
        puts = put_rows;
        taken_long = λ left k. let m = (most (k % cycle_of s (node n a))
            (mod_below k (cycle_of s (node n a)) some)).0 in
            let l = filled filler asked many taken long_taken none left in omega arith;
        put_long = λ left k. let m = (most (k % cycle_of s (node n a)) (mod_below k (cycle_of s (node n a)) some)).1 in
            let l = filled filler asked many put long_put none left in omega arith;
      }

-- an end for each of some channels, taken out
pub record TakenOut {E : Type 0} (ends : List (Option E)) (channels : List ℕ) (taken : List E) : Type 0 where
  pub all : length taken ≡ length channels
  pub each : AreEndsAt ends channels taken

pub taken_out : {E : Type 0} (ends : List (Option E)) (v : Vec E Global) (ks cs : List ℕ) → ks ≡ cs →
    vec_len v ≡ length ks → AreEndsAt ends ks v.items → TakenOut ends cs v.items
taken_out ends v ks cs same all each = subst (λ ds. TakenOut ends ds v.items) same
    (record { all = vec_long v ∙ all; each = each })

-- a node of a wired net, and the ends of rings at its ports
pub record AtNode {A S T : Type 0} (s : Steps A S T) (n : Netlist A T) (a : ℕ)
    (ps : List (Option (Producer T Global AnyItems))) (xs : List (Option (Consumer T Global AnyItems))) : Type 0 where
  pub good : IsNet s n
  pub wired : IsWired (wiring s n)
  pub known : a < length n.nodes
  pub has : HasEnds n a ps xs

-- the ends that were taken out for a node are its own
module _ {A S T : Type 0} {s : Steps A S T} {n : Netlist A T} {a : ℕ}
    {ps : List (Option (Producer T Global AnyItems))} {xs : List (Option (Consumer T Global AnyItems))}
    (x : AtNode s n a ps xs) where
  ins_all : length ((wiring s n).ins a) ≡ inputs_of s (node n a)
  ins_all = ins_long x.good x.known

  outs_all : length ((wiring s n).outs a) ≡ outputs_of s (node n a)
  outs_all = outs_long x.good x.known

  -- the end at each of its ports is there
  pub ins_there : (i : ℕ) → i < length ((wiring s n).ins a) → IsSome (end_at xs (get_or ((wiring s n).ins a) i 0))
  ins_there i l = let is = x.wired.ins_are a i x.known l in
      ap has_value (x.has.into (get_or ((wiring s n).ins a) i 0) is.0 is.1).1

  pub outs_there : (i : ℕ) → i < length ((wiring s n).outs a) → IsSome (end_at ps (get_or ((wiring s n).outs a) i 0))
  outs_there i l = let is = x.wired.outs_are a i x.known l in
      ap has_value (x.has.out_of (get_or ((wiring s n).outs a) i 0) is.0 is.1).1

  -- a channel that is not its own is at none
  pub not_in : (c : ℕ) → ((wire n c).to.0 ≡ a → ⊥) → (i : ℕ) → i < length ((wiring s n).ins a) →
      get_or ((wiring s n).ins a) i 0 ≡ c → ⊥
  not_in c apart i l e = apart (subst (λ d. (wire n d).to.0 ≡ a) e (x.wired.ins_are a i x.known l).1)

  pub not_out : (c : ℕ) → ((wire n c).from.0 ≡ a → ⊥) → (i : ℕ) → i < length ((wiring s n).outs a) →
      get_or ((wiring s n).outs a) i 0 ≡ c → ⊥
  not_out c apart i l e = apart (subst (λ d. (wire n d).from.0 ≡ a) e (x.wired.outs_are a i x.known l).1)

  -- none stands at two ports
  pub ins_once : (i k : ℕ) → i < length ((wiring s n).ins a) → k < length ((wiring s n).ins a) →
      get_or ((wiring s n).ins a) i 0 ≡ get_or ((wiring s n).ins a) k 0 → i ≡ k
  ins_once i k hi hk e =
      let at_i = port_at x.good a i x.known (omega (arith, ins_all)) in
      let at_k = port_at x.good a k x.known (omega (arith, ins_all)) in
      sym at_i.2 ∙ (ap (λ c. (wire n c).to.1) e ∙ at_k.2)

  module _ (ins : List (Consumer T Global AnyItems)) (taken : TakenOut xs ((wiring s n).ins a) ins) where
    pub has_ins : HasIns s n a ins
    has_ins = record {
      all = taken.all ∙ ins_all;
      untaken = λ i d h.
          let l : i < length ((wiring s n).ins a) = omega (arith, taken.all) in
          let is = x.wired.ins_are a i x.known l in
          let e = x.has.into (get_or ((wiring s n).ins a) i 0) is.0 is.1 in
          ap (λ y. received y) (same_Some (get_or ins i d) e.0 (sym (taken.each i d l) ∙ e.1)) ∙ e.2;
    }

    pub ins_at : (c : ℕ) (d : Consumer T Global AnyItems) → c < length n.wires → (wire n c).to.0 ≡ a →
        end_at xs c ≡ Some (get_or ins (wire n c).to.1 d)
    ins_at c d l e =
        let at : get_or ((wiring s n).ins a) (wire n c).to.1 0 ≡ c =
        ap (λ b. get_or ((wiring s n).ins b) (wire n c).to.1 0) (sym e) ∙ in_channel x.good c l in
        let long : (wire n c).to.1 < inputs_of s (node n a) =
        subst (λ b. (wire n c).to.1 < inputs_of s (node n b)) e (x.good.to_in c l).1 in
        subst (λ k. end_at xs k ≡ Some (get_or ins (wire n c).to.1 d)) at
        (taken.each (wire n c).to.1 d (omega (arith, long, ins_all)))

  module _ (outs : List (Producer T Global AnyItems)) (taken : TakenOut ps ((wiring s n).outs a) outs) where
    pub has_outs : HasOuts s n a outs
    has_outs = record {
      all = taken.all ∙ outs_all;
      put = λ i d h.
          let l : i < length ((wiring s n).outs a) = omega (arith, taken.all) in
          let is = x.wired.outs_are a i x.known l in
          let e = x.has.out_of (get_or ((wiring s n).outs a) i 0) is.0 is.1 in
          ap (λ y. sent y) (same_Some (get_or outs i d) e.0 (sym (taken.each i d l) ∙ e.1)) ∙ e.2;
    }

    pub outs_at : (c : ℕ) (d : Producer T Global AnyItems) → c < length n.wires → (wire n c).from.0 ≡ a →
        end_at ps c ≡ Some (get_or outs (wire n c).from.1 d)
    outs_at c d l e =
        let at : get_or ((wiring s n).outs a) (wire n c).from.1 0 ≡ c =
        ap (λ b. get_or ((wiring s n).outs b) (wire n c).from.1 0) (sym e) ∙ out_channel x.good c l in
        let long : (wire n c).from.1 < outputs_of s (node n a) =
        subst (λ b. (wire n c).from.1 < outputs_of s (node n b)) e (x.good.from_in c l).1 in
        subst (λ k. end_at ps k ≡ Some (get_or outs (wire n c).from.1 d)) at
        (taken.each (wire n c).from.1 d (omega (arith, long, outs_all)))

  pub own_are_pairs : (ins : List (Consumer T Global AnyItems)) (outs : List (Producer T Global AnyItems)) →
      TakenOut xs ((wiring s n).ins a) ins → TakenOut ps ((wiring s n).outs a) outs → OwnArePairs n a ins outs
  own_are_pairs ins outs of_ins of_outs c d e l from to =
      x.has.own c (get_or outs (wire n c).from.1 e) (get_or ins (wire n c).to.1 d) l from to
      (outs_at outs of_outs c e l from) (ins_at ins of_ins c d l to)

pub some_in : {X : Type 0} (xs : List (Option X)) (c : ℕ) → IsSome (end_at xs c) → c < length xs
some_in [] c is = absurd (let e : false ≡ true = is in cc)
some_in (x ∷ xs) zero is = omega arith
some_in (x ∷ xs) (suc c) is = let l = some_in xs c is in omega arith

pub is_some : {X : Type 0} (o : Option X) (x : X) → o ≡ Some x → IsSome o
is_some o x e = subst (λ p. IsSome p) (sym e) (search rules)
