-- The channels of a net by its nodes' ports, and what each firing moves on them.
use Rattle.std.proofs.Common.{◌≡◌, ℕ, zero, suc, ◌+◌, ◌<◌, List, [], ◌∷◌, length, map, get_or, take, drop, cond, eqb}
use Rattle.std.proofs.Common.{Bool, true, false, refl, sym, ap, ◌∙◌, subst, inl, inr, ◌⊎◌, arith, add-one}
use Rattle.std.specs.List.{sum_by, range_with_len}
use Rattle.std.proofs.lemmas.Bool.{cases_eq, eq-eqb, ne_eqb}
use Rattle.std.proofs.lemmas.List.FromFn.{get_or-map-range_with_len, length-map-range_with_len}
use Rattle.std.proofs.lemmas.List.Sums.{sum_by-cons}
use Rattle.sdf_actor.specs.Steps.{Steps}
use Rattle.sdf_actor.specs.Histories.{spread}
use Rattle.sdf_actor.specs.declared.node.Node.{Node}
use Rattle.sdf_actor.specs.declared.node.Node.TheVariants.{Source, Sink, Inner}
use Rattle.sdf_actor.specs.declared.sides.Side.TheVariants.{Input, Output}
use Rattle.sdf_actor.specs.Nets.{Netlist, wire, node, inputs_of, outputs_of, to_port, from_port, consumed_at}
use Rattle.sdf_actor.specs.Nets.{produced_at, wiring, IsNet}
use Rattle.sdf_actor.specs.Graphs.{rate_of}
use Rattle.sdf_actor.proofs.Theorems.{ports_have_channels}
use Rattle.sdf_queues.specs.Blocks.{at_ports}
use Rattle.sdf_queues.specs.Sizes.{IsPlan, phase_of, in_all, out_all}
use Rattle.sdf_queues.proofs.Ports.{at_none}

at_one : (ds : List ℕ) (n many c : ℕ) → n < length ds → get_or ds n 0 ≡ c → at_ports ds many c ≡ many
at_one [] n many c l e = absurd (omega arith)
at_one (d ∷ ds) zero many c l e = ap (λ t. cond t many (at_ports ds many c)) (eq-eqb d c e)
at_one (d ∷ ds) (suc n) many c l e = go (eqb d c) (at_one ds n many c (omega arith) e)
  where
    go : (t : Bool) → at_ports ds many c ≡ many → cond t many (at_ports ds many c) ≡ many
    go true ih = refl
    go false ih = ih

-- parts of a block by sizes that are the same at the ports
pub spread_same : {T : Type 0} (f g : ℕ → ℕ) (cs : List ℕ) (b : List T) (c : ℕ) →
    ((n : ℕ) → n < length cs → f (get_or cs n 0) ≡ g (get_or cs n 0)) → spread f cs b c ≡ spread g cs b c
spread_same f g [] b c same = refl
spread_same f g (d ∷ ds) b c same =
    let here : f d ≡ g d = same 0 (omega arith) in
    ap (λ n. cond (eqb d c) (take n b) (spread f ds (drop n b) c)) here ∙
    ap (λ ys. cond (eqb d c) (take (g d) b) ys) (spread_same f g ds (drop (g d) b) c
    (λ n l. same (suc n) (omega arith)))

sum_along : (g h f : ℕ → ℕ) (many : ℕ) → ((p : ℕ) → p < many → g (f p) ≡ h p) → (from rest : ℕ) → from + rest ≡ many →
    sum_by g (map f (range_with_len from rest)) ≡ sum_by h (range_with_len from rest)
sum_along g h f many same from zero e = refl
sum_along g h f many same from (suc rest) e =
    let here : g (f from) ≡ h from = same from (omega arith) in
    let more : sum_by g (map f (range_with_len (from + 1) rest)) ≡ sum_by h (range_with_len (from + 1) rest) =
    sum_along g h f many same (from + 1) rest (omega arith) in
    omega (
      arith,
      sum_by-cons g (f from) (map f (range_with_len (from + 1) rest)),
      sum_by-cons h from (range_with_len (from + 1) rest),
    )

-- what one firing more takes and puts at a port
consumed_more : {A S T : Type 0} (s : Steps A S T) (x : Node A) (p i : ℕ) → p < inputs_of s x →
    consumed_at s x p (i + 1) ≡ consumed_at s x p i + rate_of s Input x p (phase_of s x i)
consumed_more s (Source ext block) p i h = absurd (omega (arith, h))
consumed_more s (Sink ext block) p i h = omega arith
consumed_more s (Inner x) p i h = rw add-one refl

produced_more : {A S T : Type 0} (s : Steps A S T) (x : Node A) (p i : ℕ) → p < outputs_of s x →
    produced_at s x p (i + 1) ≡ produced_at s x p i + rate_of s Output x p (phase_of s x i)
produced_more s (Source ext block) p i h = omega arith
produced_more s (Sink ext block) p i h = absurd (omega (arith, h))
produced_more s (Inner x) p i h = rw add-one refl

-- what a node moves at an end of a channel, by the node and port that it is
pub at_end : {A T : Type 0} (n : Netlist A T) (f : Node A → ℕ → ℕ → ℕ) {b q a p : ℕ} → (b ≡ a) × (q ≡ p) → (k : ℕ) →
    f (node n b) q k ≡ f (node n a) p k
at_end n f is k = λ j. f (node n (is.0 j)) (is.1 j) k

module _ {A S T : Type 0} {s : Steps A S T} {n : Netlist A T} (good : IsNet s n) where
  pub at_port : (a p d : ℕ) → p < inputs_of s (node n a) → get_or ((wiring s n).ins a) p d ≡ to_port n a p
  at_port a p d h = get_or-map-range_with_len (to_port n a) 0 (inputs_of s (node n a)) p p d h (omega arith)

  pub long : (a : ℕ) → length ((wiring s n).ins a) ≡ inputs_of s (node n a)
  long a = length-map-range_with_len (to_port n a) 0 (inputs_of s (node n a))

  pub ins_once : (a i j : ℕ) → a < length n.nodes → i < length ((wiring s n).ins a) → j < length ((wiring s n).ins a) →
      get_or ((wiring s n).ins a) i 0 ≡ get_or ((wiring s n).ins a) j 0 → i ≡ j
  ins_once a i j l h g e =
      let hi : i < inputs_of s (node n a) = omega (arith, long a) in
      let hj : j < inputs_of s (node n a) = omega (arith, long a) in
      let same : to_port n a i ≡ to_port n a j = sym (at_port a i 0 hi) ∙ (e ∙ at_port a j 0 hj) in
      sym ((ports_have_channels s n a i good l).0 hi).1
      ∙ (ap (λ c. (wire n c).to.1) same ∙ ((ports_have_channels s n a j good l).0 hj).1)

  -- a channel that leads to a node is at one of its ports
  pub ins_all : (a c : ℕ) → a < length n.nodes → c < length n.wires → (wire n c).to.0 ≡ a →
      (i : ℕ) × (i < length ((wiring s n).ins a)) × (get_or ((wiring s n).ins a) i 0 ≡ c)
  ins_all a c known l e =
      let p : ℕ = (wire n c).to.1 in
      let in_range = good.to_in c l in
      let h : p < inputs_of s (node n a) = subst (λ b. p < inputs_of s (node n b)) e in_range.1 in
      let is = (ports_have_channels s n a p good known).0 h in
      let same : (wire n (to_port n a p)).to ≡ (wire n c).to = λ i. ((is.0 ∙ sym e) i, is.1 i) in
      let found : to_port n a p ≡ c = good.to_once (to_port n a p) c (good.to_all a p known h) l same in
      (p, omega (arith, long a), at_port a p 0 h ∙ found)

  -- a node takes from the channels that lead to it, and from no other
  pub at_ins : (a many c : ℕ) → a < length n.nodes → c < length n.wires →
      at_ports ((wiring s n).ins a) many c ≡ cond (eqb (wire n c).to.0 a) many 0
  at_ins a many c known l = go (cases_eq (wire n c).to.0 a)
    where
      go : ((wire n c).to.0 ≡ a) ⊎ ((wire n c).to.0 ≡ a → ⊥) →
          at_ports ((wiring s n).ins a) many c ≡ cond (eqb (wire n c).to.0 a) many 0
      go (inl e) =
          let at = ins_all a c known l e in
          at_one ((wiring s n).ins a) at.0 many c at.1 at.2 ∙ ap (λ t. cond t many 0) (sym (eq-eqb (wire n c).to.0 a e))
      go (inr ne) =
          at_none ((wiring s n).ins a) many c
          (λ i h e. let hi : i < inputs_of s (node n a) = omega (arith, long a) in
          ne (subst (λ c. (wire n c).to.0 ≡ a) (sym (at_port a i 0 hi) ∙ e)
          ((ports_have_channels s n a i good known).0 hi).0)) ∙
          ap (λ t. cond t many 0) (sym (ne_eqb (wire n c).to.0 a ne))

  module _ {a i : ℕ} {takes puts : List ℕ} (l : a < length n.nodes) (plan : IsPlan s n a i takes puts) where
    -- the samples that a firing of a node takes and puts in all
    pub sum_taken : sum_by (λ c. get_or takes c 0) ((wiring s n).ins a) ≡ in_all s (node n a) i
    sum_taken =
        sum_along (λ c. get_or takes c 0) (λ p. rate_of s Input (node n a) p (phase_of s (node n a) i)) (to_port n a)
        (inputs_of s (node n a))
        (λ p h.
        let is = (ports_have_channels s n a p good l).0 h in
        omega (
          arith,
          plan.taken (to_port n a p) (good.to_all a p l h) is.0,
          at_end n (consumed_at s) is (i + 1),
          at_end n (consumed_at s) is i,
          consumed_more s (node n a) p i h,
        ))
        0 (inputs_of s (node n a)) (omega arith)

    pub sum_put : sum_by (λ c. get_or puts c 0) ((wiring s n).outs a) ≡ out_all s (node n a) i
    sum_put =
        sum_along (λ c. get_or puts c 0) (λ p. rate_of s Output (node n a) p (phase_of s (node n a) i)) (from_port n a)
        (outputs_of s (node n a))
        (λ p h.
        let is = (ports_have_channels s n a p good l).1 h in
        omega (
          arith,
          plan.put (from_port n a p) (good.from_all a p l h) is.0,
          at_end n (produced_at s) is (i + 1),
          at_end n (produced_at s) is i,
          produced_more s (node n a) p i h,
        ))
        0 (outputs_of s (node n a)) (omega arith)
