-- What a firing of a node moves at its ports, and on its channels.
use Rattle.std.proofs.Common.{◌≡◌, ℕ, ◌+◌, ◌-◌, ◌%◌, ◌<◌, List, length, get_or, refl, sym, ap, ◌∙◌, subst, arith}
use Rattle.std.proofs.Common.{add-one}
use Rattle.std.specs.List.{sum_by}
use Rattle.std.proofs.lemmas.List.FromFn.{get_or-map-range_with_len, length-map-range_with_len}
use Rattle.sdf_graph.specs.Rates.{sum_to}
use Rattle.sdf_actor.specs.Steps.{Steps, phase}
use Rattle.sdf_actor.specs.Histories.{Wiring, spread}
use Rattle.sdf_actor.specs.Nets.{Netlist, wire, node, wiring, inputs_of, outputs_of, cycle_of, consumed_at, produced_at}
use Rattle.sdf_actor.specs.Nets.{to_port, from_port, IsNet}
use Rattle.sdf_actor.specs.declared.node.Node.{Node}
use Rattle.sdf_actor.specs.declared.node.Node.TheVariants.{Source, Sink, Inner}
use Rattle.sdf_actor.specs.declared.sides.Side.{Side}
use Rattle.sdf_actor.specs.declared.sides.Side.TheVariants.{Input, Output}
use Rattle.sdf_actor.specs.Sides.{ports_of}
use Rattle.sdf_actor.proofs.Theorems.{nets_are_wired, ports_have_channels}
use Rattle.sdf_node.specs.Nodes.{takes_of, puts_of}
use Rattle.sdf_rings.specs.Blocks.{start_at, block_of}
use Rattle.sdf_queues.specs.Sizes.{sizes, at_phase, AreRows}
use Rattle.sdf_rings.proofs.Blocks.{start_at_zero, start_at_next}
use Rattle.sdf_rings.proofs.Spreads.{start_at_same, start_at_all, start_at_range, spread_is_block, block_same}

one_port : (g : ℕ → ℕ) → start_at g 1 ≡ g 0
one_port g = let z = start_at_zero g in let e : start_at g 1 ≡ start_at g 0 + g 0 = start_at_next g 0 in omega arith

last_of : (f : ℕ → ℕ) (k : ℕ) → sum_to f (k + 1) - sum_to f k ≡ f k
last_of f k = let e : sum_to f (k + 1) ≡ sum_to f k + f k = rw add-one refl in omega arith

module _ {A S T : Type 0} (s : Steps A S T) where
  -- the blocks of a firing, over all ports
  pub sizes_taken : (x : Node A) (k : ℕ) → start_at (sizes s Input x k) (inputs_of s x) ≡
      takes_of s x (k % cycle_of s x)
  sizes_taken (Source ext block) k = start_at_zero (sizes s Input (Source ext block) k)
  sizes_taken (Sink ext block) k = one_port (sizes s Input (Sink ext block) k) ∙ omega arith
  sizes_taken (Inner x) k =
      start_at_same (sizes s Input (Inner x) k) (λ p. s.take x (0 + p) (phase s x k)) (s.inputs x)
      (λ p h. last_of (λ j. s.take x p (phase s x j)) k ∙ ap (λ q. s.take x q (phase s x k)) (omega arith)) ∙
      start_at_range (λ p. s.take x p (phase s x k)) 0 (s.inputs x)

  pub sizes_put : (x : Node A) (k : ℕ) → start_at (sizes s Output x k) (outputs_of s x) ≡ puts_of s x (k % cycle_of s x)
  sizes_put (Source ext block) k = one_port (sizes s Output (Source ext block) k) ∙ omega arith
  sizes_put (Sink ext block) k = start_at_zero (sizes s Output (Sink ext block) k)
  sizes_put (Inner x) k =
      start_at_same (sizes s Output (Inner x) k) (λ p. s.put x (0 + p) (phase s x k)) (s.outputs x)
      (λ p h. last_of (λ j. s.put x p (phase s x j)) k ∙ ap (λ q. s.put x q (phase s x k)) (omega arith)) ∙
      start_at_range (λ p. s.put x p (phase s x k)) 0 (s.outputs x)

  -- and by the row of its phase
  pub row_start : (side : Side) (x : Node A) (rows : List (List ℕ)) (k : ℕ) → AreRows s side x rows →
      start_at (λ p. get_or (at_phase rows (k % cycle_of s x)) p 0) (ports_of s side x) ≡
      start_at (sizes s side x k) (ports_of s side x)
  row_start side x rows k are = start_at_same (λ p. get_or (at_phase rows (k % cycle_of s x)) p 0) (sizes s side x k)
      (ports_of s side x) (are.each k)

  pub row_block : {X : Type 0} (side : Side) (x : Node A) (rows : List (List ℕ)) (k i : ℕ) (b : List X) →
      AreRows s side x rows → i < ports_of s side x →
      block_of (λ p. get_or (at_phase rows (k % cycle_of s x)) p 0) i b ≡ block_of (sizes s side x k) i b
  row_block side x rows k i b are h = block_same (λ p. get_or (at_phase rows (k % cycle_of s x)) p 0) (sizes s side x k)
      i b (λ p l. are.each k p (omega arith))

-- what firing k puts on a channel
abbrev pub size_at : {A : Type 0} → Wiring A → ℕ → ℕ → ℕ
size_at f k c = f.rates.produced c (k + 1) - f.rates.produced c k

module _ {A S T : Type 0} {s : Steps A S T} {n : Netlist A T} (good : IsNet s n) {a : ℕ} (known : a < length n.nodes)
  where
    abbrev f : Wiring T
    f = wiring s n

    pub ins_long : length (f.ins a) ≡ inputs_of s (node n a)
    ins_long = length-map-range_with_len (to_port n a) 0 (inputs_of s (node n a))

    pub outs_long : length (f.outs a) ≡ outputs_of s (node n a)
    outs_long = length-map-range_with_len (from_port n a) 0 (outputs_of s (node n a))

    pub at_in : (p : ℕ) → p < inputs_of s (node n a) → get_or (f.ins a) p 0 ≡ to_port n a p
    at_in p h = get_or-map-range_with_len (to_port n a) 0 (inputs_of s (node n a)) p p 0 h (omega arith)

    at_out : (p : ℕ) → p < outputs_of s (node n a) → get_or (f.outs a) p 0 ≡ from_port n a p
    at_out p h = get_or-map-range_with_len (from_port n a) 0 (outputs_of s (node n a)) p p 0 h (omega arith)

    -- a channel into the node is the one at its port
    pub port_of : (c : ℕ) → c < length n.wires → f.rates.target c ≡ a → (wire n c).to.1 < inputs_of s (node n a)
    port_of c l e = subst (λ b. (wire n c).to.1 < inputs_of s (node n b)) e (good.to_in c l).1

    -- the counts of a channel by its port
    pub consumed_in : (p k : ℕ) → p < inputs_of s (node n a) →
        f.rates.consumed (get_or (f.ins a) p 0) k ≡ consumed_at s (node n a) p k
    consumed_in p k h =
        let is = (ports_have_channels s n a p good known).0 h in
        ap (λ c. f.rates.consumed c k) (at_in p h) ∙ (λ j. consumed_at s (node n (is.0 j)) (is.1 j) k)

    pub produced_out : (p k : ℕ) → p < outputs_of s (node n a) →
        f.rates.produced (get_or (f.outs a) p 0) k ≡ produced_at s (node n a) p k
    produced_out p k h =
        let is = (ports_have_channels s n a p good known).1 h in
        ap (λ c. f.rates.produced c k) (at_out p h) ∙ (λ j. produced_at s (node n (is.0 j)) (is.1 j) k)

    pub consumed_is : (c k : ℕ) → f.rates.target c ≡ a →
        f.rates.consumed c k ≡ consumed_at s (node n a) (wire n c).to.1 k
    consumed_is c k e = ap (λ b. consumed_at s (node n b) (wire n c).to.1 k) e

    size_out_port : (k p : ℕ) → p < outputs_of s (node n a) →
        size_at f k (get_or (f.outs a) p 0) ≡ sizes s Output (node n a) k p
    size_out_port k p h = let x = produced_out p k h in let y = produced_out p (k + 1) h in omega arith

    pub all_out : (k : ℕ) → start_at (sizes s Output (node n a) k) (outputs_of s (node n a)) ≡
        sum_by (size_at f k) (f.outs a)
    all_out k =
        start_at_same (sizes s Output (node n a) k) (λ p. size_at f k (get_or (f.outs a) p 0))
        (outputs_of s (node n a)) (λ p h. sym (size_out_port k p h)) ∙
        (ap (start_at (λ p. size_at f k (get_or (f.outs a) p 0))) (sym outs_long)
        ∙ start_at_all (size_at f k) (f.outs a))

    -- a port's part of a block is its channel's
    pub out_block : {X : Type 0} (k i : ℕ) (b : List X) → i < outputs_of s (node n a) →
        spread (size_at f k) (f.outs a) b (get_or (f.outs a) i 0) ≡ block_of (sizes s Output (node n a) k) i b
    out_block k i b h =
        spread_is_block (size_at f k) (f.outs a) b i (omega (arith, outs_long))
        (λ p q. (nets_are_wired s n good).outs_once a p q known) ∙
        block_same (λ p. size_at f k (get_or (f.outs a) p 0)) (sizes s Output (node n a) k) i b
        (λ p l. size_out_port k p (omega arith))
