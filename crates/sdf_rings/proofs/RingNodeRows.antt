-- What a ring node's rows say of its next firing.
use Rattle.std.proofs.Common.{◌≡◌, ℕ, ◌%◌, ◌≤◌, ◌<◌, List, length, get_or, sym, ap, ◌∙◌, subst, arith}
use Rattle.sdf_actor.specs.Steps.{Steps}
use Rattle.sdf_actor.specs.Histories.{taken_before}
use Rattle.sdf_actor.specs.Nets.{Netlist, node, wiring, cycle_of}
use Rattle.sdf_actor.specs.declared.node.Node.{Node}
use Rattle.sdf_actor.specs.declared.sides.Side.{Side}
use Rattle.sdf_actor.specs.declared.sides.Side.TheVariants.{Input, Output}
use Rattle.sdf_actor.specs.Sides.{ports_of}
use Rattle.sdf_node.specs.Nodes.{phase_at, takes_of, puts_of, CanStep}
use Rattle.sdf_node.proofs.Theorems.{nodes_can_step, nodes_keep_phase}
use Rattle.sdf_rings.specs.declared.seat.ring_node.RingNode.{RingNode}
use Rattle.sdf_rings.specs.Blocks.{start_at, block_of}
use Rattle.sdf_queues.specs.Sizes.{sizes, at_phase, AreRows}
use Rattle.sdf_rings.specs.RingNodes.{IsRingNode}
use Rattle.sdf_rings.proofs.Spreads.{start_at_same, block_same}
use Rattle.sdf_rings.proofs.PortBlocks.{sizes_taken, sizes_put}
use Rattle.sdf_rings.proofs.Knowing.{length_taken_before}

module _ {A S T : Type 0} {s : Steps A S T} {n : Netlist A T} {inputs : List (List T)} {x : RingNode A T S}
    (st : IsRingNode s n inputs x) where
  abbrev v : Node A
  v = node n x.actor

  pub phase_is : phase_at x.state ≡ x.done % cycle_of s v
  phase_is =
      nodes_keep_phase s inputs v x.asked (taken_before (wiring s n) st.own x.actor x.done) x.state
      st.at ∙ ap (λ k. k % cycle_of s v) (length_taken_before (wiring s n) st.own x.actor x.done)

  -- the node has a next firing
  pub can_step : x.done < x.asked → {y : Node A} {j many more : ℕ} → y ≡ v →
      j ≡ phase_at x.state → many ≡ takes_of s y j → more ≡ puts_of s y j → CanStep s inputs y x.state many more
  can_step left {y} {j} {many} {more} y_is j_is many_is more_is =
      let past = taken_before (wiring s n) st.own x.actor x.done in
      let long = length_taken_before (wiring s n) st.own x.actor x.done in
      let all : CanStep s inputs v x.state (takes_of s v (phase_at x.state)) (puts_of s v (phase_at x.state)) =
      nodes_can_step s inputs v x.asked past x.state st.at st.phases (omega arith) in
      let many_as : takes_of s v (phase_at x.state) ≡ many = sym (many_is ∙ (λ i. takes_of s (y_is i) (j_is i))) in
      let more_as : puts_of s v (phase_at x.state) ≡ more = sym (more_is ∙ (λ i. puts_of s (y_is i) (j_is i))) in
      subst (λ z. CanStep s inputs z x.state many more) (sym y_is)
      (subst (λ m. CanStep s inputs v x.state many m) more_as (subst (λ m. CanStep s inputs v x.state m
      (puts_of s v (phase_at x.state))) many_as all))

  module _ {side : Side} {rows : List (List ℕ)} (are : AreRows s side v rows) {j : ℕ}
      (j_is : j ≡ phase_at x.state) where
    pub row_known : j < length rows
    row_known = let k = are.known x.done in omega (arith, j_is, phase_is)

    module _ {row : List ℕ} (row_is : row ≡ at_phase rows j) where
      row_as : row ≡ at_phase rows (x.done % cycle_of s v)
      row_as = row_is ∙ ap (at_phase rows) (j_is ∙ phase_is)

      pub row_all : length row ≡ ports_of s side v
      row_all = ap length row_as ∙ are.long x.done

      pub row_size : (p : ℕ) → p < ports_of s side v → get_or row p 0 ≡ sizes s side v x.done p
      row_size p h = ap (λ r. get_or r p 0) row_as ∙ are.each x.done p h

      pub row_sum : start_at (λ p. get_or row p 0) (ports_of s side v) ≡
          start_at (sizes s side v x.done) (ports_of s side v)
      row_sum = start_at_same (λ p. get_or row p 0) (sizes s side v x.done) (ports_of s side v) row_size

      pub row_part : {X : Type 0} (i : ℕ) (b : List X) → i < ports_of s side v →
          block_of (λ p. get_or row p 0) i b ≡ block_of (sizes s side v x.done) i b
      row_part i b h = block_same (λ p. get_or row p 0) (sizes s side v x.done) i b (λ p l. row_size p (omega arith))

  -- the length of the blocks of its next firing, over all ports
  module _ {y : Node A} (y_is : y ≡ v) {j : ℕ} (j_is : j ≡ phase_at x.state) {many : ℕ} where
    pub taken_is : many ≡ takes_of s y j → many ≡ start_at (sizes s Input v x.done) (ports_of s Input v)
    taken_is e = e ∙ ((λ i. takes_of s (y_is i) ((j_is ∙ phase_is) i)) ∙ sym (sizes_taken s v x.done))

    pub put_is : many ≡ puts_of s y j → many ≡ start_at (sizes s Output v x.done) (ports_of s Output v)
    put_is e = e ∙ ((λ i. puts_of s (y_is i) ((j_is ∙ phase_is) i)) ∙ sym (sizes_put s v x.done))

    pub taken_fits : x.done < x.asked → many ≡ takes_of s y j → many ≤ length x.taken.items
    taken_fits left e =
        let same : many ≡ takes_of s v (x.done % cycle_of s v) =
        e ∙ (λ i. takes_of s (y_is i) ((j_is ∙ phase_is) i)) in
        let long = st.taken_long left x.done in
        omega arith

    pub put_fits : x.done < x.asked → many ≡ puts_of s y j → many ≤ length x.put.items
    put_fits left e =
        let same : many ≡ puts_of s v (x.done % cycle_of s v) = e ∙ (λ i. puts_of s (y_is i) ((j_is ∙ phase_is) i)) in
        let long = st.put_long left x.done in
        omega arith

  -- by the row or by the firing: whether each end fits the size of its block, and what moved there
  module _ {side : Side} {rows : List (List ℕ)} (are : AreRows s side v rows) {j : ℕ} (j_is : j ≡ phase_at x.state)
      {row : List ℕ} (row_is : row ≡ at_phase rows j) {E : Type 0} (ends : List E)
      (long : length ends ≡ ports_of s side v) where
    pub ends_row : length ends ≡ length row
    ends_row = long ∙ sym (row_all are j_is row_is)

    pub by_row : (Fits : ℕ → E → Type 0) →
        ((i : ℕ) (d : E) → i < length ends → Fits (sizes s side v x.done i) (get_or ends i d)) →
        (i : ℕ) (d : E) → i < length ends → Fits (get_or row i 0) (get_or ends i d)
    by_row Fits all i d h = subst (λ m. Fits m (get_or ends i d))
        (sym (row_size are j_is row_is i (omega arith))) (all i d h)

    pub by_firing : (Fits : ℕ → E → Type 0) →
        ((i : ℕ) (d : E) → i < length ends → Fits (get_or row i 0) (get_or ends i d)) →
        (i : ℕ) (d : E) → i < length ends → Fits (sizes s side v x.done i) (get_or ends i d)
    by_firing Fits all i d h = subst (λ m. Fits m (get_or ends i d))
        (row_size are j_is row_is i (omega arith)) (all i d h)

    pub moved_by_firing : (Moved : E → E → List T → Type 0) (after : List E) (t : List T) →
        ((i : ℕ) (d : E) → i < length ends →
        Moved (get_or ends i d) (get_or after i d) (block_of (λ p. get_or row p 0) i t)) →
        (i : ℕ) (d : E) → i < length ends →
        Moved (get_or ends i d) (get_or after i d) (block_of (sizes s side v x.done) i t)
    moved_by_firing Moved after t all i d h = subst (Moved (get_or ends i d) (get_or after i d))
        (row_part are j_is row_is i t (omega arith)) (all i d h)
