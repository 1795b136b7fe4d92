-- A batch of firings of a node at its ends of rings.
use Rattle.std.proofs.Common.{◌≡◌, ℕ, zero, suc, ◌+◌, ◌*◌, ◌%◌, ◌≤◌, ◌<◌, ◌⊎◌, inl, inr, List, [], ◌∷◌, ◌++◌, length}
use Rattle.std.proofs.Common.{get_or, sym, ap, ◌∙◌, subst, arith, length-append}
use Rattle.std.specs.Global.{Global}
use Rattle.std.specs.List.{between}
use Rattle.std.proofs.Math.Nat.{mod-one, mul_comm, mul-le-mul_left}
use Rattle.std.proofs.lemmas.Bool.{cases_lt}
use Rattle.std.proofs.lemmas.List.{get_or_append_left, get_or_push, length_push}
use Rattle.std.proofs.lemmas.List.Concat.{length-flat_map}
use Rattle.std.proofs.lemmas.List.Edits.{length-between}
use Rattle.rtrb.specs.declared.producer.Producer.{Producer}
use Rattle.rtrb.specs.declared.consumer.Consumer.{Consumer}
use Rattle.rtrb.specs.declared.AnyItems.{AnyItems}
use Rattle.sdf_actor.specs.Steps.{Steps}
use Rattle.sdf_actor.specs.Histories.{Wiring, IsWired, taken, taken_before}
use Rattle.sdf_actor.specs.Nets.{Netlist, node, wiring, answer_of, inputs_of, outputs_of, IsNet}
use Rattle.sdf_actor.specs.Sides.{ports_of, moved_at}
use Rattle.sdf_actor.specs.Wires.{lists}
use Rattle.sdf_actor.specs.declared.node.Node.{Node}
use Rattle.sdf_actor.specs.declared.sides.Side.{Side}
use Rattle.sdf_actor.specs.declared.sides.Side.TheVariants.{Input, Output}
use Rattle.sdf_actor.proofs.Theorems.{nets_are_wired}
use Rattle.sdf_node.specs.Many.{nth_block, listed, joined, AreFullBlocks, CanStepMany}
use Rattle.sdf_node.specs.Nodes.{phase_at, takes_of, puts_of, IsAt}
use Rattle.sdf_node.specs.declared.node.NodeState.{NodeState}
use Rattle.sdf_node.proofs.Theorems.{blocks_join, nodes_can_step_many}
use Rattle.sdf_queues.specs.Sizes.{sizes, phase_of, at_phase, AreRows}
use Rattle.sdf_rings.specs.declared.seat.run_ends.BatchBlocks.{BatchBlocks}
use Rattle.sdf_rings.specs.declared.seat.ring_node.RingNode.{RingNode}
use Rattle.sdf_rings.specs.Blocks.{start_at, block_of}
use Rattle.sdf_rings.specs.BatchBlocks.{HasPorts}
use Rattle.sdf_rings.specs.Ends.{Drew, Gave, DrewEach, GaveEach, HoldsEach, HasRoomEach}
use Rattle.sdf_rings.specs.RingNodes.{IsRingNode, HasMoved}
use Rattle.sdf_rings.specs.Batches.{CanBatch, CanRun}
use Rattle.sdf_rings.proofs.Blocks.{block_in}
use Rattle.sdf_rings.proofs.Spreads.{start_at_same, start_at_all}
use Rattle.sdf_rings.proofs.Knowing.{length_taken_before}
use Rattle.sdf_rings.proofs.Onward.{ring_node_after, HasResumed, HoldsThen, gone_on}
use Rattle.sdf_rings.proofs.RunEnds.{same_joined, few_kept}
use Rattle.sdf_rings.proofs.RingNodeRows.{phase_is, row_all, row_size, row_sum, row_part}
use Rattle.sdf_rings.proofs.PortBlocks.{sizes_taken, sizes_put, ins_long, consumed_in, produced_out}
use Rattle.sdf_rings.proofs.Running.{IsManyMore, many_more}

-- the blocks of a port out of those of many firings have its size
part_long : {T : Type 0} (g : ℕ → ℕ) (p ports size many : ℕ) (xs : List T) → p < ports →
    size ≡ start_at g ports → length xs ≡ size * many → (i : ℕ) → i < many →
    length (block_of g p (nth_block size xs i)) ≡ g p
part_long g p ports size many xs l size_is long i h =
    let each = (blocks_join size many xs long).0 i h in
    let inside = block_in g p ports l in
    length-between (nth_block size xs i) (start_at g p) (start_at g p + g p) (omega arith) ∙ omega arith

-- so many more are moved
count_on : {T : Type 0} (moved : ℕ → ℕ) (size from : ℕ) (f : ℕ → List T) (many : ℕ) →
    ((k : ℕ) → moved (k + 1) ≡ moved k + size) → ((i : ℕ) → i < many → length (f i) ≡ size) →
    length (joined f many) + moved from ≡ moved (from + many)
count_on moved size from f zero rise long = let e : from ≡ from + 0 = omega arith in let m = ap moved e in
    omega (arith, m)
count_on moved size from f (suc many) rise long =
    let before = count_on moved size from f many rise (λ i l. long i (omega arith)) in
    let next : moved (from + suc many) ≡ moved (from + many + 1) =
    ap moved (let e : from + suc many ≡ from + many + 1 = omega arith in e) in
    omega (arith, before, next, rise (from + many), length-append (joined f many) (f many), long many (omega arith))

-- a node of one phase moves the same in each firing
module _ {A S T : Type 0} {s : Steps A S T} {n : Netlist A T} {inputs : List (List T)} {x : RingNode A T S}
    (st : IsRingNode s n inputs x) (one : phase_of s (node n x.actor) ≡ λ i. 0) where
  pub sizes_same : {side : Side} {rows : List (List ℕ)} → AreRows s side (node n x.actor) rows → (k p : ℕ) →
      p < ports_of s side (node n x.actor) → sizes s side (node n x.actor) k p ≡ sizes s side (node n x.actor) x.done p
  sizes_same {side} {rows} are k p l = sym (are.each k p l)
      ∙ ((λ i. get_or (at_phase rows (one i k)) p 0)
      ∙ ((λ i. get_or (at_phase rows (sym one i x.done)) p 0) ∙ are.each x.done p l))

-- and is always at its phase
pub at_zero : {A S T : Type 0} {s : Steps A S T} {n : Netlist A T} {inputs : List (List T)} {x : RingNode A T S} →
    IsRingNode s n inputs x → CanBatch s n x.actor → 0 ≡ phase_at x.state
at_zero {x = x} st goes = sym (phase_is st ∙ (ap (λ c. x.done % c) goes.one_phase ∙ mod-one x.done))

-- what so many of its firings take or put at each port, where each moves the same
module _ {A S T : Type 0} (s : Steps A S T) (n : Netlist A T) (x : RingNode A T S) (many : ℕ) where
  abbrev pub run_in : List T → ℕ → List T
  run_in t p = joined (λ i. block_of (sizes s Input (node n x.actor) x.done) p
      (nth_block (takes_of s (node n x.actor) 0) t i)) many

  abbrev pub run_out : List T → ℕ → List T
  run_out b p = joined (λ i. block_of (sizes s Output (node n x.actor) x.done) p
      (nth_block (puts_of s (node n x.actor) 0) b i)) many

-- so many firings: the blocks that were taken and put, and the state and what the ring node holds then
pub record ManyFirings {A S T : Type 0} (s : Steps A S T) (n : Netlist A T) (inputs : List (List T))
    (x : RingNode A T S) (many : ℕ) : Type 0 where
  pub t : List T
  pub b : List T
  pub w : NodeState T S
  pub t_long : length t ≡ takes_of s (node n x.actor) 0 * many
  pub b_long : length b ≡ puts_of s (node n x.actor) 0 * many
  pub moved : (all : ℕ) (past : List (List T)) → IsAt s inputs all (node n x.actor) past x.state →
      IsAt s inputs all (node n x.actor) (past ++ listed (nth_block (takes_of s (node n x.actor) 0) t) many) w
  pub puts : (all : ℕ) (past : List (List T)) → IsAt s inputs all (node n x.actor) past x.state →
      AreFullBlocks s (node n x.actor) past → (i : ℕ) → i < many → nth_block (puts_of s (node n x.actor) 0) b i ≡
      answer_of s inputs (node n x.actor) (past ++ listed (nth_block (takes_of s (node n x.actor) 0) t) i)
      (nth_block (takes_of s (node n x.actor) 0) t i)
  pub held : HoldsThen x (run_in s n x many t) (run_out s n x many b)

module _ {A S T : Type 0} {s : Steps A S T} {n : Netlist A T} (good : IsNet s n) {inputs : List (List T)}
    {x : RingNode A T S} (st : IsRingNode s n inputs x) {many : ℕ} (can : CanRun s n x many) where
  abbrev f : Wiring T
  f = wiring s n

  -- its node, and how much that takes and puts in each firing
  abbrev v : Node A
  v = node n x.actor

  abbrev in_size : ℕ
  in_size = takes_of s v 0

  abbrev out_size : ℕ
  out_size = puts_of s v 0

  wired : IsWired f
  wired = nets_are_wired s n good

  one : phase_of s v ≡ λ i. 0
  one = λ k i. (ap (λ c. i % c) can.goes.one_phase ∙ mod-one i) k

  abbrev pub g : ℕ → ℕ
  g = sizes s Input v x.done

  abbrev pub h : ℕ → ℕ
  h = sizes s Output v x.done

  pub in_all : in_size ≡ start_at g (inputs_of s v)
  in_all = sym (sizes_taken s v x.done ∙ ap (takes_of s v) (λ k. one k x.done))

  pub out_all : out_size ≡ start_at h (outputs_of s v)
  out_all = sym (sizes_put s v x.done ∙ ap (puts_of s v) (λ k. one k x.done))

  abbrev pub past : List (List T)
  past = taken_before f st.own x.actor x.done

  taken_long : (i : ℕ) → i < x.done → length (taken f st.own x.actor i) ≡ in_size
  taken_long i l =
      let ins : List ℕ = f.ins x.actor in
      let part : ℕ → List T = λ c. between (f.rates.consumed c i) (f.rates.consumed c (i + 1)) (st.own c) in
      let all = ins_long good st.known in
      length-flat_map part ins ∙ (sym (start_at_all (λ c. length (part c)) ins) ∙
      (start_at_same (λ p. length (part (get_or ins p 0))) g (length ins) (λ p m.
      let c : ℕ = get_or ins p 0 in
      let q : p < inputs_of s v = omega (arith, all) in
      let is = wired.ins_are x.actor p st.known m in
      let before = consumed_in good st.known p i q in
      let after = consumed_in good st.known p (i + 1) q in
      let within : f.rates.consumed c (i + 1) ≤ f.rates.consumed c x.done =
      wired.sound.consumed_rises c (i + 1) x.done (omega arith) in
      let got = st.local.got c is.0 is.1 in
      let same = sizes_same st one st.takes i p q in
      length-between (st.own c) (f.rates.consumed c i) (f.rates.consumed c (i + 1))
      (omega (arith, within, got)) ∙ omega (arith, before, after, same)) ∙ (ap (start_at g) all ∙ sym in_all)))

  whole_to : (k : ℕ) → k ≤ x.done → (i : ℕ) → i < length (taken_before f st.own x.actor k) →
      length (get_or (taken_before f st.own x.actor k) i []) ≡ in_size
  whole_to zero le i l = absurd (omega arith)
  whole_to (suc k) le i l = go (λ less. whole_to k (omega arith) i less) (taken_long k (omega arith))
      (cases_lt i (length (taken_before f st.own x.actor k)))
    where
      go : (i < length (taken_before f st.own x.actor k) →
          length (get_or (taken_before f st.own x.actor k) i []) ≡ in_size) →
          length (taken f st.own x.actor k) ≡ in_size → (i < length (taken_before f st.own x.actor k))
          ⊎ (length (taken_before f st.own x.actor k) ≤ i) →
          length (get_or (taken_before f st.own x.actor (suc k)) i []) ≡ in_size
      go before last (inl less) = ap length (get_or_append_left (taken_before f st.own x.actor k)
          (taken f st.own x.actor k ∷ []) [] i less) ∙ before less
      go before last (inr above) =
          let count = length_push (taken_before f st.own x.actor k) (taken f st.own x.actor k) in
          ap length (get_or_push (taken_before f st.own x.actor k) (taken f st.own x.actor k) [] i
          (omega (arith, count))) ∙ last

  pub whole : AreFullBlocks s v past
  whole = whole_to x.done (omega arith)

  pub past_long : length past ≡ x.done
  past_long = length_taken_before f st.own x.actor x.done

  rise_in : (p : ℕ) → p < inputs_of s v → (k : ℕ) → moved_at s Input v p (k + 1) ≡ moved_at s Input v p k + g p
  rise_in p l k =
      let c : ℕ = get_or (f.ins x.actor) p 0 in
      let up = wired.sound.consumed_rises c k (k + 1) (omega arith) in
      let before = consumed_in good st.known p k l in
      let after = consumed_in good st.known p (k + 1) l in
      let same = sizes_same st one st.takes k p l in
      omega (arith, up, before, after, same)

  rise_out : (p : ℕ) → p < outputs_of s v → (k : ℕ) → moved_at s Output v p (k + 1) ≡ moved_at s Output v p k + h p
  rise_out p l k =
      let c : ℕ = get_or (f.outs x.actor) p 0 in
      let up = wired.sound.produced_rises c k (k + 1) (omega arith) in
      let before = produced_out good st.known p k l in
      let after = produced_out good st.known p (k + 1) l in
      let same = sizes_same st one st.puts k p l in
      omega (arith, up, before, after, same)

  -- by the rows of its one phase
  pub zero_phase : 0 ≡ phase_at x.state
  zero_phase = at_zero st can.goes

  module _ {z : Node A} (z_is : z ≡ node n x.actor) {r : BatchBlocks} where
    pub in_ports : r.size ≡ takes_of s z 0 → r.sizes.now ≡ at_phase (lists x.takes.items) 0 → {ports : ℕ} →
        ports ≡ inputs_of s v → HasPorts r ports
    in_ports size_is row_is all = record {
      all = all ∙ sym (row_all st st.takes zero_phase row_is);
      size_is = size_is ∙ (ap (λ v. takes_of s v 0) z_is ∙ (in_all ∙ (sym (row_sum st st.takes zero_phase row_is)
          ∙ ap (start_at (λ p. get_or r.sizes.now p 0)) (sym all))));
    }

    pub out_ports : r.size ≡ puts_of s z 0 → r.sizes.now ≡ at_phase (lists x.puts.items) 0 → {ports : ℕ} →
        ports ≡ outputs_of s v → HasPorts r ports
    out_ports size_is row_is all = record {
      all = all ∙ sym (row_all st st.puts zero_phase row_is);
      size_is = size_is ∙ (ap (λ v. puts_of s v 0) z_is ∙ (out_all ∙ (sym (row_sum st st.puts zero_phase row_is)
          ∙ ap (start_at (λ p. get_or r.sizes.now p 0)) (sym all))));
    }

  pub holds_run : {row : List ℕ} → row ≡ at_phase (lists x.takes.items) 0 →
      {ends : List (Consumer T Global AnyItems)} → ends ≡ x.ins.items → HoldsEach (λ i. many * get_or row i 0) ends
  holds_run {row} row_is ends_is = subst (HoldsEach (λ i. many * get_or row i 0)) (sym ends_is) (λ i d h.
      let size = ap (λ v. many * v) (row_size st st.takes zero_phase row_is i (omega (arith, st.ins_all))) in
      let l = can.holds i d h in
      omega (arith, size, l))

  pub room_run : {row : List ℕ} → row ≡ at_phase (lists x.puts.items) 0 →
      {ends : List (Producer T Global AnyItems)} → ends ≡ x.outs.items → HasRoomEach (λ i. many * get_or row i 0) ends
  room_run {row} row_is ends_is = subst (HasRoomEach (λ i. many * get_or row i 0)) (sym ends_is) (λ i d h.
      let size = ap (λ v. many * v) (row_size st st.puts zero_phase row_is i (omega (arith, st.outs_all))) in
      let l = can.has_room i d h in
      omega (arith, size, l))

  -- what moved by the rows is what the firings move
  pub drew_run : {row : List ℕ} → row ≡ at_phase (lists x.takes.items) 0 → {size : ℕ} →
      size ≡ in_size → {ends : List (Consumer T Global AnyItems)} → ends ≡ x.ins.items →
      (after : List (Consumer T Global AnyItems)) (t : List T) →
      DrewEach ends after (λ p. joined (λ i. block_of (λ q. get_or row q 0) p (nth_block size t i)) many) →
      DrewEach x.ins.items after (run_in s n x many t)
  drew_run {row} row_is {size} size_is ends_is after t all = λ p d h.
      subst (Drew (get_or x.ins.items p d) (get_or after p d))
      (same_joined (λ i. block_of (λ q. get_or row q 0) p (nth_block size t i))
      (λ i. block_of g p (nth_block in_size t i)) many (λ i l.
      row_part st st.takes zero_phase row_is p
      (nth_block size t i) (omega (arith, st.ins_all)) ∙ ap (λ m. block_of g p (nth_block m t i)) size_is))
      (subst (λ es. DrewEach es after (λ r. joined (λ i. block_of (λ q. get_or row q 0) r (nth_block size t i)) many))
      ends_is all p d h)

  pub gave_run : {row : List ℕ} → row ≡ at_phase (lists x.puts.items) 0 → {size : ℕ} →
      size ≡ out_size → {ends : List (Producer T Global AnyItems)} → ends ≡ x.outs.items →
      (after : List (Producer T Global AnyItems)) (b : List T) →
      GaveEach ends after (λ p. joined (λ i. block_of (λ q. get_or row q 0) p (nth_block size b i)) many) →
      GaveEach x.outs.items after (run_out s n x many b)
  gave_run {row} row_is {size} size_is ends_is after b all = λ p d l.
      subst (Gave (get_or x.outs.items p d) (get_or after p d))
      (same_joined (λ i. block_of (λ q. get_or row q 0) p (nth_block size b i))
      (λ i. block_of h p (nth_block out_size b i)) many (λ i m.
      row_part st st.puts zero_phase row_is p (nth_block size b i)
      (omega (arith, st.outs_all)) ∙ ap (λ k. block_of h p (nth_block k b i)) size_is))
      (subst (λ es. GaveEach es after (λ r. joined (λ i. block_of (λ q. get_or row q 0) r (nth_block size b i)) many))
      ends_is all p d l)

  pub can_step_run : {z : Node A} → z ≡ node n x.actor → {size made all put : ℕ} →
      size ≡ takes_of s z 0 → made ≡ puts_of s z 0 → all ≡ size * many → put ≡ made * many →
      CanStepMany s inputs z x.state many all put
  can_step_run {z} z_is {size} {made} {all} {put} size_is made_is all_is put_is =
      subst (λ m. CanStepMany s inputs z x.state many m put) (ap (λ m. m * many) (sym size_is) ∙ sym all_is)
      (subst (λ m. CanStepMany s inputs z x.state many (takes_of s z 0 * many) m)
      (ap (λ m. m * many) (sym made_is) ∙ sym put_is)
      (subst (λ v. CanStepMany s inputs v x.state many (takes_of s v 0 * many) (puts_of s v 0 * many)) (sym z_is)
      (nodes_can_step_many s inputs v x.asked many past x.state st.at can.goes.one_phase
      (omega (arith, past_long, can.left)))))

  pub taken_within : {z : Node A} → z ≡ node n x.actor → {size : ℕ} → size ≡ takes_of s z 0 →
      size * many ≤ length x.taken.items
  taken_within z_is {size} size_is = let e : size * many ≡ in_size * many =
      ap (λ m. m * many) (size_is ∙ ap (λ v. takes_of s v 0) z_is) in omega (arith, e, can.taken_fits)

  pub put_within : {z : Node A} → z ≡ node n x.actor → {size : ℕ} → size ≡ puts_of s z 0 →
      size * many ≤ length x.put.items
  put_within z_is {size} size_is = let e : size * many ≡ out_size * many =
      ap (λ m. m * many) (size_is ∙ ap (λ v. puts_of s v 0) z_is) in omega (arith, e, can.put_fits)

  module _ (r : ManyFirings s n inputs x many) where
    open r use {t, b, t_long, b_long}

    more : (W : ℕ → List T) × IsManyMore s n inputs x.actor x.done g h st.own W
        (nth_block in_size t) (nth_block out_size b) many
    more =
        many_more good st.known can.goes.apart (sizes_same st one st.takes) (sizes_same st one st.puts) st.local
        (nth_block in_size t) (nth_block out_size b) many (λ i l. (blocks_join in_size many t t_long).0 i l ∙ in_all)
        (λ i l. (blocks_join out_size many b b_long).0 i l ∙ out_all) (r.puts x.asked past st.at whole)

    on : HasResumed st many (run_in s n x many t) (run_out s n x many b) r.w
    on = record {
      left = can.left;
      W = more.0;
      local = more.1.local;
      at = subst (λ p. IsAt s inputs x.asked v p r.w) (sym more.1.past) (r.moved x.asked past st.at);
      into = more.1.into;
      out = more.1.out;
      taken_count = λ p l. count_on (moved_at s Input v p) (g p) x.done
          (λ i. block_of g p (nth_block in_size t i)) many (rise_in p l)
          (part_long g p (inputs_of s v) in_size many t l in_all t_long);
      put_count = λ p l. count_on (moved_at s Output v p) (h p) x.done
          (λ i. block_of h p (nth_block out_size b i)) many (rise_out p l)
          (part_long h p (outputs_of s v) out_size many b l out_all b_long);
    }

    pub run_fired : IsRingNode s n inputs (ring_node_after x many r.w r.held)
        × HasMoved s n x (ring_node_after x many r.w r.held)
    run_fired = gone_on st good on r.held

-- as many firings can be batched as each of the tests leaves
module _ {A S T : Type 0} {s : Steps A S T} {n : Netlist A T} {inputs : List (List T)} {x : RingNode A T S}
    (st : IsRingNode s n inputs x) (goes : CanBatch s n x.actor) {z : Node A} (z_is : z ≡ node n x.actor)
    {takes puts : List ℕ} (takes_is : takes ≡ at_phase (lists x.takes.items) 0)
    (puts_is : puts ≡ at_phase (lists x.puts.items) 0) where
  first : 0 ≡ phase_at x.state
  first = at_zero st goes

  pub can_run : {size made by_taken by_put held free most : ℕ} → size ≡ takes_of s z 0 → made ≡ puts_of s z 0 →
      x.done + most ≤ x.asked → by_taken ≤ most → by_taken * size ≤ length x.taken.items → by_put ≤ by_taken →
      by_put * made ≤ length x.put.items →
      held ≤ by_put → free ≤ held → {ins : List (Consumer T Global AnyItems)} → ins ≡ x.ins.items →
      HoldsEach (λ i. held * get_or takes i 0) ins → {outs : List (Producer T Global AnyItems)} → outs ≡ x.outs.items →
      HasRoomEach (λ i. free * get_or puts i 0) outs → CanRun s n x free
  can_run {size} {made} {by_taken} {by_put} {held} {free} size_is made_is left a taken b put c d ins_is holds outs_is
      room = record {
        goes = goes;
        left = omega arith;
        holds = λ i e h.
            let row = row_size st st.takes first takes_is i (omega (arith, st.ins_all)) in
            let there = subst (HoldsEach (λ i. held * get_or takes i 0)) ins_is holds i e h in
            let few = few_kept free held (get_or takes i 0) _ d there in
            let same = ap (λ v. free * v) row in
            omega (arith, same, few);
        has_room = λ i e h.
            let row = row_size st st.puts first puts_is i (omega (arith, st.outs_all)) in
            let there = subst (HasRoomEach (λ i. free * get_or puts i 0)) outs_is room i e h in
            let same = ap (λ v. free * v) row in
            omega (arith, same, there);
        taken_fits =
            let few = few_kept free by_taken size _ (omega arith) taken in
            let same : takes_of s (node n x.actor) 0 * free ≡ free * size =
            mul_comm (takes_of s (node n x.actor) 0) free
            ∙ ap (λ v. free * v) (sym (size_is ∙ ap (λ v. takes_of s v 0) z_is)) in
            omega (arith, same, few);
        put_fits =
            let few = few_kept free by_put made _ (omega arith) put in
            let same : puts_of s (node n x.actor) 0 * free ≡ free * made =
            mul_comm (puts_of s (node n x.actor) 0) free
            ∙ ap (λ v. free * v) (sym (made_is ∙ ap (λ v. puts_of s v 0) z_is)) in
            omega (arith, same, few);
      }

-- fewer firings can be batched too
pub fewer_run : {A S T : Type 0} (s : Steps A S T) (n : Netlist A T) (x : RingNode A T S) (few many : ℕ) → few ≤ many →
    CanRun s n x many → CanRun s n x few
fewer_run s n x few many l can = record {
  goes = can.goes;
  left = let a = can.left in omega arith;
  holds = λ i d h. few_kept few many (sizes s Input (node n x.actor) x.done i) _ l (can.holds i d h);
  has_room = λ i d h. few_kept few many (sizes s Output (node n x.actor) x.done i) _ l (can.has_room i d h);
  taken_fits = let a = can.taken_fits in let m : takes_of s (node n x.actor) 0 * few ≤
      takes_of s (node n x.actor) 0 * many = mul-le-mul_left _ l in omega arith;
  put_fits = let a = can.put_fits in let m : puts_of s (node n x.actor) 0 * few ≤ puts_of s (node n x.actor) 0 * many =
      mul-le-mul_left _ l in omega arith;
}
