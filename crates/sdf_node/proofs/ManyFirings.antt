-- Many firings of a node of one phase.
use Rattle.std.proofs.Common.{◌≡◌, ℕ, zero, suc, ◌+◌, ◌*◌, ◌%◌, ◌≤◌, ◌<◌, List, [], ◌∷◌, ◌++◌, length, get_or, refl}
use Rattle.std.proofs.Common.{sym, ap, ◌∙◌, subst, inl, inr, ◌⊎◌, arith, add-one, vec_capacity, length-append}
use Rattle.std.specs.List.{between, flat_map}
use Rattle.std.specs.Global.{Global}
use Rattle.std.specs.declared.vec.Vec.{Vec}
use Rattle.std.proofs.Math.Nat.{mul-le-mul_left, mod-one, mul-suc}
use Rattle.std.proofs.lemmas.Nat.{mod_below}
use Rattle.std.proofs.lemmas.Bool.{cases_lt}
use Rattle.std.proofs.lemmas.List.{append-nil, append_assoc, length_push, take_all, get_or_append_left, get_or_push}
use Rattle.std.proofs.lemmas.List.Edits.{between_none, length-between}
use Rattle.sdf_graph.specs.Rates.{sum_to}
use Rattle.sdf_actor.specs.Steps.{Steps, phase, total_in, total_out, sum_in, sum_out, block_at, state_at, puts_to}
use Rattle.sdf_actor.specs.Steps.{state_after, PutsFit}
use Rattle.sdf_actor.specs.Nets.{answer_of, cycle_of}
use Rattle.sdf_actor.specs.declared.node.Node.{Node}
use Rattle.sdf_actor.specs.declared.node.Node.TheVariants as node
use Rattle.sdf_node.specs.declared.node.NodeState.{NodeState}
use Rattle.sdf_node.specs.declared.node.NodeState.TheVariants.{Source, Sink, Inner}
use Rattle.sdf_node.specs.Nodes.{takes_of, puts_of, IsAt}
use Rattle.sdf_node.specs.Many.{nth_block, listed, joined, AreFullBlocks, CanStepMany}
use Rattle.sdf_node.proofs.Nodes.{state_more}
use Rattle.sdf_node.proofs.Joined.{length_after, flat_listed, joined_between, joined_blocks, length_nth, joined_part}

sum_of_equal : (f : ℕ → ℕ) (v many : ℕ) → ((i : ℕ) → f i ≡ v) → sum_to f many ≡ v * many
sum_of_equal f v zero same = let e : 0 ≡ v * 0 = omega arith in e
sum_of_equal f v (suc many) same = omega (arith, sum_of_equal f v many same, same many, mul-suc v many)

-- whole blocks behind whole blocks
whole_more : {T : Type 0} (size : ℕ) (past : List (List T)) (b : ℕ → List T) (many : ℕ) →
    ((i : ℕ) → i < length past → length (get_or past i []) ≡ size) →
    ((i : ℕ) → i < many → length (b i) ≡ size) → (i : ℕ) → i < length (past ++ listed b many) →
    length (get_or (past ++ listed b many) i []) ≡ size
whole_more size past b zero whole long i l = ap (λ xs. length (get_or xs i [])) (append-nil past)
    ∙ whole i (let e = ap length (append-nil past) in omega arith)
whole_more size past b (suc many) whole long i l =
    go (λ less. whole_more size past b many whole (λ j h. long j (omega arith)) i less)
    (cases_lt i (length (past ++ listed b many)))
  where
    all : past ++ listed b (suc many) ≡ (past ++ listed b many) ++ b many ∷ []
    all = sym (append_assoc past (listed b many) (b many ∷ []))

    count : length (past ++ listed b (suc many)) ≡ length (past ++ listed b many) + 1
    count = ap length all ∙ length_push (past ++ listed b many) (b many)

    go : (i < length (past ++ listed b many) → length (get_or (past ++ listed b many) i []) ≡ size) →
        (i < length (past ++ listed b many)) ⊎ (length (past ++ listed b many) ≤ i) →
        length (get_or (past ++ listed b (suc many)) i []) ≡ size
    go before (inl less) = ap (λ xs. length (get_or xs i [])) all
        ∙ (ap length (get_or_append_left (past ++ listed b many) (b many ∷ []) [] i less) ∙ before less)
    go before (inr last) = ap (λ xs. length (get_or xs i [])) all
        ∙ (ap length (get_or_push (past ++ listed b many) (b many) [] i (omega (arith, count)))
        ∙ long many (omega arith))

-- an actor of one phase
module _ {A S T : Type 0} (s : Steps A S T) (x : A) (one : s.cycle x ≡ 1) where
  pub at_none : (i : ℕ) → phase s x i ≡ 0
  at_none i = ap (λ c. i % c) one ∙ mod-one i

  pub sum_in_is : (j i : ℕ) → sum_in s x j i ≡ total_in s x 0 * i
  sum_in_is j i = sum_of_equal (λ n. total_in s x (phase s x (j + n))) (total_in s x 0) i
      (λ n. ap (total_in s x) (at_none (j + n)))

  pub sum_out_is : (j i : ℕ) → sum_out s x j i ≡ total_out s x 0 * i
  sum_out_is j i = sum_of_equal (λ n. total_out s x (phase s x (j + n))) (total_out s x 0) i
      (λ n. ap (total_out s x) (at_none (j + n)))

  block_is : (j : ℕ) (t : List T) (i : ℕ) → block_at s x j t i ≡ nth_block (total_in s x 0) t i
  block_is j t i = λ k. between (sum_in_is j i k) (sum_in_is j (i + 1) k) t

  pub states : (j : ℕ) (past : List (List T)) (t : List T) (i : ℕ) →
      state_at s x j (state_after s x past) t i ≡ state_after s x (past ++ listed (nth_block (total_in s x 0) t) i)
  states j past t zero = ap (state_after s x) (sym (append-nil past))
  states j past t (suc i) =
      let b : ℕ → List T = nth_block (total_in s x 0) t in
      let turn : phase s x (j + i) ≡ phase s x (length (past ++ listed b i)) =
      at_none (j + i) ∙ sym (at_none (length (past ++ listed b i))) in
      (λ k. s.next x (turn k) (states j past t i k) (block_is j t i k)) ∙
      (state_more s x (past ++ listed b i) (b i) ∙ ap (state_after s x) (append_assoc past (listed b i) (b i ∷ [])))

  -- what firing i puts
  abbrev answer : List (List T) → List T → ℕ → List T
  answer past t i = s.puts x (phase s x (length (past ++ listed (nth_block (total_in s x 0) t) i)))
      (state_after s x (past ++ listed (nth_block (total_in s x 0) t) i)) (nth_block (total_in s x 0) t i)

  puts_joined : (j : ℕ) (past : List (List T)) (t : List T) (i : ℕ) →
      puts_to s x j (state_after s x past) t i ≡ joined (answer past t) i
  puts_joined j past t zero = refl
  puts_joined j past t (suc i) =
      let turn : phase s x (j + i) ≡ phase s x (length (past ++ listed (nth_block (total_in s x 0) t) i)) =
      at_none (j + i) ∙ sym (at_none (length (past ++ listed (nth_block (total_in s x 0) t) i))) in
      λ k. puts_joined j past t i k ++ s.puts x (turn k) (states j past t i k) (block_is j t i k)

  answer_long : PutsFit s x → (past : List (List T)) (t : List T) (many : ℕ) →
      ((i : ℕ) → i < length past → length (get_or past i []) ≡ total_in s x 0) → length t ≡ total_in s x 0 * many →
      (i : ℕ) → i < many → length (answer past t i) ≡ total_out s x 0
  answer_long fit past t many whole long i l =
      let b : ℕ → List T = nth_block (total_in s x 0) t in
      fit (past ++ listed b i) (b i)
      (λ m h. whole_more (total_in s x 0) past b i whole
      (λ n g. length_nth (total_in s x 0) t n many (omega arith) long) m h ∙ ap (total_in s x) (sym (at_none m)))
      (length_nth (total_in s x 0) t i many l long ∙ ap (total_in s x) (sym (at_none (length (past ++ listed b i))))) ∙
      ap (total_out s x) (at_none (length (past ++ listed b i)))

  pub part_is : PutsFit s x → (j : ℕ) (past : List (List T)) (t : List T) (many : ℕ) →
      ((i : ℕ) → i < length past → length (get_or past i []) ≡ total_in s x 0) → length t ≡ total_in s x 0 * many →
      (i : ℕ) → i < many → nth_block (total_out s x 0) (puts_to s x j (state_after s x past) t many) i ≡ answer past t i
  part_is fit j past t many whole long i l =
      ap (λ xs. nth_block (total_out s x 0) xs i) (puts_joined j past t many) ∙
      joined_part (answer past t) (total_out s x 0) many (answer_long fit past t many whole long) i l

module _ {A S T : Type 0} (s : Steps A S T) (inputs : List (List T)) where
  pub can_step_many : (x : Node A) (all many : ℕ) (past : List (List T)) (w : NodeState T S) →
      IsAt s inputs all x past w → cycle_of s x ≡ 1 → length past + many ≤ all →
      CanStepMany s inputs x w many (takes_of s x 0 * many) (puts_of s x 0 * many)
  can_step_many (node.Source ext block) all many past (Source next) is one left =
      let within : block * (length past + many) ≤ block * all = mul-le-mul_left block left in
      let split : block * (length past + many) ≡ block * length past + block * many = omega arith in
      (is.1, omega (arith, is.0, is.2), refl)
  can_step_many (node.Sink ext block) all many past (Sink list) is one left =
      let within : block * (length past + many) ≤ block * all = mul-le-mul_left block left in
      let split : block * (length past + many) ≡ block * length past + block * many = omega arith in
      (omega (arith, is.1, is.2), refl, let e : 0 * many ≡ 0 = omega arith in e)
  can_step_many (node.Inner x) all many past (Inner j state) is one left =
      let below : phase s x (length past) < s.cycle x = mod_below (length past) (s.cycle x) (omega arith) in
      (one, omega (arith, is.0, below), refl, refl)
  can_step_many (node.Source ext block) all many past (Sink list) is one left = absurd is
  can_step_many (node.Source ext block) all many past (Inner j state) is one left = absurd is
  can_step_many (node.Sink ext block) all many past (Source next) is one left = absurd is
  can_step_many (node.Sink ext block) all many past (Inner j state) is one left = absurd is
  can_step_many (node.Inner x) all many past (Source next) is one left = absurd is
  can_step_many (node.Inner x) all many past (Sink list) is one left = absurd is

  -- by what sort of node it is
  both : {X Y : Type 0} (P : X → Y → Type 0) (a a' : X) (b b' : Y) → a ≡ a' → b ≡ b' → P a b → P a' b'
  both P a a' b b' e f p = subst (P a') f (subst (λ z. P z b) e p)

  -- what the contract says of a node's state and of what it puts
  abbrev pub IsOn : ℕ → ℕ → List (List T) → List T → Node A → NodeState T S → Type 0
  IsOn all many past t x w = IsAt s inputs all x (past ++ listed (nth_block (takes_of s x 0) t) many) w

  abbrev pub IsPart : List (List T) → List T → List T → ℕ → Node A → Type 0
  IsPart past t put i x = nth_block (puts_of s x 0) put i ≡
      answer_of s inputs x (past ++ listed (nth_block (takes_of s x 0) t) i) (nth_block (takes_of s x 0) t i)

  module _ (y : Node A) (w : NodeState T S) (many : ℕ) (t : List T) (more : ℕ)
      (can : CanStepMany s inputs y w many (length t) more) (x : A) (j : ℕ) (state : S) (y_is : y ≡ node.Inner x)
      (w_is : w ≡ Inner j state) where
    inner_can : CanStepMany s inputs (node.Inner x) (Inner j state) many (length t) more
    inner_can = both (λ z v. CanStepMany s inputs z v many (length t) more) y (node.Inner x) w
        (Inner j state) y_is w_is can

    pub inner_taken : length t ≡ sum_in s x j many
    inner_taken = inner_can.2 ∙ sym (sum_in_is s x inner_can.0 j many)

    pub inner_put : more ≡ sum_out s x j many
    inner_put = inner_can.3 ∙ sym (sum_out_is s x inner_can.0 j many)

  module _ (y : Node A) (w : NodeState T S) (many all : ℕ) (past : List (List T)) (t : List T) (more : ℕ)
      (can : CanStepMany s inputs y w many (length t) more) (at : IsAt s inputs all y past w) where
    module _ (ext block next : ℕ) (y_is : y ≡ node.Source ext block) (w_is : w ≡ Source next) where
      source_can : CanStepMany s inputs (node.Source ext block) (Source next) many (length t) more
      source_can = both (λ x v. CanStepMany s inputs x v many (length t) more) y (node.Source ext block) w
          (Source next) y_is w_is can

      source_at : IsAt s inputs all (node.Source ext block) past (Source next)
      source_at = both (λ x v. IsAt s inputs all x past v) y (node.Source ext block) w (Source next) y_is w_is at

      source_end : next + more ≡ block * length past + block * many
      source_end = omega (arith, source_at.0, source_can.2)

      pub source_on : (after : ℕ) → after ≡ next + more → IsOn all many past t y (Source after)
      source_on after after_is =
          let count = length_after past (nth_block 0 t) many in
          let split : block * (length past + many) ≡ block * length past + block * many = omega arith in
          let end : after ≡ block * (length past + many) = omega (arith, source_end, after_is) in
          subst (λ x. IsOn all many past t x (Source after)) (sym y_is)
          (end ∙ ap (λ i. block * i) (sym count), source_at.1, source_at.2)

      pub source_part : (put : List T) → put ≡ between next (next + more) (get_or inputs ext []) → (i : ℕ) → i < many →
          IsPart past t put i y
      source_part put put_is i l =
          let list : List T = get_or inputs ext [] in
          let a : ℕ = block * length past in
          let f : ℕ → List T = λ j. between (a + block * j) (a + block * (j + 1)) list in
          let whole : put ≡ joined f many = put_is ∙ ((λ k. between (source_at.0 k) (source_end k) list)
          ∙ sym (joined_between block a list many)) in
          let long : (j : ℕ) → j < many → length (f j) ≡ block = λ j h.
          let within : block * (j + 1) ≤ block * many = mul-le-mul_left block (omega arith) in
          let one : block * (j + 1) ≡ block * j + block = ap (λ m. block * m) (add-one j) ∙ mul-suc block j in
          length-between list (a + block * j) (a + block * (j + 1)) (omega (arith, source_can.1, source_end))
          ∙ omega arith in
          let count = length_after past (nth_block 0 t) i in
          let from : a + block * i ≡ block * length (past ++ listed (nth_block 0 t) i) =
          (let e : a + block * i ≡ block * (length past + i) = omega arith in e)
          ∙ ap (λ m. block * m) (sym count) in
          let to : a + block * (i + 1) ≡ block * (length (past ++ listed (nth_block 0 t) i) + 1) =
          (let e : a + block * (i + 1) ≡ block * (length past + i + 1) = omega arith in e)
          ∙ ap (λ m. block * (m + 1)) (sym count) in
          subst (IsPart past t put i) (sym y_is)
          (ap (λ xs. nth_block block xs i) whole ∙ (joined_part f block many long i l
          ∙ (λ k. between (from k) (to k) list)))

    module _ (ext block : ℕ) (list : Vec T Global) (y_is : y ≡ node.Sink ext block) (w_is : w ≡ Sink list) where
      sink_can : CanStepMany s inputs (node.Sink ext block) (Sink list) many (length t) more
      sink_can = both (λ x v. CanStepMany s inputs x v many (length t) more) y (node.Sink ext block) w
          (Sink list) y_is w_is can

      sink_at : IsAt s inputs all (node.Sink ext block) past (Sink list)
      sink_at = both (λ x v. IsAt s inputs all x past v) y (node.Sink ext block) w (Sink list) y_is w_is at

      pub sink_on : (after : Vec T Global) → after.items ≡ list.items ++ t → vec_capacity after ≡ vec_capacity list →
          IsOn all many past t y (Sink after)
      sink_on after items capacity =
          let b : ℕ → List T = nth_block block t in
          let count = length_after past b many in
          let split : block * (length past + many) ≡ block * length past + block * many = omega arith in
          let long : length after.items ≡ block * (length past + many) =
          ap length items ∙ (length-append list.items t ∙ omega (arith, sink_at.1, sink_can.1)) in
          let parts : joined b many ≡ t = joined_blocks block t many
          ∙ take_all (block * many) t (omega (arith, sink_can.1)) in
          let all_taken : after.items ≡ flat_map (λ x. x) (past ++ listed b many) =
          items ∙ ((λ k. sink_at.0 k ++ sym parts k) ∙ sym (flat_listed past b many)) in
          subst (λ x. IsOn all many past t x (Sink after)) (sym y_is)
          (all_taken, long ∙ ap (λ i. block * i) (sym count), omega (arith, sink_at.2, capacity))

      pub sink_part : (put : List T) (i : ℕ) → IsPart past t put i y
      sink_part put i =
          let from : 0 * i ≡ 0 = omega arith in
          let to : 0 * (i + 1) ≡ 0 = omega arith in
          subst (IsPart past t put i) (sym y_is) ((λ k. between (from k) (to k) put) ∙ between_none put 0)

    module _ (x : A) (j : ℕ) (state : S) (y_is : y ≡ node.Inner x) (w_is : w ≡ Inner j state) where
      can_inner : CanStepMany s inputs (node.Inner x) (Inner j state) many (length t) more
      can_inner = inner_can y w many t more can x j state y_is w_is

      inner_at : IsAt s inputs all (node.Inner x) past (Inner j state)
      inner_at = both (λ z v. IsAt s inputs all z past v) y (node.Inner x) w (Inner j state) y_is w_is at

      pub inner_on : (state' : S) → state' ≡ state_at s x j state t many → IsOn all many past t y (Inner j state')
      inner_on state' next =
          let one = can_inner.0 in
          let still : j ≡ phase s x (length (past ++ listed (nth_block (total_in s x 0) t) many)) =
          inner_at.0 ∙ (at_none s x one (length past) ∙ sym
          (at_none s x one (length (past ++ listed (nth_block (total_in s x 0) t) many)))) in
          subst (λ z. IsOn all many past t z (Inner j state')) (sym y_is)
          (still, next ∙ (ap (λ z. state_at s x j z t many) inner_at.1 ∙ states s x one j past t many))

      pub inner_part : PutsFit s x → AreFullBlocks s y past → (put : List T) → put ≡ puts_to s x j state t many →
          (i : ℕ) → i < many → IsPart past t put i y
      inner_part fit whole put put_is i l =
          let one = can_inner.0 in
          let whole' : AreFullBlocks s (node.Inner x) past = subst (λ z. AreFullBlocks s z past) y_is whole in
          subst (IsPart past t put i) (sym y_is)
          (ap (λ xs. nth_block (total_out s x 0) xs i) (put_is ∙ ap (λ z. puts_to s x j z t many) inner_at.1)
          ∙ part_is s x one fit j past t many whole' can_inner.2 i l)
