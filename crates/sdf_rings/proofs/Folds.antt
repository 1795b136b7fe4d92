-- States folded over blocks, from a firing on and from the first one on.
use Rattle.std.proofs.Common.{◌≡◌, ℕ, zero, suc, ◌+◌, List, [], ◌∷◌, ◌++◌, ◌*◌, get_or, length, refl, sym, ap, ◌∙◌}
use Rattle.std.proofs.Common.{arith, add-one}
use Rattle.std.proofs.lemmas.List.{length_push}
use Rattle.std.specs.List.{between}
use Rattle.sdf_actor.specs.declared.node.Node.{Node}
use Rattle.sdf_actor.specs.declared.node.Node.TheVariants.{Source, Sink, Inner}
use Rattle.sdf_actor.specs.Steps.{Steps, phase, state_from, state_after}
use Rattle.sdf_actor.specs.Histories.{Wiring, taken, taken_before}
use Rattle.sdf_actor.specs.Nets.{answer_of}
use Rattle.sdf_rings.specs.MachineLaws.{taken_on, state_on, put_from, IsStateOf}

-- one block more is one step more
state_more : {A S T : Type 0} (s : Steps A S T) (x : A) (i : ℕ) (state : S) (bs : List (List T)) (b : List T) →
    state_from s x i state (bs ++ b ∷ []) ≡ s.next x (phase s x (i + length bs)) (state_from s x i state bs) b
state_more s x i state [] b = let e : i + 0 ≡ i = omega arith in ap (λ j. s.next x (phase s x j) state b) (sym e)
state_more s x i state (a ∷ bs) b =
    let e : (i + 1) + length bs ≡ i + length (a ∷ bs) = omega arith in
    state_more s x (i + 1) (s.next x (phase s x i) state a) bs b ∙
    ap (λ j. s.next x (phase s x j) (state_from s x (i + 1) (s.next x (phase s x i) state a) bs) b) e

module _ {A S T : Type 0} (s : Steps A S T) (f : Wiring T) (V : ℕ → List T) (a : ℕ) where
  pub length_before : (i : ℕ) → length (taken_before f V a i) ≡ i
  length_before zero = refl
  length_before (suc i) = length_push (taken_before f V a i) (taken f V a i)
      ∙ (ap (λ n. n + 1) (length_before i) ∙ add-one i)

  length_on : (i j : ℕ) → length (taken_on f V a i j) ≡ j
  length_on i zero = refl
  length_on i (suc j) = length_push (taken_on f V a i j) (taken f V a (i + j))
      ∙ (ap (λ n. n + 1) (length_on i j) ∙ add-one j)

  state_goes : (x : A) (i : ℕ) (state : S) → state ≡ state_after s x (taken_before f V a i) → (j : ℕ) →
      state_from s x i state (taken_on f V a i j) ≡ state_after s x (taken_before f V a (i + j))
  state_goes x i state is zero = let e : i ≡ i + 0 = omega arith in
      is ∙ ap (λ n. state_after s x (taken_before f V a n)) e
  state_goes x i state is (suc j) =
      let e : suc (i + j) ≡ i + suc j = omega arith in
      let count : i + length (taken_on f V a i j) ≡ i + j = ap (λ n. i + n) (length_on i j) in
      let total : 0 + length (taken_before f V a (i + j)) ≡ i + j = omega (arith, length_before (i + j)) in
      state_more s x i state (taken_on f V a i j) (taken f V a (i + j)) ∙
      (ap (λ n. s.next x (phase s x n) (state_from s x i state (taken_on f V a i j)) (taken f V a (i + j))) count ∙
      (ap (λ t. s.next x (phase s x (i + j)) t (taken f V a (i + j))) (state_goes x i state is j) ∙
      (ap (λ n. s.next x (phase s x n) (state_after s x (taken_before f V a (i + j)))
      (taken f V a (i + j))) (sym total) ∙
      (sym (state_more s x 0 (s.start x) (taken_before f V a (i + j)) (taken f V a (i + j))) ∙
      ap (λ n. state_after s x (taken_before f V a n)) e))))

  -- the state of a node after j firings more
  pub state_is : (x : Node A) (i j m : ℕ) (state new : S) → i + j ≡ m → IsStateOf s x (taken_before f V a i) state →
      new ≡ state_on s x i state (taken_on f V a i j) → IsStateOf s x (taken_before f V a m) new
  state_is (Source ext size) i j m state new e is now = tt
  state_is (Sink ext size) i j m state new e is now = tt
  state_is (Inner x) i j m state new e is now = now
      ∙ (state_goes x i state is j ∙ ap (λ n. state_after s x (taken_before f V a n)) e)

  -- what it puts is the answer to all that it took
  pub put_is : (inputs : List (List T)) (x : Node A) (i j : ℕ) (state : S) (now : List T) →
      IsStateOf s x (taken_before f V a i) state →
      put_from s inputs x (i + j) (state_on s x i state (taken_on f V a i j)) now ≡
      answer_of s inputs x (taken_before f V a (i + j)) now
  put_is inputs (Source ext size) i j state now is =
      ap (λ n. between (size * n) (size * (n + 1)) (get_or inputs ext [])) (sym (length_before (i + j)))
  put_is inputs (Sink ext size) i j state now is = refl
  put_is inputs (Inner x) i j state now is =
      ap (λ t. s.puts x (phase s x (i + j)) t now) (state_goes x i state is j) ∙
      ap (λ n. s.puts x (phase s x n) (state_after s x (taken_before f V a (i + j))) now) (sym (length_before (i + j)))
