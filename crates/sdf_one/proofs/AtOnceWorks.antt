-- A node's work, by its sort, over a batch of firings.
use Rattle.std.proofs.Common.{◌≡◌, ℕ, zero, suc, ◌+◌, ◌*◌, ◌%◌, ◌≤◌, ◌<◌, List, [], ◌++◌, length, get_or, cond, refl}
use Rattle.std.proofs.Common.{sym, ap, ◌∙◌, subst, arith}
use Rattle.std.specs.List.{between, flat_map}
use Rattle.std.proofs.lemmas.Bool.{eq-eqb}
use Rattle.std.proofs.lemmas.Nat.{mod_below}
use Rattle.std.proofs.Math.Nat.{mul-le-mul_left, mul_comm, mod-one}
use Rattle.std.specs.declared.vec.Vec.{Vec}
use Rattle.sdf_graph.specs.Rates.{sum_to}
use Rattle.sdf_actor.specs.declared.node.Node.{Node}
use Rattle.sdf_actor.specs.declared.node.Node.TheVariants as node
use Rattle.sdf_actor.specs.Steps.{Steps, phase, total_in, total_out, sum_in, sum_out, state_at, puts_to, state_after}
use Rattle.sdf_actor.specs.Nets.{inputs_of, outputs_of, cycle_of}
use Rattle.sdf_one.specs.declared.work.Work.{Work}
use Rattle.sdf_one.specs.declared.work.Work.TheVariants.{Source, Sink, Inner}
use Rattle.sdf_queues.specs.Lists.{list, capacity}
use Rattle.sdf_queues.specs.Sizes.{in_all, out_all}
use Rattle.sdf_one.specs.Firings.{added}
use Rattle.sdf_one.specs.AtOnce.{CanBatch, all_made, HaveWorked, CanWorkBatch}
use Rattle.sdf_one.specs.Runs.{IsWork}
use Rattle.sdf_one.proofs.Parts.{none_of}

-- a sum of equal terms
pub sum_of_equal : (f : ℕ → ℕ) (v many : ℕ) → ((i : ℕ) → f i ≡ v) → sum_to f many ≡ many * v
sum_of_equal f v zero same = omega arith
sum_of_equal f v (suc many) same =
    let split : suc many * v ≡ many * v + v = omega arith in
    omega (arith, sum_of_equal f v many same, same many)

-- where there is one phase
pub at_none : {A S T : Type 0} (s : Steps A S T) (x : A) → s.cycle x ≡ 1 → (i : ℕ) → phase s x i ≡ 0
at_none s x one i = ap (λ c. i % c) one ∙ mod-one i

-- what a node answers in so many firings that take b
abbrev pub all_answers : {A S T : Type 0} → Steps A S T → List (List T) → ℕ → Node A → List (List T) → List T → List T
all_answers s inputs times (node.Source ext block) past b =
    between (block * length past) (block * (length past + times)) (get_or inputs ext [])
all_answers s inputs times (node.Sink ext block) past b = []
all_answers s inputs times (node.Inner x) past b = puts_to s x (phase s x (length past)) (state_after s x past) b times

module _ {A S T Z : Type 0} (s : Steps A S T) (inputs : List (List T)) (many times : ℕ) where
  -- a node whose firings can be batched has one phase
  pub one_phase : (x : Node A) (past : List (List T)) (w : Work A T S) (outputs : List (Vec T Z)) (ins outs : List ℕ) →
      IsWork s inputs outputs many x past w → CanBatch s w ins outs → cycle_of s x ≡ 1
  one_phase (node.Source ext block) past (Source e next size) outputs ins outs is at = refl
  one_phase (node.Sink ext block) past (Sink e) outputs ins outs is at = refl
  one_phase (node.Inner x) past (Inner actor j state taken put) outputs ins outs is at =
      ap s.cycle (sym is.0) ∙ at.0
  one_phase (node.Source ext block) past (Sink e) outputs ins outs is at = absurd is
  one_phase (node.Source ext block) past (Inner actor j state taken put) outputs ins outs is at = absurd is
  one_phase (node.Sink ext block) past (Source e next size) outputs ins outs is at = absurd is
  one_phase (node.Sink ext block) past (Inner actor j state taken put) outputs ins outs is at = absurd is
  one_phase (node.Inner x) past (Source e next size) outputs ins outs is at = absurd is
  one_phase (node.Inner x) past (Sink e) outputs ins outs is at = absurd is

  -- it has one channel on each side at most, and not the same on both
  pub few_channels : (x : Node A) (past : List (List T)) (w : Work A T S) (outputs : List (Vec T Z))
      (ins outs : List ℕ) → IsWork s inputs outputs many x past w → CanBatch s w ins outs →
      length ins ≡ inputs_of s x → length outs ≡ outputs_of s x →
      (length ins ≤ 1) × (length outs ≤ 1) × (0 < length ins → 0 < length outs → get_or ins 0 0 ≡ get_or outs 0 0 → ⊥)
  few_channels (node.Source ext block) past (Source e next size) outputs ins outs is at in_is out_is =
      (omega (arith, in_is), omega (arith, out_is), λ some l same. absurd (omega (arith, in_is)))
  few_channels (node.Sink ext block) past (Sink e) outputs ins outs is at in_is out_is =
      (omega (arith, in_is), omega (arith, out_is), λ l some same. absurd (omega (arith, out_is)))
  few_channels (node.Inner x) past (Inner actor j state taken put) outputs ins outs is at in_is out_is =
      (omega (arith, at.1), omega (arith, at.2), λ l some same. at.3 same)
  few_channels (node.Source ext block) past (Sink e) outputs ins outs is at in_is out_is = absurd is
  few_channels (node.Source ext block) past (Inner actor j state taken put) outputs ins outs is at in_is
      out_is = absurd is
  few_channels (node.Sink ext block) past (Source e next size) outputs ins outs is at in_is out_is = absurd is
  few_channels (node.Sink ext block) past (Inner actor j state taken put) outputs ins outs is at in_is out_is =
      absurd is
  few_channels (node.Inner x) past (Source e next size) outputs ins outs is at in_is out_is = absurd is
  few_channels (node.Inner x) past (Sink e) outputs ins outs is at in_is out_is = absurd is

  pub one_in : (x : A) (past : List (List T)) (w : Work A T S) (outputs : List (Vec T Z)) (ins outs : List ℕ) →
      IsWork s inputs outputs many (node.Inner x) past w → CanBatch s w ins outs → length ins ≡ 1
  one_in x past (Inner actor j state taken put) outputs ins outs is at = at.1
  one_in x past (Source e next size) outputs ins outs is at = absurd is
  one_in x past (Sink e) outputs ins outs is at = absurd is

  -- where it has so many firings left, it can do them
  pub can_work : (x : Node A) (past : List (List T)) (w : Work A T S) (outputs : List (Vec T Z)) (ins outs : List ℕ)
      (take put : ℕ) →
      IsWork s inputs outputs many x past w → CanBatch s w ins outs → length past + times ≤ many →
      length ins ≡ inputs_of s x → length outs ≡ outputs_of s x →
      (length ins ≡ 1 → take ≡ times * in_all s x (length past)) →
      (length outs ≡ 1 → put ≡ times * out_all s x (length past)) →
      ((ext block : ℕ) → x ≡ node.Sink ext block → length (flat_map (λ b. b) past) ≡ block * length past) →
      CanWorkBatch s inputs times w ins outs take put outputs
  can_work (node.Source ext block) past (Source e next size) outputs ins outs take put is at left in_is out_is
      take_is put_is long =
      let within : block * (length past + times) ≤ block * many = mul-le-mul_left block left in
      let split : block * (length past + times) ≡ block * length past + block * times = omega arith in
      let same : size * times ≡ block * times = ap (λ b. b * times) is.3 in
      let end : next + size * times ≤ length (get_or inputs ext []) = omega (arith, is.2, is.4) in
      let each : out_all s (node.Source ext block) (length past) ≡ size = omega (arith, is.3) in
      let more : put ≡ size * times = put_is out_is ∙ (ap (λ v. times * v) each ∙ mul_comm times size) in
      (none_of ins in_is, out_is, more, rw is.0 is.1, rw is.0 end)
  can_work (node.Sink ext block) past (Sink e) outputs ins outs take put is at left in_is out_is take_is put_is long =
      let within : block * (length past + times) ≤ block * many = mul-le-mul_left block left in
      let split : block * (length past + times) ≡ block * length past + block * times = omega arith in
      let each : in_all s (node.Sink ext block) (length past) ≡ block = omega arith in
      let size : take ≡ block * times = take_is in_is ∙ (ap (λ v. times * v) each ∙ mul_comm times block) in
      let all : length (list outputs ext) ≡ block * length past = ap length is.2 ∙ long ext block refl in
      let fits : length (list outputs ext) + take ≤ capacity outputs ext = omega (arith, is.3) in
      (none_of outs out_is, in_is, rw is.0 is.1, rw is.0 fits)
  can_work (node.Inner x) past (Inner actor j state taken put') outputs ins outs take put is at left in_is
      out_is take_is put_is long =
      let one : s.cycle x ≡ 1 = ap s.cycle (sym is.0) ∙ at.0 in
      let below : phase s x (length past) < s.cycle x = mod_below (length past) (s.cycle x) is.3.some in
      let own : s.cycle x ≡ s.cycle actor.now = ap s.cycle (sym is.0) in
      let all_in : sum_in s actor.now j times ≡ times * total_in s actor.now 0 =
      sum_of_equal (λ i. total_in s actor.now (phase s actor.now (j + i))) (total_in s actor.now 0) times
      (λ i. ap (total_in s actor.now) (at_none s actor.now at.0 (j + i))) in
      let all_out : sum_out s actor.now j times ≡ times * total_out s actor.now 0 =
      sum_of_equal (λ i. total_out s actor.now (phase s actor.now (j + i))) (total_out s actor.now 0) times
      (λ i. ap (total_out s actor.now) (at_none s actor.now at.0 (j + i))) in
      let each_in : in_all s (node.Inner x) (length past) ≡ total_in s actor.now 0 =
      ap (total_in s x) (at_none s x one (length past)) ∙ ap (λ y. total_in s y 0) (sym is.0) in
      let each_out : out_all s (node.Inner x) (length past) ≡ total_out s actor.now 0 =
      ap (total_out s x) (at_none s x one (length past)) ∙ ap (λ y. total_out s y 0) (sym is.0) in (
        omega (arith, below, own, is.1),
        at.1,
        at.2,
        at.3,
        take_is at.1 ∙ (ap (λ v. times * v) each_in ∙ sym all_in),
        put_is at.2 ∙ (ap (λ v. times * v) each_out ∙ sym all_out),
      )
  can_work (node.Source ext block) past (Sink e) outputs ins outs take put is at left in_is out_is take_is put_is long =
      absurd is
  can_work (node.Source ext block) past (Inner actor j state taken put') outputs ins outs take put is at left
      in_is out_is take_is put_is long = absurd is
  can_work (node.Sink ext block) past (Source e next size) outputs ins outs take put is at left in_is out_is take_is
      put_is long = absurd is
  can_work (node.Sink ext block) past (Inner actor j state taken put') outputs ins outs take put is at left
      in_is out_is take_is put_is long = absurd is
  can_work (node.Inner x) past (Source e next size) outputs ins outs take put is at left in_is out_is take_is put_is
      long = absurd is
  can_work (node.Inner x) past (Sink e) outputs ins outs take put is at left in_is out_is take_is put_is long =
      absurd is

  -- what is put is what it answers
  pub made_is : (x : Node A) (past : List (List T)) (w : Work A T S) (outputs : List (Vec T Z)) (b : List T) →
      IsWork s inputs outputs many x past w → all_made s inputs times w b ≡ all_answers s inputs times x past b
  made_is (node.Source ext block) past (Source e next size) outputs b is =
      let same : size * times ≡ block * times = ap (λ b. b * times) is.3 in
      let end : next + size * times ≡ block * (length past + times) = omega (arith, is.2) in
      λ i. between (is.2 i) (end i) (get_or inputs (is.0 i) [])
  made_is (node.Sink ext block) past (Sink e) outputs b is = refl
  made_is (node.Inner x) past (Inner actor j state taken put') outputs b is =
      λ i. puts_to s (is.0 i) (is.1 i) (is.2 i) b times
  made_is (node.Source ext block) past (Sink e) outputs b is = absurd is
  made_is (node.Source ext block) past (Inner actor j state taken put') outputs b is = absurd is
  made_is (node.Sink ext block) past (Source e next size) outputs b is = absurd is
  made_is (node.Sink ext block) past (Inner actor j state taken put') outputs b is = absurd is
  made_is (node.Inner x) past (Source e next size) outputs b is = absurd is
  made_is (node.Inner x) past (Sink e) outputs b is = absurd is

  -- and the work after them
  pub work_next : (x : Node A) (past past' : List (List T)) (w w' : Work A T S) (outputs outputs' : List (Vec T Z))
      (b : List T) → IsWork s inputs outputs many x past w → cycle_of s x ≡ 1 → HaveWorked s times w b w' →
      length past' ≡ length past + times →
      ((y : A) → x ≡ node.Inner y → state_after s y past' ≡
      state_at s y (phase s y (length past)) (state_after s y past) b times) →
      ((ext block : ℕ) → x ≡ node.Sink ext block → flat_map (λ b. b) past' ≡ flat_map (λ b. b) past ++ b) →
      length outputs' ≡ length outputs →
      ((e : ℕ) → e < length outputs → list outputs' e ≡ list outputs e ++ added w b e) →
      ((e : ℕ) → e < length outputs → capacity outputs' e ≡ capacity outputs e) →
      IsWork s inputs outputs' many x past' w'
  work_next (node.Source ext block) past past' (Source e next size) w' outputs outputs' b is one worked on states joins
      len lists caps =
      let same : size * times ≡ block * times = ap (λ b. b * times) is.3 in
      let end : next + size * times ≡ block * (length past + times) = omega (arith, is.2) in
      let further : next + size * times ≡ block * length past' = end ∙ ap (λ i. block * i) (sym on) in
      subst (λ w'. IsWork s inputs outputs' many (node.Source ext block) past' w') (sym worked)
      (is.0, is.1, further, is.3, is.4)
  work_next (node.Sink ext block) past past' (Sink e) w' outputs outputs' b is one worked on states joins
      len lists caps =
      let grew : list outputs' ext ≡ list outputs ext ++ b =
      lists ext is.1 ∙ ap (λ t. list outputs ext ++ cond t b []) (eq-eqb e ext is.0) in
      let now : list outputs' ext ≡ flat_map (λ b. b) past' =
      grew ∙ (ap (λ xs. xs ++ b) is.2 ∙ sym (joins ext block refl)) in
      let room : block * many ≤ capacity outputs' ext = omega (arith, is.3, caps ext is.1) in
      subst (λ w'. IsWork s inputs outputs' many (node.Sink ext block) past' w') (sym worked)
      (is.0, omega (arith, is.1), now, room)
  work_next (node.Inner x) past past' (Inner actor j state taken put') w' outputs outputs' b is one worked on
      states joins len lists caps =
      let still : j ≡ phase s x (length past') = is.1
      ∙ (at_none s x one (length past) ∙ sym (at_none s x one (length past'))) in
      let next : state_at s actor.now j state b times ≡ state_after s x past' =
      (λ i. state_at s (is.0 i) (is.1 i) (is.2 i) b times) ∙ sym (states x refl) in
      subst (λ w'. IsWork s inputs outputs' many (node.Inner x) past' w') (sym worked) (is.0, still, next, is.3)
  work_next (node.Source ext block) past past' (Sink e) w' outputs outputs' b is one worked on states joins len lists
      caps = absurd is
  work_next (node.Source ext block) past past' (Inner actor j state taken put') w' outputs outputs' b is one
      worked on states joins len lists caps = absurd is
  work_next (node.Sink ext block) past past' (Source e next size) w' outputs outputs' b is one worked on states joins
      len lists caps = absurd is
  work_next (node.Sink ext block) past past' (Inner actor j state taken put') w' outputs outputs' b is one
      worked on states joins len lists caps = absurd is
  work_next (node.Inner x) past past' (Source e next size) w' outputs outputs' b is one worked on states joins len lists
      caps = absurd is
  work_next (node.Inner x) past past' (Sink e) w' outputs outputs' b is one worked on states joins len lists caps =
      absurd is
