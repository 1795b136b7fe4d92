-- A node's work, by its sort.
use Rattle.std.proofs.Common.{◌≡◌, ℕ, ◌+◌, ◌<◌, List, [], ◌∷◌, ◌++◌, length, cond, refl, sym, ap, ◌∙◌}
use Rattle.std.proofs.Common.{arith}
use Rattle.std.proofs.lemmas.Bool.{ne_eqb}
use Rattle.std.proofs.Math.Nat.{mod-one}
use Rattle.std.specs.declared.vec.Vec.{Vec}
use Rattle.sdf_actor.specs.declared.node.Node.{Node}
use Rattle.sdf_actor.specs.declared.node.Node.TheVariants as node
use Rattle.sdf_actor.specs.Steps.{Steps, phase, state_from}
use Rattle.sdf_one.specs.declared.work.Work.{Work}
use Rattle.sdf_one.specs.declared.work.Work.TheVariants.{Source, Sink, Inner}
use Rattle.sdf_queues.specs.Lists.{list, capacity}
use Rattle.sdf_one.specs.Firings.{phase_at, added}
use Rattle.sdf_queues.specs.Sizes.{phase_of}
use Rattle.sdf_one.specs.Runs.{IsWork}

-- the state after one block more
pub state_push : {A S T : Type 0} (s : Steps A S T) (x : A) (i : ℕ) (state : S) (past : List (List T)) (b : List T) →
    state_from s x i state (past ++ b ∷ []) ≡ s.next x (phase s x (i + length past)) (state_from s x i state past) b
state_push s x i state [] b = ap (λ j. s.next x (phase s x j) state b) (let e : i ≡ i + 0 = omega arith in e)
state_push s x i state (p ∷ past) b =
    state_push s x (i + 1) (s.next x (phase s x i) state p) past b ∙
    ap (λ j. s.next x (phase s x j) (state_from s x (i + 1) (s.next x (phase s x i) state p) past) b)
    (let e : i + 1 + length past ≡ i + length (p ∷ past) = omega arith in e)

module _ {A S T Z : Type 0} (s : Steps A S T) (inputs : List (List T)) (many : ℕ) where
  -- a node is at the phase of its next firing
  pub phase_is : (x : Node A) (past : List (List T)) (w : Work A T S) (outputs : List (Vec T Z)) →
      IsWork s inputs outputs many x past w → phase_at w ≡ phase_of s x (length past)
  phase_is (node.Source ext block) past (Source e next size) outputs is = sym (mod-one (length past))
  phase_is (node.Sink ext block) past (Sink e) outputs is = sym (mod-one (length past))
  phase_is (node.Inner x) past (Inner actor j state taken put) outputs is = is.1
  phase_is (node.Source ext block) past (Sink e) outputs is = absurd is
  phase_is (node.Source ext block) past (Inner actor j state taken put) outputs is = absurd is
  phase_is (node.Sink ext block) past (Source e next size) outputs is = absurd is
  phase_is (node.Sink ext block) past (Inner actor j state taken put) outputs is = absurd is
  phase_is (node.Inner x) past (Source e next size) outputs is = absurd is
  phase_is (node.Inner x) past (Sink e) outputs is = absurd is

  -- a firing adds to the list of its own sink alone
  pub none_added : (x : Node A) (past : List (List T)) (w : Work A T S) (outputs : List (Vec T Z)) (b : List T)
      (e : ℕ) → IsWork s inputs outputs many x past w →
      ((block : ℕ) → x ≡ node.Sink e block → ⊥) → added w b e ≡ []
  none_added (node.Source ext block) past (Source e' next size) outputs b e is other = refl
  none_added (node.Sink ext block) past (Sink f) outputs b e is other =
      ap (λ t. cond t b []) (ne_eqb f e (λ same. other block (ap (λ g. node.Sink g block) (sym is.0 ∙ same))))
  none_added (node.Inner x) past (Inner actor j state taken put') outputs b e is other = refl
  none_added (node.Source ext block) past (Sink f) outputs b e is other = absurd is
  none_added (node.Source ext block) past (Inner actor j state taken put') outputs b e is other = refl
  none_added (node.Sink ext block) past (Source e' next size) outputs b e is other = refl
  none_added (node.Sink ext block) past (Inner actor j state taken put') outputs b e is other = refl
  none_added (node.Inner x) past (Source e' next size) outputs b e is other = refl
  none_added (node.Inner x) past (Sink f) outputs b e is other = absurd is

  pub work_other : (x : Node A) (past : List (List T)) (w : Work A T S) (outputs outputs' : List (Vec T Z)) →
      IsWork s inputs outputs many x past w →
      length outputs' ≡ length outputs →
      ((e block : ℕ) → x ≡ node.Sink e block → e < length outputs → list outputs' e ≡ list outputs e) →
      ((e : ℕ) → e < length outputs → capacity outputs' e ≡ capacity outputs e) →
      IsWork s inputs outputs' many x past w
  work_other (node.Source ext block) past (Source e' next size) outputs outputs' is len same caps = is
  work_other (node.Sink ext block) past (Sink e) outputs outputs' is len same caps =
      (is.0, omega (arith, is.1), same ext block refl is.1 ∙ is.2, omega (arith, is.3, caps ext is.1))
  work_other (node.Inner x) past (Inner actor j state taken put') outputs outputs' is len same caps = is
  work_other (node.Source ext block) past (Sink e) outputs outputs' is len same caps = absurd is
  work_other (node.Source ext block) past (Inner actor j state taken put') outputs outputs' is len same caps =
      absurd is
  work_other (node.Sink ext block) past (Source e' next size) outputs outputs' is len same caps = absurd is
  work_other (node.Sink ext block) past (Inner actor j state taken put') outputs outputs' is len same caps =
      absurd is
  work_other (node.Inner x) past (Source e' next size) outputs outputs' is len same caps = absurd is
  work_other (node.Inner x) past (Sink e) outputs outputs' is len same caps = absurd is
