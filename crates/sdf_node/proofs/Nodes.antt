-- Nodes at work.
use Rattle.std.proofs.Common.{◌≡◌, ℕ, ◌+◌, ◌*◌, ◌%◌, List, [], ◌∷◌, ◌++◌, length, get_or, sym, ap, ◌∙◌, subst, arith}
use Rattle.std.proofs.Common.{vec_capacity, length-append}
use Rattle.std.specs.List.{between, flat_map}
use Rattle.std.specs.Global.{Global}
use Rattle.std.specs.declared.vec.Vec.{Vec}
use Rattle.std.proofs.lemmas.List.{length_push, flat_map_more}
use Rattle.std.proofs.Math.Nat.{mod-add-mod}
use Rattle.sdf_actor.specs.Steps.{Steps, phase, state_from, state_after}
use Rattle.sdf_actor.specs.Nets.{answer_of}
use Rattle.sdf_actor.specs.declared.node.Node.{Node}
use Rattle.sdf_actor.specs.declared.node.Node.TheVariants as node
use Rattle.sdf_node.specs.declared.node.NodeState.{NodeState}
use Rattle.sdf_node.specs.declared.node.NodeState.TheVariants.{Source, Sink, Inner}
use Rattle.sdf_node.specs.Nodes.{CanStep, IsAt}

-- the state after one block more
state_push : {A S T : Type 0} (s : Steps A S T) (x : A) (i : ℕ) (state : S) (past : List (List T)) (b : List T) →
    state_from s x i state (past ++ b ∷ []) ≡ s.next x (phase s x (i + length past)) (state_from s x i state past) b
state_push s x i state [] b = ap (λ j. s.next x (phase s x j) state b) (let e : i ≡ i + 0 = omega arith in e)
state_push s x i state (p ∷ past) b =
    state_push s x (i + 1) (s.next x (phase s x i) state p) past b ∙
    ap (λ j. s.next x (phase s x j) (state_from s x (i + 1) (s.next x (phase s x i) state p) past) b)
    (let e : i + 1 + length past ≡ i + length (p ∷ past) = omega arith in e)

pub state_more : {A S T : Type 0} (s : Steps A S T) (x : A) (past : List (List T)) (b : List T) →
    s.next x (phase s x (length past)) (state_after s x past) b ≡ state_after s x (past ++ b ∷ [])
state_more s x past b = sym (state_push s x 0 (s.start x) past b
    ∙ ap (λ i. s.next x (phase s x i) (state_after s x past) b)
    (let e : 0 + length past ≡ length past = omega arith in e))

module _ {A S T : Type 0} (s : Steps A S T) (inputs : List (List T)) where
  pub source_next : (x : Node A) (w : NodeState T S) (ext block next taken put after many : ℕ) (past : List (List T))
      (b : List T) → x ≡ node.Source ext block → w ≡ Source next →
      CanStep s inputs x w taken put → after ≡ next + put → IsAt s inputs many x past w →
      IsAt s inputs many x (past ++ b ∷ []) (Source after)
  source_next x w ext block next taken put after many past b x_is w_is can after_is at =
      let can' : CanStep s inputs (node.Source ext block) (Source next) taken put =
      subst (λ w. CanStep s inputs (node.Source ext block) w taken put) w_is
      (subst (λ x. CanStep s inputs x w taken put) x_is can) in
      let at' : IsAt s inputs many (node.Source ext block) past (Source next) =
      subst (λ w. IsAt s inputs many (node.Source ext block) past w) w_is
      (subst (λ x. IsAt s inputs many x past w) x_is at) in
      let count : length (past ++ b ∷ []) ≡ length past + 1 = length_push past b in
      let end : after ≡ block * (length past + 1) = omega (arith, at'.0, can'.2, after_is) in
      subst (λ x. IsAt s inputs many x (past ++ b ∷ []) (Source after)) (sym x_is)
      (end ∙ ap (λ i. block * i) (sym count), at'.1, at'.2)

  pub source_puts : (x : Node A) (w : NodeState T S) (ext block next taken put many : ℕ) (past : List (List T))
      (b : List T) → x ≡ node.Source ext block → w ≡ Source next →
      CanStep s inputs x w taken put → IsAt s inputs many x past w →
      between next (next + put) (get_or inputs ext []) ≡ answer_of s inputs x past b
  source_puts x w ext block next taken put many past b x_is w_is can at =
      let can' : CanStep s inputs (node.Source ext block) (Source next) taken put =
      subst (λ w. CanStep s inputs (node.Source ext block) w taken put) w_is
      (subst (λ x. CanStep s inputs x w taken put) x_is can) in
      let at' : IsAt s inputs many (node.Source ext block) past (Source next) =
      subst (λ w. IsAt s inputs many (node.Source ext block) past w) w_is
      (subst (λ x. IsAt s inputs many x past w) x_is at) in
      let end : next + put ≡ block * (length past + 1) = omega (arith, at'.0, can'.2) in
      ap (λ i. between i (next + put) (get_or inputs ext [])) at'.0
      ∙ (ap (λ j. between (block * length past) j (get_or inputs ext [])) end ∙
      ap (λ x. answer_of s inputs x past b) (sym x_is))

  pub sink_next : (x : Node A) (w : NodeState T S) (ext block : ℕ) (list after : Vec T Global) (put many : ℕ)
      (past : List (List T)) (b : List T) → x ≡ node.Sink ext block → w ≡ Sink list →
      CanStep s inputs x w (length b) put → after.items ≡ list.items ++ b → vec_capacity after ≡ vec_capacity list →
      IsAt s inputs many x past w → IsAt s inputs many x (past ++ b ∷ []) (Sink after)
  sink_next x w ext block list after put many past b x_is w_is can items capacity at =
      let can' : CanStep s inputs (node.Sink ext block) (Sink list) (length b) put =
      subst (λ w. CanStep s inputs (node.Sink ext block) w (length b) put) w_is
      (subst (λ x. CanStep s inputs x w (length b) put) x_is can) in
      let at' : IsAt s inputs many (node.Sink ext block) past (Sink list) =
      subst (λ w. IsAt s inputs many (node.Sink ext block) past w) w_is
      (subst (λ x. IsAt s inputs many x past w) x_is at) in
      let count : length (past ++ b ∷ []) ≡ length past + 1 = length_push past b in
      let long : length after.items ≡ block * (length past + 1) =
      ap length items ∙ (length-append list.items b ∙ omega (arith, at'.1, can'.1)) in
      let all : after.items ≡ flat_map (λ b. b) (past ++ b ∷ []) =
      items ∙ (ap (λ xs. xs ++ b) at'.0 ∙ flat_map_more (λ b. b) [] past b) in
      subst (λ x. IsAt s inputs many x (past ++ b ∷ []) (Sink after)) (sym x_is)
      (all, long ∙ ap (λ i. block * i) (sym count), omega (arith, at'.2, capacity))

  pub inner_next : (y : Node A) (w : NodeState T S) (x : A) (j j' many : ℕ) (state state' : S) (past : List (List T))
      (b : List T) → y ≡ node.Inner x → w ≡ Inner j state →
      j' ≡ (j + 1) % s.cycle x → state' ≡ s.next x j state b → IsAt s inputs many y past w →
      IsAt s inputs many y (past ++ b ∷ []) (Inner j' state')
  inner_next y w x j j' many state state' past b y_is w_is turn next at =
      let at' : IsAt s inputs many (node.Inner x) past (Inner j state) =
      subst (λ w. IsAt s inputs many (node.Inner x) past w) w_is
      (subst (λ y. IsAt s inputs many y past w) y_is at) in
      let count : length past + 1 ≡ length (past ++ b ∷ []) = sym (length_push past b) in
      let same : s.next x j state b ≡ s.next x (phase s x (length past)) (state_after s x past) b =
      λ i. s.next x (at'.0 i) (at'.1 i) b in
      subst (λ y. IsAt s inputs many y (past ++ b ∷ []) (Inner j' state')) (sym y_is) (
        turn ∙ (ap (λ i. (i + 1) % s.cycle x) at'.0 ∙ (mod-add-mod (length past) (s.cycle x) 1 ∙ ap (phase s x) count)),
        next ∙ (same ∙ state_more s x past b),
      )

  pub inner_puts : (y : Node A) (w : NodeState T S) (x : A) (j many : ℕ) (state : S) (past : List (List T))
      (b : List T) → y ≡ node.Inner x → w ≡ Inner j state →
      IsAt s inputs many y past w → s.puts x j state b ≡ answer_of s inputs y past b
  inner_puts y w x j many state past b y_is w_is at =
      let at' : IsAt s inputs many (node.Inner x) past (Inner j state) =
      subst (λ w. IsAt s inputs many (node.Inner x) past w) w_is
      (subst (λ y. IsAt s inputs many y past w) y_is at) in
      (λ i. s.puts x (at'.0 i) (at'.1 i) b) ∙ ap (λ y. answer_of s inputs y past b) (sym y_is)
