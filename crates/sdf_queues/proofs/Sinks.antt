-- What a sink takes.
use Rattle.std.proofs.Common.{◌≡◌, ℕ, zero, suc, ◌+◌, ◌≤◌, List, [], ◌∷◌, ◌++◌, map, take, drop, sym, ap, ◌∙◌, arith}
use Rattle.std.proofs.Common.{add-one}
use Rattle.std.specs.List.{between, flat_map, range_with_len}
use Rattle.std.proofs.lemmas.List.{append-nil, flat_map_more, take-take, take-append-drop}
use Rattle.std.proofs.lemmas.Slice.{between_is}
use Rattle.sdf_actor.specs.declared.node.Node.TheVariants as node
use Rattle.sdf_actor.specs.Steps.{Steps}
use Rattle.sdf_actor.specs.Histories.{taken, taken_before, IsWired}
use Rattle.sdf_actor.specs.Nets as nets
use Rattle.sdf_actor.specs.Nets.{Netlist, wiring, to_port, inputs_of}

-- a beginning is a shorter one and the part after it
pub take_on : {X : Type 0} (xs : List X) (i j : ℕ) → i ≤ j → take j xs ≡ take i xs ++ between i j xs
take_on xs i j h =
    sym (take-append-drop i (take j xs)) ∙
    (ap (λ ys. ys ++ drop i (take j xs)) (take-take i j xs h) ∙ ap (λ ys. take i xs ++ ys) (sym (between_is xs i j)))

module _ {A S T : Type 0} (s : Steps A S T) (n : Netlist A T) where
  -- the one channel into a sink
  pub into_sink : (a ext block : ℕ) → nets.node n a ≡ node.Sink ext block → (wiring s n).ins a ≡ to_port n a 0 ∷ []
  into_sink a ext block is = ap (λ x. map (to_port n a) (range_with_len 0 (inputs_of s x))) is

  module _ (wired : IsWired (wiring s n)) where
    -- what a node with one port takes, joined, is the front of its channel
    pub joined_taken : (V : ℕ → List T) (a c : ℕ) → (wiring s n).ins a ≡ c ∷ [] → (i : ℕ) →
        flat_map (λ (b : List T). b) (taken_before (wiring s n) V a i) ≡ take ((wiring s n).rates.consumed c i) (V c)
    joined_taken V a c one zero = ap (λ i. take i (V c)) (sym (wired.sound.consumed_none c))
    joined_taken V a c one (suc i) =
        let before : flat_map (λ (b : List T). b) (taken_before (wiring s n) V a i) ≡
        take ((wiring s n).rates.consumed c i) (V c) = joined_taken V a c one i in
        let more = flat_map_more (λ (b : List T). b) [] (taken_before (wiring s n) V a i) (taken (wiring s n) V a i) in
        let now : taken (wiring s n) V a i ≡ between ((wiring s n).rates.consumed c i)
        ((wiring s n).rates.consumed c (i + 1)) (V c) =
        ap (flat_map (λ d. between ((wiring s n).rates.consumed d i) ((wiring s n).rates.consumed d (i + 1)) (V d))) one
        ∙ append-nil (between ((wiring s n).rates.consumed c i) ((wiring s n).rates.consumed c (i + 1)) (V c)) in
        let rise : (wiring s n).rates.consumed c i ≤ (wiring s n).rates.consumed c (i + 1) =
        wired.sound.consumed_rises c i (i + 1) (omega arith) in
        sym more ∙ (ap (λ xs. xs ++ taken (wiring s n) V a i) before
        ∙ (ap (λ ys. take ((wiring s n).rates.consumed c i) (V c) ++ ys) now ∙
        (sym (take_on (V c) ((wiring s n).rates.consumed c i) ((wiring s n).rates.consumed c (i + 1)) rise)
        ∙ ap (λ j. take ((wiring s n).rates.consumed c j) (V c)) (add-one i))))
