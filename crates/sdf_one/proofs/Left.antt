-- What a run leaves, of what it holds.
use Rattle.std.proofs.Common.{◌≡◌, ℕ, zero, suc, ◌<◌, List, [], ◌∷◌, length, map, get_or, Option, Some, None, refl, sym}
use Rattle.std.proofs.Common.{ap}
use Rattle.std.proofs.Common.{◌∙◌, arith}
use Rattle.std.specs.declared.vec.Vec.{Vec}
use Rattle.std.proofs.lemmas.List.{get_or-map, length-map}
use Rattle.sdf_actor.specs.declared.node.Node.{Node}
use Rattle.sdf_actor.specs.declared.node.Node.TheVariants as node
use Rattle.sdf_actor.specs.declared.net_state.NetState.{NetState}
use Rattle.sdf_actor.specs.Histories.{taken_before}
use Rattle.sdf_actor.specs.Nets as nets
use Rattle.sdf_actor.specs.Nets.{Netlist, wiring}
use Rattle.sdf_actor.specs.NetStates.{state_left, Leaves}
use Rattle.sdf_actor.specs.Steps.{Steps}
use Rattle.sdf_actor.specs.Wires.{lists}
use Rattle.sdf_queues.specs.Blocks.{nothing}
use Rattle.sdf_queues.specs.QueueValue.{QueueValue}
use Rattle.sdf_one.specs.declared.work.Work.{Work}
use Rattle.sdf_one.specs.declared.work.Work.TheVariants.{Source, Sink, Inner}
use Rattle.sdf_one.specs.Fired.{state_in}
use Rattle.sdf_one.specs.Runs.{IsWork, IsState}

-- a node at work is in the state that all that it took leaves it in
state_is : {A S T Z : Type 0} (s : Steps A S T) (inputs : List (List T)) (outputs : List (Vec T Z)) (many : ℕ)
    (x : Node A) (past : List (List T)) (w : Work A T S) →
    IsWork s inputs outputs many x past w → state_in w ≡ state_left s x past
state_is s inputs outputs many (node.Source e block) past (Source ext next size) is = refl
state_is s inputs outputs many (node.Source e block) past (Sink ext) is = absurd is
state_is s inputs outputs many (node.Source e block) past (Inner actor phase state taken put) is = absurd is
state_is s inputs outputs many (node.Sink e block) past (Source ext next size) is = absurd is
state_is s inputs outputs many (node.Sink e block) past (Sink ext) is = refl
state_is s inputs outputs many (node.Sink e block) past (Inner actor phase state taken put) is = absurd is
state_is s inputs outputs many (node.Inner x) past (Source ext next size) is = absurd is
state_is s inputs outputs many (node.Inner x) past (Sink ext) is = absurd is
state_is s inputs outputs many (node.Inner x) past (Inner actor phase state taken put) is = ap Some is.2

-- what holds of an item, whatever stands for one that is not there, holds of what is made of it
made_at : {X Y : Type 0} (f : X → Option Y) (P : X → Type 0) (Q : Option Y → Type 0) → ((x : X) → P x → Q (f x)) →
    (xs : List X) (i : ℕ) → i < length xs →
    ((d : X) → P (get_or xs i d)) → Q (get_or (map f xs) i None)
made_at f P Q one [] i l each = absurd (omega arith)
made_at f P Q one (x ∷ xs) zero l each = one x (each x)
made_at f P Q one (x ∷ xs) (suc i) l each = made_at f P Q one xs i (omega arith) each

pub leaves : {A S T Z : Type 0} (s : Steps A S T) (n : Netlist A T) (inputs : List (List T)) (many k : ℕ → ℕ)
    (works : List (Work A T S)) (qs : List (QueueValue T)) (outputs : List (Vec T Z)) →
    (stands : IsState s n inputs many k works qs outputs) (rest : NetState T S) →
    rest.states.items ≡ map state_in works →
    lists rest.held.items ≡ map (λ q. q.samples) qs →
    Leaves s n k stands.history rest
leaves {A} {S} {T} s n inputs many k works qs outputs stands rest states held = record {
  nodes = ap length states ∙ (length-map works state_in ∙ stands.nodes);
  states = λ a l.
      ap (λ v. get_or v a None) states ∙
      made_at state_in (IsWork s inputs outputs (many a) (nets.node n a)
      (taken_before (wiring s n) stands.history a (k a)))
      (λ t. t ≡ state_left s (nets.node n a) (taken_before (wiring s n) stands.history a (k a)))
      (λ w. state_is s inputs outputs (many a) (nets.node n a) (taken_before (wiring s n) stands.history a (k a)) w)
      works a (omega (arith, stands.nodes, l)) (λ d. stands.each a d l);
  channels = sym (length-map rest.held.items (λ v. v.items))
      ∙ (ap length held ∙ (length-map qs (λ (q : QueueValue T). q.samples) ∙ stands.channels));
  held = λ c l.
      ap (λ v. get_or v c []) held ∙
      (get_or-map (λ (q : QueueValue T). q.samples) qs c nothing [] (omega (arith, stands.channels, l))
      ∙ stands.left c l);
}
