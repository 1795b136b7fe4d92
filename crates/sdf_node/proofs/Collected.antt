-- The lists of sinks.
use Rattle.std.proofs.Common.{◌≡◌, ℕ, ◌<◌, List, [], length, map, get_or, set, refl, sym, ap, ◌∙◌, arith}
use Rattle.std.specs.Global.{Global}
use Rattle.std.specs.declared.vec.Vec.{Vec}
use Rattle.std.proofs.lemmas.List.{map-set, get_or-set_same, get_or-set_other, length-set, length-map}
use Rattle.sdf_actor.specs.declared.node.Node.{Node}
use Rattle.sdf_actor.specs.declared.node.Node.TheVariants as node
use Rattle.sdf_actor.specs.Steps.{Steps}
use Rattle.sdf_actor.specs.Wires.{lists}
use Rattle.sdf_node.specs.declared.node.NodeState.{NodeState}
use Rattle.sdf_node.specs.declared.node.NodeState.TheVariants.{Source, Sink, Inner}
use Rattle.sdf_node.specs.Collected.{IsCollected, SinksHoldLists}

abbrev number_of : {A : Type 0} → Node A → ℕ
number_of (node.Source ext block) = ext
number_of (node.Sink ext block) = ext
number_of (node.Inner x) = 0

-- the list of a sink comes to its place
pub collected_sink : {A S T : Type 0} (x : Node A) (w : NodeState T S) (outputs : List (Vec T Global)) (ext block : ℕ)
    (v : Vec T Global) → x ≡ node.Sink ext block → ext < length outputs →
    ((made : Vec T Global) → w ≡ Sink made → v ≡ made) → IsCollected x w outputs (set outputs ext v)
collected_sink {A} {S} {T} x w outputs ext block v is within own = record {
  all = length-set outputs ext v;
  own = λ e b made at made_is.
      let here : get_or (lists (set outputs ext v)) ext [] ≡ v.items =
      ap (λ xs. get_or xs ext []) (map-set (λ (y : Vec T Global). y.items) outputs ext v) ∙
      get_or-set_same (map (λ (y : Vec T Global). y.items) outputs) ext v.items []
      (omega (arith, within, length-map outputs (λ (y : Vec T Global). y.items))) in
      ap (λ i. get_or (lists (set outputs ext v)) i []) (ap number_of (sym at ∙ is))
      ∙ (here ∙ ap (λ (y : Vec T Global). y.items) (own made made_is));
  others = λ e none.
      ap (λ xs. get_or xs e []) (map-set (λ (y : Vec T Global). y.items) outputs ext v) ∙
      get_or-set_other (map (λ (y : Vec T Global). y.items) outputs) ext e v.items []
      (λ same. none block (is ∙ ap (λ i. node.Sink i block) (sym same)));
}

pub hold_lists : {A S T : Type 0} (s : Steps A S T) → SinksHoldLists s
hold_lists s inputs many ext block past (Sink made) is = (made, refl, is.0)
hold_lists s inputs many ext block past (Source next) is = absurd is
hold_lists s inputs many ext block past (Inner phase state) is = absurd is
