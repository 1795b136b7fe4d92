-- The lists that sinks made.
use Rattle.std.proofs.Common.{◌≡◌, ℕ, ◌+◌, ◌≤◌, ◌<◌, List, length, get_or, sym, ap, ◌∙◌, subst, inl, inr, ◌⊎◌, arith}
use Rattle.std.proofs.lemmas.Bool.{cases_lt}
use Rattle.std.specs.Global.{Global}
use Rattle.std.specs.declared.vec.Vec.{Vec}
use Rattle.sdf_actor.specs.declared.node.Node.TheVariants as node
use Rattle.sdf_actor.specs.Nets as nets
use Rattle.sdf_actor.specs.Nets.{Netlist}
use Rattle.sdf_node.specs.declared.node.NodeState.{NodeState}
use Rattle.sdf_queues.specs.Lists.{list}
use Rattle.sdf_queues.specs.Periods.{AreApart}
use Rattle.sdf_node.specs.Collected.{IsCollected}
use Rattle.sdf_rows.specs.Collect.{AreCollected}

module _ {A S T : Type 0} (n : Netlist A T) (apart : AreApart n) (start : List (NodeState T S))
    (outputs outputs' : List (Vec T Global)) (a : ℕ) (l : a < length n.nodes) (w : NodeState T S)
    (w_is : (d : NodeState T S) → get_or start a d ≡ w) (one : IsCollected (nets.node n a) w outputs outputs')
    (before : AreCollected n a start outputs) where
  -- one node more
  pub collected_more : AreCollected n (a + 1) start outputs'
  collected_more b ext block made d h at made_is = go (cases_lt b a)
    where
      go : (b < a) ⊎ (a ≤ b) → list outputs' ext ≡ made.items
      go (inl less) = one.others ext (λ other here. absurd
          (let e : b ≡ a = apart b a ext block other (omega arith) l at here in omega arith))
          ∙ before b ext block made d less at made_is
      go (inr more) =
          let e : b ≡ a = omega arith in
          one.own ext block made (subst (λ i. nets.node n i ≡ node.Sink ext block) e at)
          (sym (w_is d) ∙ (ap (λ i. get_or start i d) (sym e) ∙ made_is))
