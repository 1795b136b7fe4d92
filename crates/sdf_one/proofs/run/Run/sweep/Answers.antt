use Rattle.std.proofs.Common.{◌≡◌, false, true≢false, IsTrue, inl, inr, ◌⊎◌, sym, ◌∙◌}
use Rattle.sdf_one.proofs.Sweeping.{moved_on, sweep_on}
use Rattle.sdf_one.proofs.run.Run.sweep.Goals as goal
use Rattle.sdf_one.proofs.run.Run.sweep.Goals.{Joined-fire_node, then-fire_node, else-fire_node}

told : (g : Rattle.sdf_one.proofs.run.Run.sweep.Given.Over) (c : Joined-fire_node g) →
    (IsTrue c.if-fire_node.moved → IsTrue c.loop-a.moved ⊎ IsTrue c.fire_node.result)
    × (c.if-fire_node.moved ≡ false → (c.loop-a.moved ≡ false) × (c.fire_node.result ≡ false))
told g c = elim c.if-fire_node.branch [
  | then-fire_node w ↦ ((λ t. inr w.if-fire_node.true), (λ e. absurd (true≢false (sym w.moved-is ∙ e))))
  | else-fire_node w ↦ ((λ t. inl (sym w.moved-is ∙ t)), (λ e. (sym w.moved-is ∙ e, w.if-fire_node.false)))
]

pub loop-a-preserved : goal.loop-a-preserved
loop-a-preserved g c =
    let by = told g c in
    record {
      swept = c.fire_node.ensures.swept;
      moved = moved_on c.args.self.now c.loop-a.self c.fire_node.new.self c.loop-a.moved c.fire_node.result
          c.if-fire_node.moved by.0 by.1 c.loop-a.invariant.moved c.fire_node.ensures.moved;
      stops = sweep_on g.A.Actor.steps c.loop-a.self c.fire_node.new.self c.loop-a.moved c.fire_node.result
          c.if-fire_node.moved c.loop-a.a by.1 c.loop-a.invariant.stops c.fire_node.ensures.moved
          c.fire_node.ensures.stops;
    }
