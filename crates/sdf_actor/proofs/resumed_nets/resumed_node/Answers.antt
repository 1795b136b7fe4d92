use Rattle.std.proofs.Common.{Some, sym, ap, ◌∙◌, refl, subst}
use Rattle.sdf_actor.specs.declared.node.Node.TheVariants.{Inner}
use Rattle.sdf_actor.specs.ResumedSteps.{resumed_steps}
use Rattle.sdf_actor.specs.NetStates.{IsResumedNode}
use Rattle.sdf_actor.proofs.resumed_nets.resumed_node.Goals as goal

pub returns-in_ok-again-in-Some : goal.returns-in_ok-again-in-Some
returns-in_ok-again-in-Some g c =
    subst (λ y. IsResumedNode g.A.Actor.steps (resumed_steps g.A.Actor) c.args.state.now y (Inner c.new.result))
    (sym c.in-Inner.is) (
      c.new.result,
      c.in_ok-again-in-Some.field-0,
      refl,
      c.in-Some.is ∙ ap Some (sym c.in_ok-again-in-Some.ensures),
      c.new.ensures,
    )
