use Rattle.std.proofs.Common.{◌∙◌, sym, ap}
use Rattle.sdf_actor.specs.Sides.{channels_at}
use Rattle.sdf_queues.proofs.sizes.channels_of.Goals as goal

pub returns-in-Input : goal.returns-in-Input
returns-in-Input g c = c.channels_in.ensures ∙ ap (λ side. channels_at g.A.Actor.steps c.args.net.now side c.args.a)
    (sym c.in-Input.is)

pub returns-in-Output : goal.returns-in-Output
returns-in-Output g c = c.channels_out.ensures ∙ ap (λ side. channels_at g.A.Actor.steps c.args.net.now side c.args.a)
    (sym c.in-Output.is)
