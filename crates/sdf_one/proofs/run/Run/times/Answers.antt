use Rattle.std.proofs.Common.{◌≡◌, ◌<◌, length, get_or, sym, ap, ◌∙◌, subst, arith}
use Rattle.sdf_actor.specs.Nets.{wiring}
use Rattle.sdf_queues.specs.Blocks.{ArePorts}
use Rattle.sdf_queues.specs.Sizes.{at_phase}
use Rattle.sdf_one.specs.Firings.{phase_at}
use Rattle.sdf_one.proofs.Sweeping.{swept_node, phase_in, ports_in, may_holds, holds_along}
use Rattle.sdf_one.proofs.run.Run.times.Goals as goal
use Rattle.sdf_one.proofs.run.Run.times.Goals.{After-phase}

at : (g : Rattle.sdf_one.proofs.run.Run.times.Given.Over) (c : After-phase g) →
    phase_at (get_or c.args.self.now.works.items c.args.a c.index.result.now) ≡ c.phase.result
at g c = ap phase_at (sym c.index.ensures) ∙ sym c.phase.ensures

pub on-sizes-requires : goal.on-sizes-requires
on-sizes-requires g c =
    let k = phase_in (swept_node g.A.Actor.steps c.args.self.now c.requires.swept c.args.a c.requires.may.0)
    c.index.result.now in
    subst (λ j. j < length c.args.self.now.sizes.takes) (at g c) k

pub blocks_held-requires : goal.blocks_held-requires
blocks_held-requires g c =
    let p = (goal.at.blocks_held-requires g c).After-phase in
    let r = c.args.self.now in
    let sizes : at_phase r.sizes.takes (phase_at (get_or r.works.items c.args.a c.index.result.now)) ≡
    c.on-sizes.result.now = ap (at_phase r.sizes.takes) (at g p) ∙ sym c.on-sizes.ensures in
    subst (λ x. ArePorts x c.on-sizes.result.now (length c.deref.result.now)) (sym c.channels_in.ensures)
    (subst (λ x. ArePorts ((wiring g.A.Actor.steps r.net.now).ins c.args.a) x (length c.deref.result.now)) sizes
    (subst (λ x. ArePorts ((wiring g.A.Actor.steps r.net.now).ins c.args.a)
    (at_phase r.sizes.takes (phase_at (get_or r.works.items c.args.a c.index.result.now))) x)
    (ap length (sym c.deref.ensures.value))
    (ports_in (swept_node g.A.Actor.steps r c.requires.swept c.args.a c.requires.may.0) c.index.result.now)))

pub returns-clause-some : goal.returns-clause-some
returns-clause-some g c =
    let p = (goal.at.returns-clause-some g c).After-phase in
    let s = g.A.Actor.steps in
    let r = c.args.self.now in
    let w = c.index.result.now in
    let sizes : at_phase r.sizes.takes (phase_at (get_or r.works.items c.args.a w)) ≡ c.on-sizes.result.now =
    ap (at_phase r.sizes.takes) (at g p) ∙ sym c.on-sizes.ensures in
    c.blocks_held.ensures.some
    (holds_along ((wiring s r.net.now).ins c.args.a) c.channels_in.result.now
    (at_phase r.sizes.takes (phase_at (get_or r.works.items c.args.a w))) c.on-sizes.result.now r.queues.items
    c.deref.result.now
    (sym c.channels_in.ensures) sizes (sym c.deref.ensures.value)
    (may_holds (swept_node s r c.requires.swept c.args.a c.requires.may.0) w c.requires.may))
    (omega (arith, c.left-left.ensures, c.requires.may.1))
