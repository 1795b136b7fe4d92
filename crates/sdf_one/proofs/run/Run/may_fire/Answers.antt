use Rattle.std.proofs.Common.{◌≡◌, ◌*◌, ◌<◌, ℕ, Bool, true, false, IsTrue, length, get_or, refl, sym, ap, ◌∙◌, subst}
use Rattle.std.proofs.Common.{arith}
use Rattle.sdf_actor.specs.Nets.{wiring}
use Rattle.sdf_queues.specs.Blocks.{ArePorts}
use Rattle.sdf_queues.specs.Sizes.{at_phase}
use Rattle.sdf_one.specs.Firings.{phase_at}
use Rattle.sdf_one.proofs.Sweeping.{swept_node, phase_in, ports_in, may_from, may_holds, holds_along}
use Rattle.sdf_one.proofs.run.Run.may_fire.Goals as goal
use Rattle.sdf_one.proofs.run.Run.may_fire.Goals.{After-phase}

told : (b : Bool) → (b ≡ false → ⊥) → IsTrue b
told true f = refl
told false f = absurd (f refl)

at : (g : Rattle.sdf_one.proofs.run.Run.may_fire.Given.Over) (c : After-phase g) →
    phase_at (get_or c.args.self.now.works.items c.args.a c.index.result.now) ≡ c.phase.result
at g c = ap phase_at (sym c.index.ensures) ∙ sym c.phase.ensures

pub on-sizes-requires : goal.on-sizes-requires
on-sizes-requires g c =
    let k = phase_in (swept_node g.A.Actor.steps c.args.self.now c.requires.swept c.args.a c.requires.known)
    c.index.result.now in
    subst (λ j. j < length c.args.self.now.sizes.takes) (at g c) k

pub hold_blocks-requires : goal.hold_blocks-requires
hold_blocks-requires g c =
    let p = (goal.at.hold_blocks-requires g c).After-phase in
    let r = c.args.self.now in
    let sizes : at_phase r.sizes.takes (phase_at (get_or r.works.items c.args.a c.index.result.now)) ≡
    c.on-sizes.result.now = ap (at_phase r.sizes.takes) (at g p) ∙ sym c.on-sizes.ensures in
    subst (λ x. ArePorts x c.on-sizes.result.now (length c.deref.result.now)) (sym c.channels_in.ensures)
    (subst (λ x. ArePorts ((wiring g.A.Actor.steps r.net.now).ins c.args.a) x (length c.deref.result.now)) sizes
    (subst (λ x. ArePorts ((wiring g.A.Actor.steps r.net.now).ins c.args.a)
    (at_phase r.sizes.takes (phase_at (get_or r.works.items c.args.a c.index.result.now))) x)
    (ap length (sym c.deref.ensures.value))
    (ports_in (swept_node g.A.Actor.steps r c.requires.swept c.args.a c.requires.known) c.index.result.now)))

pub returns : goal.returns
returns g c =
    let s = g.A.Actor.steps in
    let p = (goal.at.returns g c).After-phase in
    let r = c.args.self.now in
    let w = c.index.result.now in
    let a : ℕ = c.args.a in
    let node = swept_node s r c.requires.swept a c.requires.known in
    let sizes : at_phase r.sizes.takes (phase_at (get_or r.works.items c.args.a c.index.result.now)) ≡
    c.on-sizes.result.now = ap (at_phase r.sizes.takes) (at g p) ∙ sym c.on-sizes.ensures in
    let left : get_or r.done.items a 0 < r.high * get_or r.repetitions.now a 0 =
    omega (arith, c.left.ensures, c.if-left-eq0.false) in (
      λ t. may_from node w left
          (holds_along c.channels_in.result.now ((wiring s r.net.now).ins a) c.on-sizes.result.now
          (at_phase r.sizes.takes (phase_at (get_or r.works.items a w))) c.deref.result.now r.queues.items
          c.channels_in.ensures (sym sizes) c.deref.ensures.value (c.hold_blocks.ensures.held t)),
      λ may. told c.hold_blocks.result (λ f. c.hold_blocks.ensures.short f
          (holds_along ((wiring s r.net.now).ins a) c.channels_in.result.now
          (at_phase r.sizes.takes (phase_at (get_or r.works.items a w))) c.on-sizes.result.now r.queues.items
          c.deref.result.now
          (sym c.channels_in.ensures) sizes (sym c.deref.ensures.value)
          (may_holds node w may))),
    )
