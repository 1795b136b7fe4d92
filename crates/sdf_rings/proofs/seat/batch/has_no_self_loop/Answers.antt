use Rattle.std.proofs.Common.{◌≡◌, ◌<◌, ℕ, length, get_or, refl, sym, ap, ◌∙◌, subst, arith}
use Rattle.sdf_actor.specs.Nets.{wire, wiring}
use Rattle.sdf_actor.proofs.Theorems.{nets_are_wired}
use Rattle.sdf_rings.proofs.Known.{at_port}
use Rattle.sdf_rings.proofs.PortBlocks.{ins_long, port_of}
use Rattle.sdf_rings.proofs.seat.batch.has_no_self_loop.Goals as goal

pub link-requires-after_bounds : goal.link-requires-after_bounds
link-requires-after_bounds g c κs within =
    let n = c.args.net.now in
    let i : ℕ = c.loop-i.i in
    let is = c.channels_in-channels.ensures in
    let at = (nets_are_wired g.A.Actor.steps n c.requires.net).ins_are c.args.actor i c.requires.known
    (subst (λ cs. i < length cs) is c.loop-i-test.true) in
    subst (λ cs. get_or cs i 0 < length n.wires) (sym is) at.0

pub returns : goal.returns
returns g c = λ t k l from to.
    let s = g.A.Actor.steps in
    let n = c.args.net.now in
    let a = c.args.actor in
    let long = ins_long c.requires.net c.requires.known in
    let inside = port_of c.requires.net c.requires.known k l to in
    let all : length c.channels_in-channels.result.now ≡ length ((wiring s n).ins a) =
    ap length c.channels_in-channels.ensures in
    let here : get_or c.channels_in-channels.result.now (wire n k).to.1 0 ≡ k =
    ap (λ cs. get_or cs (wire n k).to.1 0) c.channels_in-channels.ensures
    ∙ at_port c.requires.net l to refl in
    c.loop-i.invariant.apart (wire n k).to.1 (omega arith) (ap (λ j. (wire n j).from.0) here ∙ from)
