use Rattle.std.proofs.Common.{ℕ, arith}
use Rattle.sdf_actor.proofs.Many.{ports_more}
use Rattle.sdf_actor.proofs.actor.Actor.samples_in.Goals as goal

pub loop-port-preserved : goal.loop-port-preserved
loop-port-preserved g c =
    let f : ℕ → ℕ = λ p. g.Self.Actor.steps.take c.args.self.now p c.args.phase in
    let inv = c.loop-port.invariant in
    record {
      total = omega (arith, inv.total, c.take.ensures, ports_more f c.loop-port.port);
      few = omega (arith, inv.few, c.take.type_inv);
      ports = inv.ports;
    }
