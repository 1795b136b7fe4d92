use Rattle.std.proofs.Common.{ℕ, arith}
use Rattle.sdf_actor.proofs.Many.{ports_more}
use Rattle.sdf_actor.proofs.actor.Actor.samples_out.Goals as goal

pub loop-port-preserved : goal.loop-port-preserved
loop-port-preserved g c =
    let f : ℕ → ℕ = λ p. g.Self.Actor.steps.put c.args.self.now p c.args.phase in
    let inv = c.loop-port.invariant in
    record {
      total = omega (arith, inv.total, c.put.ensures, ports_more f c.loop-port.port);
      few = omega (arith, inv.few, c.put.type_inv);
      ports = inv.ports;
    }
