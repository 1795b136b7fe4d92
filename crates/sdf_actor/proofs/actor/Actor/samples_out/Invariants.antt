use Rattle.std.proofs.Common.{◌≡◌, ◌≤◌, ◌*◌}
use Rattle.std.specs.List.{sum_by, range_with_len}
use Rattle.sdf_actor.proofs.actor.Actor.samples_out.Given as goal

abbrev pub invariant-loop-port : goal.invariant-loop-port
invariant-loop-port g l = record {
  total : l.total ≡ sum_by (λ p. g.Self.Actor.steps.put l.self p l.phase) (range_with_len 0 l.port);
  few : l.total ≤ l.port * 4294967295;
  ports : l.port-end ≤ 16;
}
