use Rattle.std.proofs.Common.{[]}
use Rattle.sdf_rings.specs.Ends.{DrewEach, GaveEach}
use Rattle.sdf_rings.proofs.OwnEnds.{BeginBelow}
use Rattle.sdf_rings.proofs.seat.own_rings.sync_own.Given as goal

abbrev pub invariant-loop-i : goal.invariant-loop-i
invariant-loop-i g l = record {
  ins : DrewEach l.initial.ins l.ins (λ _. []);
  outs : GaveEach l.initial.outs l.outs (λ _. []);
  begin : BeginBelow l.net l.actor l.ins l.outs l.i;
}
