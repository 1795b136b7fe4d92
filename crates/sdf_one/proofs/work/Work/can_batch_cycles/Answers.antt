use Rattle.std.proofs.Common.{sym, subst}
use Rattle.sdf_one.specs.Cycles.{AreRowsAt}
use Rattle.sdf_one.proofs.work.Work.can_batch_cycles.Goals as goal

pub is_in_turn-requires : goal.is_in_turn-requires
is_in_turn-requires g c =
    let rows = rw c.in-Inner.is at c.requires in
    subst (AreRowsAt c.args.ins.now c.args.sizes.now.takes) (sym c.cycle-cycle.ensures) rows.0

pub is_in_turn-requires-then-is_in_turn : goal.is_in_turn-requires-then-is_in_turn
is_in_turn-requires-then-is_in_turn g c =
    let rows = rw c.in-Inner.is at c.requires in
    subst (AreRowsAt c.args.outs.now c.args.sizes.now.puts) (sym c.cycle-cycle.ensures) rows.1
