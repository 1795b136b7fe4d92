-- `hand_on` ends, since each turn writes some bytes, and what is held or written stays the same.
use Rattle.std.proofs.Common.{length}
use Rattle.std.specs.Io.KnownBytes.{append_known, Keeps}
use Rattle.sdf_io.proofs.held.HeldStart.hand_on.Given as goal

abbrev pub invariant-loop-self : goal.invariant-loop-self
invariant-loop-self g l = Keeps (append_known (g.W.Write.contents l.initial.self.to.now) l.initial.self.held.items)
    (append_known (g.W.Write.contents l.self.to.now) l.self.held.items)

abbrev pub decreases-loop-self : goal.decreases-loop-self
decreases-loop-self g l = length l.self.held.items
