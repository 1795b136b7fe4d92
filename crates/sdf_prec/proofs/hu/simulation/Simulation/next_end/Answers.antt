use Rattle.std.proofs.Common.{length, subst}
use Rattle.sdf_prec.specs.Floor.{IsNextEnd}
use Rattle.sdf_prec.specs.Simulations.{SimulationValue}
use Rattle.sdf_prec.proofs.hu.simulation.Simulation.next_end.Goals as goal

pub returns-clause-next : goal.returns-clause-next
returns-clause-next c =
    subst (λ (k : SimulationValue). IsNextEnd k.until k.time (length k.until) c.next_end.result) c.self.view_is
    (rw c.deref.ensures.value at c.next_end.ensures)
