use Rattle.sdf_queues.proofs.Theorems.{blocks_are_counted, blocks_stand, firings_move_on}
use Rattle.sdf_queues.proofs.laws.firings_move_on.Goals as goal

pub returns-clause-counts : goal.returns-clause-counts
returns-clause-counts g c = blocks_are_counted g.A.Actor.steps

pub returns-clause-stand : goal.returns-clause-stand
returns-clause-stand g c = blocks_stand g.A.Actor.steps

pub returns-clause-moves : goal.returns-clause-moves
returns-clause-moves g c = firings_move_on g.A.Actor.steps c.history_grows_by_firing.ensures
