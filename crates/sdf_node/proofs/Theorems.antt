-- What proofs of other crates cite of this one: the laws of nodes at work, by their lemmas, for actors of any steps.
use Rattle.std.proofs.Common.{◌*◌, ◌∙◌, arith}
use Rattle.std.proofs.lemmas.List.{take_all}
use Rattle.sdf_actor.specs.Steps.{Steps}
use Rattle.sdf_node.specs.Collected.{SinksHoldLists}
use Rattle.sdf_node.specs.Kept.{NodesKeepStates}
use Rattle.sdf_node.specs.Laws.{NodesCanStep, NodesKeepPhase, NodesCanStepMany, BlocksJoin}
use Rattle.sdf_node.proofs.Collected.{hold_lists}
use Rattle.sdf_node.proofs.Joined.{length_nth, joined_blocks}
use Rattle.sdf_node.proofs.Keeping.{keep_states}
use Rattle.sdf_node.proofs.ManyFirings.{can_step_many}
use Rattle.sdf_node.proofs.Stepping.{can_step, keeps_phase}

pub nodes_can_step : {A S T : Type 0} (s : Steps A S T) → NodesCanStep s
nodes_can_step = can_step

pub nodes_keep_phase : {A S T : Type 0} (s : Steps A S T) → NodesKeepPhase s
nodes_keep_phase = keeps_phase

pub nodes_can_step_many : {A S T : Type 0} (s : Steps A S T) → NodesCanStepMany s
nodes_can_step_many = can_step_many

pub blocks_join : {T : Type 0} → BlocksJoin T
blocks_join size many xs long = (
  λ i l. length_nth size xs i many l long,
  joined_blocks size xs many ∙ take_all (size * many) xs (omega arith),
)

pub sinks_hold_lists : {A S T : Type 0} (s : Steps A S T) → SinksHoldLists s
sinks_hold_lists = hold_lists

pub nodes_keep_states : {A S T : Type 0} (s : Steps A S T) → NodesKeepStates s
nodes_keep_states = keep_states
