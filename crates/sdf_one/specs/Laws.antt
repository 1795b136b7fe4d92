-- The laws of runs without periods, and of nets that read samples.
use Rattle.std.specs.Prelude.{◌≡◌, ℕ, ◌<◌, List, [], length, slice_index_or}
use Rattle.sdf_actor.specs.declared.node.Node.{Node}
use Rattle.sdf_actor.specs.declared.net_state.NetState.{NetState}
use Rattle.sdf_actor.specs.declared.sides.Lists.TheVariants.{Inputs, Outputs}
use Rattle.sdf_actor.specs.Nets.{Netlist}
use Rattle.sdf_actor.specs.NetStates.{IsNetState}
use Rattle.sdf_actor.specs.Sides.{list_count, period_samples}
use Rattle.sdf_actor.specs.Steps.{Steps}
use Rattle.sdf_queues.specs.RunResults.{periods_of}
use Rattle.sdf_queues.specs.Feeds.{HasRun}

-- no period makes empty lists, and leaves what the net begins with
abbrev pub NoPeriodRuns : {A S T : Type 0} → Steps A S T → Type 0
NoPeriodRuns {A} {S} {T} s =
    (n : Netlist A T) (q : List ℕ) (given made : List (List T)) (rest : NetState T S) →
    length made ≡ list_count Outputs n.nodes → ((e : ℕ) → slice_index_or made e [] ≡ []) →
    IsNetState s n given (λ _. 0) rest → HasRun s n given (periods_of q 0) made rest

-- a net whose periods read samples has an input list
abbrev pub SamplesHaveLists : Type 0 → Type 0
SamplesHaveLists A =
    (nodes : List (Node A)) (q : List ℕ) → 0 < period_samples nodes Inputs q → 0 < list_count Inputs nodes
