-- What proofs of other crates cite of this one: its laws, by their lemmas, for nets of actors of any steps.
use Rattle.sdf_actor.specs.Steps.{Steps}
use Rattle.sdf_one.specs.Laws.{NoPeriodRuns, SamplesHaveLists}
use Rattle.sdf_one.proofs.Idle.{no_period_runs as runs, samples_have_lists as have_lists}

pub no_period_runs : {A S T : Type 0} (s : Steps A S T) → NoPeriodRuns s
no_period_runs = runs

pub samples_have_lists : {A : Type 0} → SamplesHaveLists A
samples_have_lists = have_lists
