-- What proofs of other crates cite of this one: the laws of nets that forget, by their lemmas, for actors of any steps.
use Rattle.sdf_actor.specs.Steps.{Steps}
use Rattle.sdf_warm_up.specs.Laws.{StatesAgree, WarmRunsLeave, WarmRunsGoOn, PartsGoOn, RunsGoOnTwice}
use Rattle.sdf_warm_up.specs.Laws.{StatesWereLeft, RunsLeaveStates}
use Rattle.sdf_warm_up.proofs.Forgetting.{states_agree as all_forget}
use Rattle.sdf_warm_up.proofs.Left.{were_left}
use Rattle.sdf_warm_up.proofs.Parts.{parts, goes_twice, left_on}
use Rattle.sdf_warm_up.proofs.Running.{leave, go_on}

pub states_agree : {A S T : Type 0} (s : Steps A S T) → StatesAgree s
states_agree = all_forget

pub warm_runs_leave : {A S T : Type 0} (s : Steps A S T) → WarmRunsLeave s
warm_runs_leave = leave

pub warm_runs_go_on : {A S T : Type 0} (s : Steps A S T) → WarmRunsGoOn s
warm_runs_go_on = go_on

pub parts_go_on : {A S T : Type 0} (s : Steps A S T) → PartsGoOn s
parts_go_on = parts

pub runs_go_on_twice : {A S T : Type 0} (s : Steps A S T) → RunsGoOnTwice s
runs_go_on_twice = goes_twice

pub runs_leave_states : {A S T : Type 0} (s : Steps A S T) → RunsLeaveStates s
runs_leave_states = left_on

pub states_were_left : {A S T : Type 0} (s : Steps A S T) → StatesWereLeft s
states_were_left = were_left
