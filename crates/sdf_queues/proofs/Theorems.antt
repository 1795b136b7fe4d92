-- What proofs of other crates cite of this one: the laws of runs, by their lemmas, for actors of any steps.
use Rattle.sdf_actor.specs.declared.sides.Lists.TheVariants.{Outputs}
use Rattle.sdf_actor.specs.Laws.{HistoryExists, HistoryGrowsByFiring}
use Rattle.sdf_actor.specs.Steps.{Steps}
use Rattle.sdf_queues.specs.Feeds.{FeedsGoOn, ResumedNetsNeed, ResumedNetsMake, SinksMakeRuns, NothingRuns}
use Rattle.sdf_queues.specs.Feeds.{PeriodsMayLeave, ResumedRunsGoOn, ResumedRunsFail}
use Rattle.sdf_queues.specs.Laws.{RunsGoOn, NetsCanRun, HistoriesBegin, SinksTakeAll, SinksMakeOutputs}
use Rattle.sdf_queues.specs.Laws.{NothingMakesNothing, BlocksAreCounted, NodesTakeTheirs, PlansFit, BlocksStand}
use Rattle.sdf_queues.specs.Laws.{FiringsMoveOn, NetsHaveFacts, NetsHavePeriods, BlocksAreSmall}
use Rattle.sdf_queues.proofs.Resumed.{begun_runs_go_on as go_on, begun_runs_fail as fail}
use Rattle.sdf_queues.proofs.ResumedLists.{begun_nets_ask as ask, as_many_lists}
use Rattle.sdf_queues.proofs.Feeds.{run_in_all}
use Rattle.sdf_queues.proofs.GoingOn.{runs_go_on_of}
use Rattle.sdf_queues.proofs.Histories.{histories_begin as begin, sinks_take_all as take_all}
use Rattle.sdf_queues.proofs.Histories.{sinks_make_outputs as make_outputs, nothing_makes_nothing as makes_nothing}
use Rattle.sdf_queues.proofs.Histories.{sinks_make_runs as make_runs, nothing_runs as none_runs}
use Rattle.sdf_queues.proofs.Moves.{blocks_are_counted as are_counted, nodes_take_theirs as take_theirs}
use Rattle.sdf_queues.proofs.Moves.{plans_fit as fit, blocks_stand as stand, firings_move_on as move_on}
use Rattle.sdf_queues.proofs.Periods.{has_facts}
use Rattle.sdf_queues.proofs.Samples.{blocks_small}
use Rattle.sdf_queues.proofs.Wholes.{can_run, may_leave}

pub nets_have_facts : {A S T : Type 0} (s : Steps A S T) → NetsHaveFacts s
nets_have_facts = has_facts

pub nets_have_periods : {A S T : Type 0} (s : Steps A S T) → NetsHavePeriods s
nets_have_periods s n accepted p period =
    let facts = has_facts s n accepted in
    record { net = facts.net; shape = facts.graph; alike = facts.alike; accepted = accepted; period = period }

pub blocks_are_small : {A S T : Type 0} (s : Steps A S T) → BlocksAreSmall s
blocks_are_small = blocks_small

pub nets_can_run : {A S T : Type 0} (s : Steps A S T) → NetsCanRun s
nets_can_run = can_run

pub runs_go_on : {A S T : Type 0} (s : Steps A S T) → HistoryExists s → RunsGoOn s
runs_go_on = runs_go_on_of

pub feeds_go_on : {A B S T : Type 0} (s : Steps A S T) (r : Steps B S T) → FeedsGoOn s r
feeds_go_on = run_in_all

pub begun_nets_ask : {A B S T : Type 0} (s : Steps A S T) (r : Steps B S T) → ResumedNetsNeed s r
begun_nets_ask = ask

pub begun_nets_make : {A B S T : Type 0} (s : Steps A S T) (r : Steps B S T) → ResumedNetsMake s r
begun_nets_make s r n rest m begins = as_many_lists begins Outputs

pub periods_may_leave : {A S T : Type 0} (s : Steps A S T) → PeriodsMayLeave s
periods_may_leave = may_leave

pub begun_runs_go_on : {A B S T : Type 0} (s : Steps A S T) (r : Steps B S T) → ResumedRunsGoOn s r
begun_runs_go_on = go_on

pub begun_runs_fail : {A B S T : Type 0} (s : Steps A S T) (r : Steps B S T) → ResumedRunsFail s r
begun_runs_fail = fail

pub histories_begin : {A S T : Type 0} (s : Steps A S T) → HistoriesBegin s
histories_begin = begin

pub sinks_take_all : {A S T : Type 0} (s : Steps A S T) → SinksTakeAll s
sinks_take_all = take_all

pub sinks_make_outputs : {A S T : Type 0} (s : Steps A S T) → SinksMakeOutputs s
sinks_make_outputs = make_outputs

pub nothing_makes_nothing : {A S T : Type 0} (s : Steps A S T) → NothingMakesNothing s
nothing_makes_nothing = makes_nothing

pub sinks_make_runs : {A S T : Type 0} (s : Steps A S T) → SinksMakeRuns s
sinks_make_runs = make_runs

pub nothing_runs : {A S T : Type 0} (s : Steps A S T) → NothingRuns s
nothing_runs = none_runs

pub nodes_take_theirs : {A S T : Type 0} (s : Steps A S T) → NodesTakeTheirs s
nodes_take_theirs = take_theirs

pub plans_fit : {A S T : Type 0} (s : Steps A S T) → PlansFit s
plans_fit = fit

pub blocks_are_counted : {A S T : Type 0} (s : Steps A S T) → BlocksAreCounted s
blocks_are_counted = are_counted

pub blocks_stand : {A S T : Type 0} (s : Steps A S T) → BlocksStand s
blocks_stand = stand

pub firings_move_on : {A S T : Type 0} (s : Steps A S T) → HistoryGrowsByFiring s → FiringsMoveOn s
firings_move_on = move_on
