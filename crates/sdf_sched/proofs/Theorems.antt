-- What proofs of other crates cite of this one: each statement of specs/Laws.antt, by its lemma.
use Rattle.sdf_graph.specs.Sequences.{times}
use Rattle.sdf_sched.specs.Laws.{EnabledStays, StuckCountsMeanDeadlock, StuckMeansDeadlock, PeriodOrDeadlock}
use Rattle.sdf_sched.specs.Laws.{RoundsPass, RunsStay}
use Rattle.sdf_sched.proofs.Greedy.{IsEnabled_rises, stuck_counts}
use Rattle.sdf_sched.proofs.Decided.{period_or_deadlock as is_decided}
use Rattle.sdf_sched.proofs.Passes.{rounds_pass as are_passes}
use Rattle.sdf_sched.proofs.RunsStay.{runs_stay as stay_in_runs}

pub enabled_stays : EnabledStays
enabled_stays = IsEnabled_rises

pub stuck_counts_mean_deadlock : StuckCountsMeanDeadlock
stuck_counts_mean_deadlock = stuck_counts

pub stuck_means_deadlock : StuckMeansDeadlock
stuck_means_deadlock r q w sound stopped = stuck_counts r q (times w) sound stopped.none

pub period_or_deadlock : PeriodOrDeadlock
period_or_deadlock = is_decided

pub rounds_pass : RoundsPass
rounds_pass = are_passes

pub runs_stay : RunsStay
runs_stay = stay_in_runs
