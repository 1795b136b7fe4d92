-- Runs of a resumed net.
use Rattle.std.proofs.Common.{◌∙◌}
use Rattle.sdf_actor.specs.declared.sides.Lists.TheVariants.{Outputs}
use Rattle.sdf_actor.specs.Steps.{Steps}
use Rattle.sdf_queues.specs.RunResults.{IsRunFault}
use Rattle.sdf_queues.specs.Feeds.{ResumedRunsGoOn, ResumedRunsFail}
use Rattle.sdf_queues.specs.declared.fault.RunFault.{RunFault}
use Rattle.sdf_queues.specs.declared.fault.RunFault.TheVariants.{OutOfMemory, InputLength, NotHomed, Patience, NoWorker}
use Rattle.sdf_queues.specs.declared.fault.RunFault.TheVariants.{SessionFailed}
use Rattle.sdf_queues.proofs.ResumedLists.{begun_nets_ask, as_many_lists}
use Rattle.sdf_queues.proofs.Feeds.{run_in_all}

pub begun_runs_go_on : {A B S T : Type 0} (s : Steps A S T) (r : Steps B S T) → ResumedRunsGoOn s r
begun_runs_go_on s r n m p more later on rest last has begins given after = record {
  given = (begun_nets_ask s r n rest m p.repetitions more later begins).0 given;
  count = after.count ∙ as_many_lists begins Outputs;
  runs = λ few first all made joined has_first full before all_are joined_are as_many.
      run_in_all s r n m p few more first later all made on joined rest last has has_first full before begins after
      all_are joined_are as_many;
}

pub begun_runs_fail : {A B S T : Type 0} (s : Steps A S T) (r : Steps B S T) → ResumedRunsFail s r
begun_runs_fail s r n rest m q periods inputs fault begins = go fault
  where
    go : (f : RunFault) → IsRunFault m q periods inputs f → IsRunFault n q periods inputs f
    go OutOfMemory why = tt
    go InputLength why = λ given. why ((begun_nets_ask s r n rest m q periods inputs begins).1 given)
    go NotHomed why = why
    go Patience why = why
    go NoWorker why = why
    go SessionFailed why = why
