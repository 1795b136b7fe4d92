-- What a run says of a profile.
use Rattle.std.proofs.Common.{ℕ, List, Option, Some, Result, Ok, Err, MatchResult, refl}
use Rattle.sdf_file.specs.Designs.{DesignValue}
use Rattle.sdf_faults.specs.declared.fault.Fault.{Fault}
use Rattle.sdf_plan.specs.Plans.{PlanValue, Suits}
use Rattle.sdf_process.specs.Run.{IsRun}
use Rattle.sdf_profile.specs.Profiles.{HasRunOn, IsRunFault, unfailed_reader, unfailed_writer}

pub ran : (d : DesignValue) (p : PlanValue) (input : List ℕ) (left before after : Option (List ℕ))
    (result : Result (Unit {0}) Fault) → Suits d.net p →
    IsRun d.net p.period.repetitions (unfailed_reader (Some input)) (unfailed_reader left) (unfailed_writer before)
    (unfailed_writer after) result →
    MatchResult result (λ _. HasRunOn d input) (IsRunFault d input)
ran d p input left before after (Ok x) suits run =
    let is = run.runs input refl in
    record { plan = p; suits = suits; out = is.0; output = is.1 }
ran d p input left before after (Err e) suits run = record {
  plan = p;
  suits = suits;
  left = left;
  before = before;
  after = after;
  run = run;
}
