-- Certificates of a period.
use Rattle.std.specs.Prelude.{ℕ, ◌<◌, List}
use Rattle.sdf_graph.specs.Rates.{GraphValue, IsShape}
use Rattle.sdf_prec.specs.Blocks.{block}
use Rattle.sdf_prec.specs.Tables.{TableValue}
use Rattle.sdf_times.specs.SelfTimed.{Plan, IsPeriodic, IsIterationPeriod}
use Rattle.sdf_times.specs.Periods.{AreEnds}
use Rattle.sdf_times.specs.Checks.{plan_of, schedule_of, IsFull, IsBlockRun}
use Rattle.sdf_times.specs.Rounds.{IsRound}
use Rattle.sdf_times.specs.declared.step.Step.{Step}

-- a period of time / blocks; the starts of a block's firings in a schedule, in units of 1 / blocks; and a chain of
-- firings that comes round
pub record CertificateValue : Type 0 where
  pub time : ℕ
  pub blocks : ℕ
  pub starts : List (List ℕ)
  pub steps : List Step

-- the schedule has a start for each firing, repeats itself every `time`, and no firing is too soon; the chain takes
-- time / blocks for each block
pub record IsCertificate (p : Plan) (firings : List ℕ) (c : CertificateValue) : Type 0 where
  pub some : 0 < c.blocks
  pub full : IsFull firings c.starts
  pub periodic : IsPeriodic p c.time c.blocks (schedule_of c.time c.starts)
  pub round : IsRound p c.steps c.time c.blocks

-- the blocks of each self-timed run take t/q in the long run
abbrev pub IsPeriodFor : Plan → ℕ → ℕ → Type 0
IsPeriodFor p t q = (end : ℕ → ℕ) → AreEnds p end → IsIterationPeriod end t q

-- what a certificate says is the period
abbrev pub CertificatesHold : Type 0
CertificatesHold =
    (g : GraphValue) (reps : List ℕ) (j width : ℕ) (t : TableValue) (costs : List ℕ) (c : CertificateValue) →
    IsShape g →
    IsBlockRun g reps j width t costs → IsCertificate (plan_of g (block j reps) t costs) (block j reps) c →
    IsPeriodFor (plan_of g (block j reps) t costs) c.time c.blocks
