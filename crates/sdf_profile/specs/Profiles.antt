-- What a profile says of the design and the sound that it ran.
use Rattle.std.specs.Prelude.{◌≡◌, ℕ, ◌/◌, max, min, List, Option, Some, Err, length, string_bytes, sum, ◌⊎◌}
use Rattle.sdf_limits.specs.declared.TheConstants.{MAX_BLOCK, MAX_BLOCKING, MAX_PATIENCE}
use Rattle.sdf_graph.specs.Rates.{rates}
use Rattle.sdf_graph.specs.Periods.{IsLeastPeriod}
use Rattle.sdf_actor.specs.Graphs.{graph_of}
use Rattle.sdf_kit.specs.Kit.{kit_steps}
use Rattle.sdf_options.specs.declared.options.Options.{Options}
use Rattle.sdf_options.specs.declared.options.Runner.TheVariants.{Rings}
use Rattle.sdf_options.specs.declared.options.Policy.TheVariants.{Runs}
use Rattle.sdf_options.specs.declared.options.Placement.TheVariants.{Homed}
use Rattle.sdf_file.specs.Designs.{DesignValue}
use Rattle.sdf_wav.specs.Sound.{Sound}
use Rattle.sdf_faults.specs.declared.fault.Fault.{Fault}
use Rattle.sdf_faults.specs.declared.fault.Fault.TheVariants.{OutOfMemory}
use Rattle.sdf_plan.specs.Plans.{PlanValue, Suits, ArePassed, IsPlanFault}
use Rattle.sdf_wav.specs.Device.{ReaderState, WriterState}
use Rattle.sdf_process.specs.Run.{HasOutput, IsRun}
use Rattle.sdf_profile.specs.declared.measuring.Measured.{Measured}
use Rattle.sdf_profile.specs.declared.stopwatch.Spent.{Spent}
use Rattle.sdf_profile.specs.Times.{AreMeasured}

-- the design was run on the whole input, a WAV file, and made an output of it; there is only one, which is what `run`
-- writes (`sdf_process::laws::one_output`)
pub record HasRunOn (d : DesignValue) (input : List ℕ) : Type 0 where
  pub plan : PlanValue
  pub suits : Suits d.net plan
  pub out : Sound
  pub output : HasOutput d.net plan.period.repetitions input out

-- the text and the costs are made from one list, with a time and a number of firings for each actor (any numbers)
abbrev pub IsMeasured : DesignValue → Measured → Type 0
IsMeasured d m = (all : List Spent) × (length all ≡ length d.net.nodes)
    × AreMeasured d.names all (string_bytes m.text) m.costs.items

-- the most periods in a block, by the limits of a block and of `blocking`
abbrev pub blocking_of : ℕ → ℕ
blocking_of period = max 1 (min (MAX_BLOCK / period) MAX_BLOCKING)

-- the options of a profile: a run over rings by one worker, in the longest blocks allowed
pub record AreProfileOptions (d : DesignValue) (o : Options) : Type 0 where
  pub passed : ArePassed o
  pub runner : o.runner ≡ Rings
  pub workers : o.workers ≡ 1
  pub policy : o.policy ≡ Runs
  pub placement : o.placement ≡ Homed
  pub patience : o.patience ≡ MAX_PATIENCE
  pub blocking : (q : List ℕ) → IsLeastPeriod (rates (graph_of kit_steps d.net)) q → o.blocking ≡ blocking_of (sum q)

-- a reader that never failed
abbrev pub unfailed_reader : Option (List ℕ) → ReaderState
unfailed_reader remaining = record { remaining = remaining; failures = 0 }

-- a writer that never failed
abbrev pub unfailed_writer : Option (List ℕ) → WriterState
unfailed_writer contents = record { contents = contents; failures = 0 }

-- a run of the design on the input, by devices that never fail, returns the fault
pub record IsRunFault (d : DesignValue) (input : List ℕ) (f : Fault) : Type 0 where
  pub plan : PlanValue
  pub suits : Suits d.net plan
  pub left : Option (List ℕ)
  pub before : Option (List ℕ)
  pub after : Option (List ℕ)
  pub run : IsRun d.net plan.period.repetitions (unfailed_reader (Some input)) (unfailed_reader left)
      (unfailed_writer before) (unfailed_writer after) (Err f)

-- memory was refused, or a run returns the fault
abbrev pub IsMeasuringFault : DesignValue → List ℕ → Fault → Type 0
IsMeasuringFault d input f = (f ≡ OutOfMemory) ⊎ IsRunFault d input f

-- the fault is a plan's by the options of a profile, or a fault of measuring
abbrev pub IsProfileFault : DesignValue → List ℕ → Fault → Type 0
IsProfileFault d input f = ((o : Options) × AreProfileOptions d o × IsPlanFault d o f) ⊎ IsMeasuringFault d input f
