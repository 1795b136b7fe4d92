-- The limits of the numbers of a command line.
use Rattle.std.specs.Prelude.{◌≤◌, IfSome}
use Rattle.sdf_limits.specs.declared.TheConstants.{MAX_WORKERS}
use Rattle.sdf_options.specs.Limits.{AreWithinLimits}
use Rattle.sdf_cli.specs.declared.requests.TheConstants.{MAX_FAULT}
use Rattle.sdf_cli.specs.declared.requests.ParallelWorkers.{ParallelWorkers}
use Rattle.sdf_cli.specs.declared.requests.ParallelWorkers.TheVariants.{Processors, Workers}
use Rattle.sdf_cli.specs.declared.requests.Words.{Words}
use Rattle.sdf_cli.specs.declared.requests.Words.TheVariants.{Design, Batch, Fir, Resample, Kinds, Explain, Overview}
use Rattle.sdf_cli.specs.declared.requests.DesignCommand.{DesignCommand}
use Rattle.sdf_cli.specs.declared.requests.DesignCommand.TheVariants.{Check, Schedule, Analyze, Compare, Draw, Run}
use Rattle.sdf_cli.specs.declared.requests.DesignCommand.TheVariants.{Profile}

-- the number of workers is within its limits
abbrev pub IsParallelWorkers : ParallelWorkers → Type 0
IsParallelWorkers Processors = Unit {0}
IsParallelWorkers (Workers workers) = (1 ≤ workers) × (workers ≤ MAX_WORKERS)

-- the numbers of a command for a design are within their limits
abbrev pub IsCommandWithinLimits : DesignCommand → Type 0
IsCommandWithinLimits (Check format) = Unit {0}
IsCommandWithinLimits (Schedule options format) = AreWithinLimits options
IsCommandWithinLimits (Analyze options format) = AreWithinLimits options
IsCommandWithinLimits (Compare options format) = AreWithinLimits options
IsCommandWithinLimits (Draw options picture) = AreWithinLimits options
IsCommandWithinLimits (Run run) = AreWithinLimits run.options × IfSome run.parallel IsParallelWorkers
IsCommandWithinLimits (Profile input write) = Unit {0}

-- the numbers of a command are within their limits
abbrev pub IsWithinLimits : Words → Type 0
IsWithinLimits (Design graph task why) = IsCommandWithinLimits task
IsWithinLimits (Batch graph batch why) = AreWithinLimits batch.options × IfSome batch.parallel IsParallelWorkers
IsWithinLimits (Fir wanted why) = Unit {0}
IsWithinLimits (Resample conversion why) = Unit {0}
IsWithinLimits (Kinds format) = Unit {0}
IsWithinLimits (Explain number) = (1 ≤ number) × (number ≤ MAX_FAULT)
IsWithinLimits Overview = Unit {0}
