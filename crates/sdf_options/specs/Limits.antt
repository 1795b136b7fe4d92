-- The limits of the numbers of options, and mistakes of usage.
use Rattle.std.specs.Prelude.{◌≤◌, ◌≢◌}
use Rattle.sdf_limits.specs.declared.TheConstants.{MAX_BLOCKING, MAX_PATIENCE, MAX_WORKERS}
use Rattle.clap.specs.Words.{kind_of}
use Rattle.clap.specs.declared.error.kind.ErrorKind.TheVariants.{OutOfMemory}
use Rattle.sdf_options.specs.declared.options.Options.{Options}
use Rattle.sdf_options.specs.declared.fault.WordFault.{WordFault}
use Rattle.sdf_options.specs.declared.fault.WordFault.TheVariants as fault

-- the numbers of the options are within their limits
pub record AreWithinLimits (o : Options) : Type 0 where
  pub blocking : (1 ≤ o.blocking) × (o.blocking ≤ MAX_BLOCKING)
  pub workers : (1 ≤ o.workers) × (o.workers ≤ MAX_WORKERS)
  pub patience : o.patience ≤ MAX_PATIENCE

-- a mistake of usage is never a refused allocation
abbrev pub IsUsage : WordFault → Type 0
IsUsage fault.OutOfMemory = Unit {0}
IsUsage (fault.Usage e) = kind_of e ≢ OutOfMemory
