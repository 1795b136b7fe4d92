-- The exit statuses.
use Rattle.std.specs.Prelude.{ℕ}
use Rattle.clap.specs.Words.{kind_of}
use Rattle.clap.specs.declared.error.kind.ErrorKind.{ErrorKind}
use Rattle.clap.specs.declared.error.kind.ErrorKind.TheVariants.{DisplayHelp, DisplayVersion}
use Rattle.sdf_options.specs.declared.fault.WordFault.TheVariants as words
use Rattle.sdf_faults.specs.declared.fault.Fault.{Fault}
use Rattle.sdf_faults.specs.declared.fault.Fault.TheVariants as fault

-- help and the version are not mistakes
abbrev pub usage_status : ErrorKind → ℕ
usage_status DisplayHelp = 0
usage_status DisplayVersion = 0
usage_status k = 2

-- memory, a worker or a session 6, usage 2, the design or the plan 3, the WAV file 4, a device 5
abbrev pub status_of : Fault → ℕ
status_of fault.OutOfMemory = 6
status_of fault.NoWorker = 6
status_of fault.SessionFailed = 6
status_of (fault.Words words.OutOfMemory) = 6
status_of (fault.Words (words.Usage e)) = usage_status (kind_of e)
status_of (fault.File f) = 3
status_of (fault.Deadlock s) = 3
status_of fault.BlockingFactor = 3
status_of fault.WorkerCount = 3
status_of (fault.Table f) = 3
status_of fault.InputLength = 3
status_of fault.NotHomed = 3
status_of fault.Patience = 3
status_of (fault.Wav f) = 4
status_of fault.ChannelsMissing = 4
status_of fault.RateNotWhole = 4
status_of fault.Read = 5
status_of fault.Write = 5
