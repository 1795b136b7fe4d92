-- The faults of all layers as faults of the program, with one fault of memory, and their texts.
use Rattle.std.specs.Prelude.{◌≡◌, ◌++◌, ◌∷◌, [], ℕ, List, codes}
use Rattle.sdf_file.specs.declared.fault.FileFault.{FileFault}
use Rattle.sdf_file.specs.declared.fault.FileFault.TheVariants as file
use Rattle.sdf_prec.specs.declared.fault.PrecFault.{PrecFault}
use Rattle.sdf_prec.specs.declared.fault.PrecFault.TheVariants as prec
use Rattle.sdf_queues.specs.declared.fault.RunFault.{RunFault}
use Rattle.sdf_queues.specs.declared.fault.RunFault.TheVariants as run
use Rattle.sdf_wav.specs.declared.fault.WavFault.{WavFault}
use Rattle.sdf_wav.specs.declared.fault.WavFault.TheVariants as wav
use Rattle.sdf_options.specs.declared.fault.WordFault.{WordFault}
use Rattle.sdf_options.specs.declared.fault.WordFault.TheVariants as words
use Rattle.sdf_faults.specs.declared.fault.Fault.{Fault}
use Rattle.sdf_faults.specs.declared.fault.Fault.TheVariants as fault
use Rattle.sdf_options.specs.Printable.{printable_lines, printable_text}

abbrev pub of_words : WordFault → Fault
of_words words.OutOfMemory = fault.OutOfMemory
of_words f = fault.Words f

abbrev pub of_prec : PrecFault → Fault
of_prec prec.OutOfMemory = fault.OutOfMemory
of_prec f = fault.Table f

abbrev pub of_file : FileFault → Fault
of_file file.OutOfMemory = fault.OutOfMemory
of_file f = fault.File f

abbrev pub of_run : RunFault → Fault
of_run run.OutOfMemory = fault.OutOfMemory
of_run run.InputLength = fault.InputLength
of_run run.NotHomed = fault.NotHomed
of_run run.Patience = fault.Patience
of_run run.NoWorker = fault.NoWorker
of_run run.SessionFailed = fault.SessionFailed

abbrev pub of_wav : WavFault → Fault
of_wav wav.OutOfMemory = fault.OutOfMemory
of_wav (wav.Format f) = fault.Wav f
of_wav wav.Read = fault.Read
of_wav wav.Write = fault.Write

-- one line, which no name in a fault can break or escape from; a deadlock has a line for each actor, and a mistake of
-- usage has lines without any other control character
abbrev pub IsFaultText : Fault → List ℕ → Type 0
IsFaultText (fault.Deadlock s) text = Unit {0}
IsFaultText (fault.Words (words.Usage e)) text = (message : List ℕ) × (text ≡ printable_lines message)
IsFaultText f text = (message : List ℕ) × (text ≡ codes "sdfw: " ++ printable_text message ++ 10 ∷ [])
