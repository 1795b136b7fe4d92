-- A fault as a value, and its text.
use Rattle.std.specs.Prelude.{◌≡◌, ℕ, List, [], ◌∷◌, map, codes, string_bytes}
use Rattle.serde_json.specs.Data.{Data, string}
use Rattle.sdf_options.specs.declared.fault.WordFault.{WordFault}
use Rattle.sdf_options.specs.declared.fault.WordFault.TheVariants as words
use Rattle.sdf_faults.specs.declared.fault.Progress.{Progress}
use Rattle.sdf_faults.specs.declared.fault.Fault.{Fault}
use Rattle.sdf_faults.specs.declared.fault.Fault.TheVariants as fault
use Rattle.sdf_json.specs.Values.{natural, or_null, object_of, list_of, IsLineOf}
use Rattle.sdf_json.specs.FaultMembers.{told, plain_fault}
use Rattle.sdf_json.specs.DesignFaults.{file_value}
use Rattle.sdf_json.specs.RunFaults.{prec_value, format_value}
use Rattle.sdf_json.specs.Details.{detailed}
use Rattle.sdf_json.specs.declared.details.Details.{Details}

-- how far an actor got before a deadlock, and the link that holds too little
abbrev pub progress_value : Progress → Data
progress_value p = object_of (
    (codes "name", string (string_bytes p.name)) ∷ (codes "done", natural p.done) ∷ (codes "of", natural p.of)
    ∷ (codes "short", or_null p.short) ∷ [])

abbrev pub stalled_value : List Progress → Data
stalled_value actors =
    told 10 (codes "Deadlock") ((codes "actors", list_of (map progress_value actors)) ∷ [])

-- a usage error: the number 0, and its text
abbrev pub usage_value : List ℕ → Data
usage_value text = told 0 (codes "Usage") ((codes "text", string text) ∷ [])

-- the value of a fault of the command line; the text of a usage error may be any
abbrev pub IsWordsValue : WordFault → Data → Type 0
IsWordsValue words.OutOfMemory d = d ≡ plain_fault 1 (codes "OutOfMemory")
IsWordsValue (words.Usage e) d = (text : List ℕ) × (d ≡ usage_value text)

abbrev pub IsFaultValue : Fault → Data → Type 0
IsFaultValue fault.OutOfMemory d = d ≡ plain_fault 1 (codes "OutOfMemory")
IsFaultValue (fault.Words f) d = IsWordsValue f d
IsFaultValue (fault.File f) d = d ≡ file_value f
IsFaultValue (fault.Deadlock s) d = d ≡ stalled_value s.actors.items
IsFaultValue fault.BlockingFactor d = d ≡ plain_fault 11 (codes "BlockingFactor")
IsFaultValue fault.WorkerCount d = d ≡ plain_fault 12 (codes "WorkerCount")
IsFaultValue (fault.Table f) d = d ≡ prec_value f
IsFaultValue fault.InputLength d = d ≡ plain_fault 29 (codes "InputLength")
IsFaultValue fault.NotHomed d = d ≡ plain_fault 30 (codes "NotHomed")
IsFaultValue fault.Patience d = d ≡ plain_fault 31 (codes "Patience")
IsFaultValue fault.NoWorker d = d ≡ plain_fault 32 (codes "NoWorker")
IsFaultValue fault.SessionFailed d = d ≡ plain_fault 33 (codes "SessionFailed")
IsFaultValue (fault.Wav f) d = d ≡ format_value f
IsFaultValue fault.Read d = d ≡ plain_fault 47 (codes "Read")
IsFaultValue fault.Write d = d ≡ plain_fault 48 (codes "Write")
IsFaultValue fault.ChannelsMissing d = d ≡ plain_fault 59 (codes "ChannelsMissing")
IsFaultValue fault.RateNotWhole d = d ≡ plain_fault 60 (codes "RateNotWhole")

-- the text of a fault, with what a diagnostic says
pub record IsFaultJson (f : Fault) (x : Details) (text : List ℕ) : Type 0 where
  pub value : Data
  pub of_fault : IsFaultValue f value
  pub is : IsLineOf (detailed x value) text
