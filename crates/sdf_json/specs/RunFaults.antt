-- The faults of tables and of WAV files as values.
use Rattle.std.specs.Prelude.{ℕ, List, [], ◌∷◌, codes}
use Rattle.serde_json.specs.Data.{Data, Members, object}
use Rattle.sdf_prec.specs.declared.firing.Firing.{Firing}
use Rattle.sdf_prec.specs.declared.fault.PrecFault.{PrecFault}
use Rattle.sdf_prec.specs.declared.fault.PrecFault.TheVariants as prec
use Rattle.sdf_wav.specs.declared.fault.FormatFault.{FormatFault}
use Rattle.sdf_wav.specs.declared.fault.FormatFault.TheVariants as format
use Rattle.sdf_json.specs.Values.{natural, with, object_of}
use Rattle.sdf_json.specs.FaultMembers.{number_and_name, told, plain_fault, at}

abbrev pub firing_value : Firing → Data
firing_value f = object_of ((codes "actor", natural f.actor) ∷ (codes "number", natural f.number) ∷ [])

-- a fault of a firing in a row
abbrev pub in_row_members : ℕ → List ℕ → ℕ → Firing → Members
in_row_members number name row firing =
    with (number_and_name number name) ((codes "row", natural row) ∷ (codes "firing", firing_value firing) ∷ [])

abbrev pub row_fault : ℕ → List ℕ → ℕ → Firing → List (List ℕ × Data) → Data
row_fault number name row firing more = object (with (in_row_members number name row firing) more)

abbrev pub prec_value : PrecFault → Data
prec_value prec.OutOfMemory = plain_fault 1 (codes "OutOfMemory")
prec_value prec.BlockingFactor = plain_fault 11 (codes "BlockingFactor")
prec_value prec.WorkerCount = plain_fault 12 (codes "WorkerCount")
prec_value prec.BlockTooLong = plain_fault 13 (codes "BlockTooLong")
prec_value (prec.FiringMissing firing) =
    told 14 (codes "FiringMissing") ((codes "firing", firing_value firing) ∷ [])
prec_value (prec.FiringTwice row firing) = row_fault 15 (codes "FiringTwice") row firing []
prec_value (prec.FiringUnknown row firing) = row_fault 16 (codes "FiringUnknown") row firing []
prec_value (prec.RowTooWide row) = at 17 (codes "RowTooWide") (codes "row") row
prec_value (prec.TooEarly row firing needs) =
    row_fault 18 (codes "TooEarly") row firing ((codes "needs", firing_value needs) ∷ [])
prec_value (prec.BadHome actor) = at 19 (codes "BadHome") (codes "actor") actor
prec_value (prec.BadCost actor) = at 62 (codes "BadCost") (codes "actor") actor

abbrev pub format_value : FormatFault → Data
format_value format.NotRiff = plain_fault 34 (codes "NotRiff")
format_value format.NotWave = plain_fault 35 (codes "NotWave")
format_value format.NoFormat = plain_fault 36 (codes "NoFormat")
format_value format.ShortFormat = plain_fault 37 (codes "ShortFormat")
format_value format.NotPcm16 = plain_fault 38 (codes "NotPcm16")
format_value format.Channels = plain_fault 39 (codes "Channels")
format_value format.RateZero = plain_fault 40 (codes "RateZero")
format_value format.BadAlign = plain_fault 41 (codes "BadAlign")
format_value format.NoData = plain_fault 42 (codes "NoData")
format_value format.Truncated = plain_fault 43 (codes "Truncated")
format_value format.PartialFrame = plain_fault 44 (codes "PartialFrame")
format_value format.TooLong = plain_fault 45 (codes "TooLong")
format_value format.RateTooLarge = plain_fault 46 (codes "RateTooLarge")
