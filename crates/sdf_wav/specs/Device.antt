-- What readers and writers do, and count.
use Rattle.std.specs.Prelude.{◌≡◌, ℕ, zero, suc, ◌+◌, ◌-◌, ◌^◌, ◌<◌, ◌⊎◌, min, List, [], ◌∷◌, ◌++◌, length, take, drop}
use Rattle.std.specs.Prelude.{Option, Some, Result, Ok, Err}
use Rattle.std.specs.Io.KnownBytes.{Appends}
use Rattle.sdf_wav.specs.declared.device.DeviceFault.{DeviceFault}
use Rattle.sdf_wav.specs.declared.fault.ReadFault.{ReadFault}
use Rattle.sdf_wav.specs.declared.fault.ReadFault.TheVariants as read_faults
use Rattle.sdf_wav.specs.declared.fault.WavFault.{WavFault}
use Rattle.sdf_wav.specs.declared.fault.WavFault.TheVariants as faults

-- a reader: the bytes that it has still to give, if known, and how many of its calls failed, up to the greatest u64
pub record ReaderState : Type 0 where
  pub remaining : Option (List ℕ)
  pub failures : ℕ

-- a writer: the bytes that it has taken, if known, and how many of its calls failed, up to the greatest u64
pub record WriterState : Type 0 where
  pub contents : Option (List ℕ)
  pub failures : ℕ

-- what a device's call returns if the one call of the device inside returned this
abbrev pub device_result : {E : Type 0} → Result ℕ E → Result ℕ DeviceFault
device_result (Ok n) = Ok n
device_result (Err e) = Err (record {})

-- the greatest u64
abbrev pub most_failures : ℕ
most_failures = 2 ^ 64 - 1

abbrev pub one_more : ℕ → ℕ
one_more n = min (n + 1) most_failures

-- the count after a read
abbrev pub failures_after_read : {X E : Type 0} → Result X E → ℕ → ℕ
failures_after_read (Ok x) n = n
failures_after_read (Err e) n = one_more n

-- the count after a write that took this number of the bytes
abbrev pub failures_after_taking : ℕ → List ℕ → ℕ → ℕ
failures_after_taking (suc k) bytes n = n
failures_after_taking zero [] n = n
failures_after_taking zero (b ∷ bytes) n = one_more n

abbrev pub failures_after_write : {E : Type 0} → Result ℕ E → List ℕ → ℕ → ℕ
failures_after_write (Ok k) bytes n = failures_after_taking k bytes n
failures_after_write (Err e) bytes n = one_more n

-- the count after a call that stops at the first failure of its device
abbrev pub failures_after : {X : Type 0} → Result X WavFault → ℕ → ℕ
failures_after (Ok x) n = n
failures_after (Err faults.OutOfMemory) n = n
failures_after (Err (faults.Format f)) n = n
failures_after (Err faults.Read) n = one_more n
failures_after (Err faults.Write) n = one_more n

-- a fault of reading, as a caller sees it
abbrev pub wav_fault : ReadFault → WavFault
wav_fault read_faults.OutOfMemory = faults.OutOfMemory
wav_fault (read_faults.Format f) = faults.Format f
wav_fault read_faults.Device = faults.Read

abbrev pub widened : {X : Type 0} → Result X ReadFault → Result X WavFault
widened (Ok x) = Ok x
widened (Err e) = Err (wav_fault e)

-- the device failed in between: its count rose, or is at the greatest
abbrev pub Failed : ℕ → ℕ → Type 0
Failed old new = (old < new) ⊎ (new ≡ most_failures)

-- P is true of the bytes before and after, if they are known
pub record Known (old new : Option (List ℕ)) (P : List ℕ → List ℕ → Type 0) : Type 0 where
  pub at : (input : List ℕ) → old ≡ Some input → (left : List ℕ) × (new ≡ Some left) × P input left

-- some bytes went from the front
abbrev pub LosesFront : List ℕ → List ℕ → Type 0
LosesFront input left = (k : ℕ) × (left ≡ drop k input)

-- buf has at its front the first n bytes of the input: all that fit, or all that there are
pub record Fills (input left buf : List ℕ) (n : ℕ) : Type 0 where
  pub count : n ≡ min (length buf) (length input)
  pub bytes : take n buf ≡ take (length buf) input
  pub left_is : left ≡ drop (length buf) input

-- what is left of an input after its first size bytes, of which there were n
pub record Skips (input left : List ℕ) (size n : ℕ) : Type 0 where
  pub count : n ≡ min size (length input)
  pub left_is : left ≡ drop size input

-- a front of the bytes was written
pub record AppendsFront (old new : Option (List ℕ)) (bytes : List ℕ) : Type 0 where
  pub front : List ℕ
  pub rest : List ℕ
  pub whole : bytes ≡ front ++ rest
  pub written : Appends old new front
