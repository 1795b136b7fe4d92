-- Writing a file in pieces: its header first, then its samples, some frames at a time.
use Rattle.std.specs.Prelude.{ℕ, ◌-◌, ◌*◌, ◌/◌, Bool, true, ◌||◌, nat_lt, ◌==◌, if◌then◌else◌, List, Option, Some}
use Rattle.std.specs.Prelude.{Result, Ok, Err}
use Rattle.std.specs.Io.KnownBytes.{Appends}
use Rattle.sdf_wav.specs.declared.fault.FormatFault.{FormatFault}
use Rattle.sdf_wav.specs.declared.fault.FormatFault.TheVariants.{Channels, RateZero}
use Rattle.sdf_wav.specs.declared.fault.WavFault.{WavFault}
use Rattle.sdf_wav.specs.declared.fault.WavFault.TheVariants as faults
use Rattle.sdf_wav.specs.declared.wav.TheConstants.{MAX_CHANNELS}
use Rattle.sdf_wav.specs.Canonical.{header, size_fault}
use Rattle.sdf_wav.specs.Device.{AppendsFront}

-- what a writing owes: its missing frames, each of this number of channels, or nothing once its writer failed
pub record ContentOutValue : Type 0 where
  pub channels : ℕ
  pub missing : ℕ
  pub spent : Bool

-- why no file has this rate and these numbers of channels and frames, if there is none
abbrev pub start_fault : ℕ → ℕ → ℕ → Option FormatFault
start_fault rate channels frames =
    if (channels == 0) || nat_lt MAX_CHANNELS channels then Some Channels
    else (if rate == 0 then Some RateZero
    else size_fault rate channels (frames * channels))

-- the first 44 bytes of the canonical file of this number of frames
abbrev pub file_header : ℕ → ℕ → ℕ → List ℕ
file_header rate channels frames = header rate channels (2 * (frames * channels))

-- What a call did that should append these bytes: it appended all of them, or a front if the writer failed.
abbrev pub Puts : {X : Type 0} → Option (List ℕ) → Option (List ℕ) → List ℕ → Result X WavFault → Type 0
Puts old new bytes (Ok x) = Appends old new bytes
Puts old new bytes (Err faults.Write) = AppendsFront old new bytes
Puts old new bytes (Err (faults.Format f)) = ⊥
Puts old new bytes (Err faults.Read) = ⊥
Puts old new bytes (Err faults.OutOfMemory) = ⊥

-- what is owed after a call that should write this number of samples
abbrev pub owed_after : {X : Type 0} → ContentOutValue → ℕ → Result X WavFault → ContentOutValue
owed_after w samples (Ok x) = record w { missing = w.missing - samples / w.channels }
owed_after w samples (Err e) = record w { spent = true }

-- the result of a call that writes nothing: the fault if there was one
abbrev pub end_result : Bool → Result (Unit {0}) WavFault
end_result spent = if spent then Err faults.Write else Ok tt
