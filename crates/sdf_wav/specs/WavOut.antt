-- What a `WavOut` shows: its writer, the name of the borrow of that writer, and what it owes.
use Rattle.std.specs.Prelude.{◌≡◌, ℕ, Some, None}
use Rattle.sdf_wav.specs.declared.wav_out.WavOut.{WavOut}
use Rattle.sdf_wav.specs.declared.fault.WavFault.{WavFault}
use Rattle.sdf_wav.specs.declared.fault.WavFault.TheVariants as faults
use Rattle.sdf_wav.specs.PiecesOut.{ContentOutValue, start_fault}

abbrev pub writer_of : {W : Type 0} → WavOut W → W
writer_of o = o.writer.now

abbrev pub writer_name : {W : Type 0} → WavOut W → ℕ
writer_name o = o.writer.ghost_name

abbrev pub owed : {W : Type 0} → WavOut W → ContentOutValue
owed o = o.content

-- why a file did not start: the first test that fails, otherwise the writer
abbrev pub StartFails : ℕ → ℕ → ℕ → WavFault → Type 0
StartFails rate channels frames (faults.Format f) = start_fault rate channels frames ≡ Some f
StartFails rate channels frames faults.Write = start_fault rate channels frames ≡ None
StartFails rate channels frames faults.Read = ⊥
StartFails rate channels frames faults.OutOfMemory = ⊥
