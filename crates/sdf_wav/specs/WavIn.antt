-- What a `WavIn` shows: its reader, the name of the borrow of that reader, and where it reads on.
use Rattle.std.specs.Prelude.{ℕ}
use Rattle.sdf_wav.specs.declared.wav_in.WavIn.{WavIn}
use Rattle.sdf_wav.specs.PiecesIn.{ContentInValue}

abbrev pub reader_of : {R : Type 0} → WavIn R → R
reader_of w = w.reader.now

abbrev pub reader_name : {R : Type 0} → WavIn R → ℕ
reader_name w = w.reader.ghost_name

abbrev pub reading : {R : Type 0} → WavIn R → ContentInValue
reading w = w.content
