-- The notes on a run that ended well: what of the sound was not read.
use Rattle.std.specs.Prelude.{ℕ, ◌-◌, ◌==◌, List, [], ◌++◌, codes, decimal, nat_lt, if◌then◌else◌}
use Rattle.sdf_options.specs.Printable.{printable_text}
use Rattle.sdf_why.specs.Words.{end, numbered}

-- what the channels that are not read need
unfoldable pub inputs_words : ℕ → ℕ → List ℕ
inputs_words first last =
    numbered (codes "channel") first last ++ (if first == last then codes " needs an input" else codes " need inputs")

-- how many channels a sound has, and which of them the design reads
unfoldable pub reads_words : List ℕ → ℕ → ℕ → List ℕ
reads_words sound inputs channels =
    printable_text sound ++ codes " has " ++ decimal channels ++ codes " channels, but the design reads only "
    ++ numbered (codes "channel") 0 (inputs - 1)

-- how `resample` makes a design for all channels
unfoldable pub resample_words : ℕ → List ℕ
resample_words channels = codes " (resample: --channels " ++ decimal channels ++ codes ")\n"

-- the sound has more channels than the design has inputs
unfoldable pub unread_line : List ℕ → ℕ → ℕ → List ℕ
unread_line sound inputs channels =
    reads_words sound inputs channels ++ codes ": " ++ inputs_words inputs (channels - 1) ++ resample_words channels

-- the note on channels that the design does not read, if there are any
abbrev pub channels_note : List ℕ → ℕ → ℕ → List ℕ
channels_note sound inputs channels = if nat_lt inputs channels then unread_line sound inputs channels else []

-- the note on bytes behind samples of a size of 0
unfoldable pub size_note : List ℕ → List ℕ
size_note sound =
    codes "the header of " ++ printable_text sound
    ++ codes " says 0 bytes of samples, but more follow: --open-ended reads them" ++ end

-- the bytes that are left out
unfoldable pub last_words : ℕ → List ℕ
last_words bytes = if bytes == 1 then codes "its last byte is" else
    codes "its last " ++ decimal bytes ++ codes " bytes are"

-- the sound ends within a frame, of which it has this number of bytes
unfoldable pub cut_line : List ℕ → ℕ → List ℕ
cut_line sound bytes =
    printable_text sound ++ codes " ends within a frame: " ++ last_words bytes ++ codes " left out" ++ end

-- the note on the bytes of a last frame that is cut off, if there are any
abbrev pub cut_note : List ℕ → ℕ → List ℕ
cut_note sound bytes = if bytes == 0 then [] else cut_line sound bytes
