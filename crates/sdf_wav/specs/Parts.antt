-- The parts of a WAV file as functions of their bytes, each with the first fault that it has.
use Rattle.std.specs.Prelude.{ℕ, ◌*◌, Bool, not, ◌&&◌, ◌||◌, if◌then◌else◌, nat_lt, ◌==◌, List, [], ◌∷◌, length, take}
use Rattle.std.specs.Prelude.{drop, Option, Some, None, Result, Ok, Err, codes}
use Rattle.std.specs.Str.{bytes_eq}
use Rattle.byteorder.specs.Endian.{little_number}
use Rattle.sdf_wav.specs.declared.fault.FormatFault.{FormatFault}
use Rattle.sdf_wav.specs.declared.fault.FormatFault.TheVariants.{NotRiff, NotWave, NoFormat, ShortFormat, NotPcm16}
use Rattle.sdf_wav.specs.declared.fault.FormatFault.TheVariants.{Channels, RateZero, BadAlign, NoData, Truncated}
use Rattle.sdf_wav.specs.declared.parts.ChunkKind.{ChunkKind}
use Rattle.sdf_wav.specs.declared.parts.ChunkKind.TheVariants as kinds
use Rattle.sdf_wav.specs.declared.parts.ChunkHeader.{ChunkHeader}
use Rattle.sdf_wav.specs.declared.format.Format.{Format}
use Rattle.sdf_wav.specs.declared.parts.Fields.{Fields}
use Rattle.sdf_wav.specs.declared.parts.DataStart.{DataStart}
use Rattle.sdf_wav.specs.declared.wav.TheConstants.{MAX_CHANNELS}

-- the first twelve bytes, or all if there are fewer
abbrev pub riff_of : List ℕ → Result (Unit {0}) FormatFault
riff_of front =
    if nat_lt (length front) 4 then Err Truncated
    else (if not (bytes_eq (take 4 front) (codes "RIFF")) then Err NotRiff
    else (if nat_lt (length front) 12 then Err Truncated
    else (if not (bytes_eq (take 4 (drop 8 front)) (codes "WAVE")) then Err NotWave
    else Ok tt)))

abbrev pub kind_of : List ℕ → ChunkKind
kind_of id = if bytes_eq id (codes "data") then kinds.Data else
    (if bytes_eq id (codes "fmt ") then kinds.Format else kinds.Other)

-- the first eight bytes at the place of a chunk, or all if there are fewer
abbrev pub header_of : Bool → List ℕ → Result ChunkHeader FormatFault
header_of has_format front =
    if length front == 0 then Err (if has_format then NoData else NoFormat)
    else (if nat_lt (length front) 8 then Err Truncated
    else Ok (record { kind = kind_of (take 4 front); size = little_number 4 (drop 4 front) }))

abbrev pub pcm_guid : List ℕ
pcm_guid = 0x01 ∷ 0x00 ∷ 0x00 ∷ 0x00 ∷ 0x00 ∷ 0x00 ∷ 0x10 ∷ 0x00 ∷ 0x80 ∷ 0x00 ∷ 0x00 ∷ 0xAA ∷ 0x00 ∷ 0x38
    ∷ 0x9B ∷ 0x71 ∷ []

abbrev pub fields_of : List ℕ → Fields
fields_of content = record {
  tag = little_number 2 content;
  channels = little_number 2 (drop 2 content);
  rate = little_number 4 (drop 4 content);
  align = little_number 2 (drop 12 content);
  bits = little_number 2 (drop 14 content);
}

-- 16 bits, and the tag of PCM or the extensible one with PCM behind it
abbrev pub is_pcm16 : Fields → List ℕ → Bool
is_pcm16 fields content =
    (fields.bits == 16) && ((fields.tag == 1) || ((fields.tag == 0xFFFE)
    && bytes_eq (take 16 (drop 24 content)) pcm_guid))

abbrev pub checked : Fields → List ℕ → Result Format FormatFault
checked fields content =
    if (fields.tag == 0xFFFE) && nat_lt (length content) 40 then Err ShortFormat
    else (if not (is_pcm16 fields content) then Err NotPcm16
    else (if (fields.channels == 0) || nat_lt MAX_CHANNELS fields.channels then Err Channels
    else (if fields.rate == 0 then Err RateZero
    else (if not (fields.align == 2 * fields.channels) then Err BadAlign
    else Ok (record { rate = fields.rate; channels = fields.channels })))))

-- the content of a format chunk, or its first forty bytes
unfoldable pub format_of : List ℕ → Result Format FormatFault
format_of content = checked (fields_of content) content

-- where the data begins, in a chunk of this size behind this format
abbrev pub data_start : Option Format → ℕ → Result DataStart FormatFault
data_start None size = Err NoFormat
data_start (Some format) size = Ok (record { format = format; size = size })
