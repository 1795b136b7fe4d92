-- WAV files, part by part (RIFF/WAVE, PCM of 16 bits). Numbers are little-endian.
use Rattle.std.specs.Prelude.{◌≡◌, ◌≢◌, ◌⊎◌, ℕ, ◌*◌, ◌%◌, ◌≤◌, List, [], ◌∷◌, ◌++◌, length, take, drop, Option, Some}
use Rattle.std.specs.Prelude.{None, codes}
use Rattle.std.specs.List.{AllByRecursion}
use Rattle.byteorder.specs.Endian.{little_number}
use Rattle.sdf_wav.specs.declared.format.Format.{Format}
use Rattle.sdf_wav.specs.Parts.{pcm_guid}
use Rattle.sdf_wav.specs.Sound.{Sound, pcm_samples}
use Rattle.sdf_wav.specs.declared.wav.TheConstants.{MAX_CHANNELS}

-- an id, a size and a content; behind a content of odd size there is one more byte
pub record Chunk : Type 0 where
  pub id : List ℕ
  pub size : List ℕ
  pub content : List ℕ

pub record IsChunk (c : Chunk) : Type 0 where
  pub id_is_four : length c.id ≡ 4
  pub size_is_four : length c.size ≡ 4
  pub content_is_size : length c.content ≡ little_number 4 c.size

-- a chunk that is neither a format nor the data
pub record IsOther (c : Chunk) : Type 0 where
  pub chunk : IsChunk c
  pub not_data : c.id ≢ codes "data"
  pub not_format : c.id ≢ codes "fmt "

-- a chunk that is not the data
pub record IsNoData (c : Chunk) : Type 0 where
  pub chunk : IsChunk c
  pub not_data : c.id ≢ codes "data"

-- the content of a format chunk: 16 bits of PCM, by its own tag or behind the extensible one
pub record IsContentOf (content : List ℕ) (f : Format) : Type 0 where
  pub long : 16 ≤ length content
  pub tag : (little_number 2 content ≡ 1)
      ⊎ ((little_number 2 content ≡ 0xFFFE) × (40 ≤ length content) × (take 16 (drop 24 content) ≡ pcm_guid))
  pub bits : little_number 2 (drop 14 content) ≡ 16
  pub channels : little_number 2 (drop 2 content) ≡ f.channels
  pub one_channel : 1 ≤ f.channels
  pub few_channels : f.channels ≤ MAX_CHANNELS
  pub rate : little_number 4 (drop 4 content) ≡ f.rate
  pub some_rate : 1 ≤ f.rate
  pub align : little_number 2 (drop 12 content) ≡ 2 * f.channels

pub record IsFormatChunk (c : Chunk) (f : Format) : Type 0 where
  pub chunk : IsChunk c
  pub format : c.id ≡ codes "fmt "
  pub content_of : IsContentOf c.content f

-- The bytes are these chunks, and then the rest. The byte behind a last odd content may be missing if the bytes end
-- there.
abbrev pub Parts : List ℕ → List Chunk → List ℕ → Type 0
Parts bytes [] rest = bytes ≡ rest
Parts bytes (c ∷ cs) rest =
    (after : List ℕ) × (bytes ≡ c.id ++ (c.size ++ (c.content ++ after)))
    × Parts (drop (length c.content % 2) after) cs rest

-- what is known of the format behind chunks that are not the data: nothing, or what the first format chunk says
abbrev pub Behind : List Chunk → Option Format → Type 0
Behind cs None = AllByRecursion IsOther cs
Behind cs (Some f) =
    (before : List Chunk) × (format : Chunk) × (between : List Chunk) × (cs ≡ before ++ format ∷ between)
    × AllByRecursion IsOther before × IsFormatChunk format f × AllByRecursion IsNoData between

-- The bytes begin as a WAV file does, and go on with whole chunks, at most 65,536 of them. Then comes the rest.
pub record Place (bytes : List ℕ) (cs : List Chunk) (seen : Option Format) (rest : List ℕ) : Type 0 where
  pub riff_size : List ℕ
  pub body : List ℕ
  pub start : bytes ≡ codes "RIFF" ++ (riff_size ++ (codes "WAVE" ++ body))
  pub size_is_four : length riff_size ≡ 4
  pub parts : Parts body cs rest
  pub known : Behind cs seen
  pub few : length cs ≤ 65536

-- a content of the size that its chunk gives, or to the end of the bytes if the size was never filled in
abbrev pub Content : ℕ → List ℕ → List ℕ → Type 0
Content size content rest =
    ((size ≢ 0xFFFFFFFF) × (length content ≡ size))
    ⊎ ((size ≡ 0xFFFFFFFF) × (length content ≤ 4294967294) × (rest ≡ []))

-- The bytes are a WAV file of the sound, with the rest behind it.
pub record IsWav (bytes : List ℕ) (s : Sound) (rest : List ℕ) : Type 0 where
  pub chunks : List Chunk
  pub format : Format
  pub size : List ℕ
  pub content : List ℕ
  pub place : Place bytes chunks (Some format) (codes "data" ++ (size ++ (content ++ rest)))
  pub size_is_four : length size ≡ 4
  pub content_is : Content (little_number 4 size) content rest
  pub rate : s.rate ≡ format.rate
  pub channels : s.channels ≡ format.channels
  pub samples : s.samples ≡ pcm_samples content
  pub whole : length content % (2 * format.channels) ≡ 0
