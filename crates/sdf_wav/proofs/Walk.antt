-- What stands in the grammar is read.
use Rattle.std.proofs.Common.{◌≡◌, inl, inr, ℕ, zero, suc, ◌+◌, ◌-◌, ◌*◌, ◌%◌, List, [], ◌∷◌, ◌++◌, length, drop}
use Rattle.std.proofs.Common.{Option, Some, None, Ok, refl, ap, subst, ◌∙◌, arith, length-append, append-nil}
use Rattle.std.specs.Prelude.{codes}
use Rattle.std.specs.List.{AllByRecursion}
use Rattle.std.proofs.lemmas.Bool.{le-ltb, eq-eqb, ne_eqb}
use Rattle.std.proofs.lemmas.List.{drop_at, take_at}
use Rattle.byteorder.specs.Endian.{little_number}
use Rattle.sdf_wav.specs.declared.format.Format.{Format}
use Rattle.sdf_wav.specs.declared.chunks.Step.TheVariants as steps
use Rattle.sdf_wav.specs.Sound.{Sound, pcm_samples}
use Rattle.sdf_wav.specs.Content.{content_at}
use Rattle.sdf_wav.specs.Steps.{riff_at, step_at, data_at, wav_at}
use Rattle.sdf_wav.specs.Grammar.{Chunk, IsOther, IsNoData, Parts, Behind, Content, IsWav}
use Rattle.sdf_wav.proofs.StepReads.{four_is, step_other, step_later, step_format, step_data, last_data}
use Rattle.sdf_wav.proofs.Formats.{format_reads}

pub riff_reads : (riff_size body : List ℕ) → length riff_size ≡ 4 →
    riff_at (codes "RIFF" ++ (riff_size ++ (codes "WAVE" ++ body))) ≡ Ok (tt, body)
riff_reads riff_size body s = rw (four_is riff_size s) refl

data_at_more : (k m : ℕ) (seen now : Option Format) (bytes rest : List ℕ) → k ≡ suc m →
    step_at seen bytes ≡ Ok (steps.Passed now, rest) → data_at k seen bytes ≡ data_at m now rest
unfolding data_at
data_at_more k m seen now bytes rest e h = rw (e, h) refl

pub data_at_here : (n : ℕ) (g : Format) (size after : List ℕ) → length size ≡ 4 →
    data_at n (Some g) (codes "data" ++ (size ++ after)) ≡
    Ok (record { format = g; size = little_number 4 size }, after)
unfolding data_at
data_at_here zero g size after s = last_data g size after s
data_at_here (suc n) g size after s = rw (step_data g size after s) refl

walk_others : (n k : ℕ) (cs : List Chunk) (bytes rest : List ℕ) → k ≡ length cs + n → AllByRecursion IsOther cs →
    Parts bytes cs rest → data_at k None bytes ≡ data_at n None rest
walk_others n k [] bytes rest e all parts = ap (λ (j : ℕ). data_at j None bytes) {y = n} (omega arith)
    ∙ ap (data_at n None) parts
walk_others n k (c ∷ cs) bytes rest e all parts =
    data_at_more k (length cs + n) None None bytes (drop (length c.content % 2) parts.0) (omega arith)
    (ap (step_at None) parts.1 ∙ step_other None c parts.0 all.0.chunk all.0.not_data all.0.not_format)
    ∙ walk_others n (length cs + n) cs (drop (length c.content % 2) parts.0) rest refl all.1 parts.2

walk_later : (g : Format) (n k : ℕ) (cs : List Chunk) (bytes rest : List ℕ) → k ≡ length cs + n →
    AllByRecursion IsNoData cs → Parts bytes cs rest → data_at k (Some g) bytes ≡ data_at n (Some g) rest
walk_later g n k [] bytes rest e all parts = ap (λ (j : ℕ). data_at j (Some g) bytes) {y = n} (omega arith)
    ∙ ap (data_at n (Some g)) parts
walk_later g n k (c ∷ cs) bytes rest e all parts =
    data_at_more k (length cs + n) (Some g) (Some g) bytes (drop (length c.content % 2) parts.0) (omega arith)
    (ap (step_at (Some g)) parts.1 ∙ step_later g c parts.0 all.0.chunk all.0.not_data)
    ∙ walk_later g n (length cs + n) cs (drop (length c.content % 2) parts.0) rest refl all.1 parts.2

-- the bytes between two runs of chunks
pub Parts-append : (xs ys : List Chunk) (bytes rest : List ℕ) → Parts bytes (xs ++ ys) rest →
    (mid : List ℕ) × Parts bytes xs mid × Parts mid ys rest
Parts-append [] ys bytes rest parts = (bytes, refl, parts)
Parts-append (x ∷ xs) ys bytes rest parts =
    let more = Parts-append xs ys (drop (length x.content % 2) parts.0) rest parts.2 in
    (more.0, (parts.0, parts.1, more.1), more.2)

-- behind whole chunks the reading goes on with what is known of the format
pub walk : (n k : ℕ) (cs : List Chunk) (seen : Option Format) (bytes rest : List ℕ) → k ≡ length cs + n →
    Behind cs seen → Parts bytes cs rest → data_at k None bytes ≡ data_at n seen rest
walk n k cs None bytes rest e behind parts = walk_others n k cs bytes rest e behind parts
walk n k cs (Some f) bytes rest e behind parts =
    let (before, format, between, split, others, is, later) = behind in
    let (mid, first, second) = Parts-append before (format ∷ between) bytes rest
    (subst (λ (l : List Chunk). Parts bytes l rest) split parts) in
    let count : length cs ≡ length before + suc (length between) =
    ap length split ∙ length-append before (format ∷ between) in
    let formats : step_at None mid ≡ Ok (steps.Passed (Some f), drop (length format.content % 2) second.0) =
    ap (step_at None) second.1 ∙ step_format f format second.0 is.chunk is.format
    (format_reads (little_number 4 format.size) format.content second.0 f is.chunk.content_is_size is.content_of) in
    walk_others (suc (length between + n)) k before bytes mid (omega arith) others first
    ∙ data_at_more (suc (length between + n)) (length between + n) None (Some f) mid
    (drop (length format.content % 2) second.0) refl formats
    ∙ walk_later f n (length between + n) between (drop (length format.content % 2) second.0) rest refl later second.2

content_reads : (align size : ℕ) (content rest : List ℕ) → Content size content rest → length content % align ≡ 0 →
    content_at align size (content ++ rest) ≡ Ok (pcm_samples content, rest)
unfolding content_at
content_reads align size content rest (inl known) whole =
    rw (
      ne_eqb size 4294967295 known.0,
      ← known.1,
      eq-eqb (length content % align) 0 whole,
      le-ltb (length (content ++ rest)) (length content) (omega (arith, length-append content rest)),
      take_at content rest (length content) refl,
      drop_at content rest (length content) refl,
    ) refl
content_reads align size content rest (inr filled) whole =
    rw (
      filled.0,
      filled.2,
      append-nil content,
      le-ltb 4294967294 (length content) filled.1,
      eq-eqb (length content % align) 0 whole,
    ) refl

-- what stands in the grammar is read
pub wav_reads : (bytes : List ℕ) (s : Sound) (rest : List ℕ) → IsWav bytes s rest → wav_at bytes ≡ Ok (s, rest)
unfolding wav_at
wav_reads bytes s rest w =
    let after = w.content ++ rest in
    let n = 65536 - length w.chunks in
    let start : riff_at bytes ≡ Ok (tt, w.place.body) =
    ap riff_at w.place.start ∙ riff_reads w.place.riff_size w.place.body w.place.size_is_four in
    let found : data_at 65536 None w.place.body ≡ Ok
    (record { format = w.format; size = little_number 4 w.size }, after) =
    walk n 65536 w.chunks (Some w.format) w.place.body (codes "data" ++ (w.size ++ after)) (omega (arith, w.place.few))
    w.place.known w.place.parts ∙ data_at_here n w.format w.size after w.size_is_four in
    let sound : Sound = record {
      rate = w.format.rate;
      channels = w.format.channels;
      samples = pcm_samples w.content;
    } in
    let made : sound ≡ s = rw (← w.rate, ← w.channels, ← w.samples) refl in
    rw (
      start,
      found,
      content_reads (2 * w.format.channels) (little_number 4 w.size) w.content rest w.content_is
          w.whole,
    ) (ap (λ (x : Sound). Ok (x, rest)) made)
