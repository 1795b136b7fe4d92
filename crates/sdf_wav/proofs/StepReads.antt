-- What one step of the reading does at a chunk.
use Rattle.std.proofs.Common.{◌≡◌, ◌≢◌, ◌⊎◌, inl, inr, ℕ, ◌+◌, ◌%◌, Bool, true, false, ltb, List, [], ◌∷◌, ◌++◌, length}
use Rattle.std.proofs.Common.{get_or, drop, Option, Some, None, Ok, refl, sym, ap, ◌∙◌, arith, length-append}
use Rattle.std.specs.Prelude.{codes}
use Rattle.std.specs.Str.{bytes_eq}
use Rattle.std.proofs.lemmas.Slice.Eq.{bytes_eq-Decides}
use Rattle.std.proofs.lemmas.Bool.{le-ltb, false≢true}
use Rattle.std.proofs.lemmas.List.{drop-drop, drop_at}
use Rattle.byteorder.specs.Endian.{little_number}
use Rattle.sdf_wav.specs.declared.parts.ChunkKind.TheVariants as kinds
use Rattle.sdf_wav.specs.declared.format.Format.{Format}
use Rattle.sdf_wav.specs.declared.chunks.Step.TheVariants as steps
use Rattle.sdf_wav.specs.Parts.{kind_of}
use Rattle.sdf_wav.specs.Steps.{header_at, skipped_at, format_at, is_some, step_at, last_at}
use Rattle.sdf_wav.specs.Grammar.{Chunk, IsChunk}

-- ---- ids

pub kind_is_data : kind_of (codes "data") ≡ kinds.Data
kind_is_data = refl

pub kind_is_format : kind_of (codes "fmt ") ≡ kinds.Format
kind_is_format = refl

elim_test : (b : Bool) → (b ≡ true → ⊥) → b ≡ false
elim_test true h = absurd (h refl)
elim_test false h = refl

pub not_equal : (id text : List ℕ) → id ≢ text → bytes_eq id text ≡ false
not_equal id text ne = elim_test (bytes_eq id text) (λ e. ne ((bytes_eq-Decides id text).0 e))

by_test : (b : Bool) {P : Type 0} → (b ≡ true → P) → (P → b ≡ true) → P ⊎ (P → ⊥)
by_test true holds tests = inl (holds refl)
by_test false holds tests = inr (λ p. absurd (false≢true (tests p)))

pub id_cases : (id text : List ℕ) → (id ≡ text) ⊎ (id ≢ text)
id_cases id text = by_test (bytes_eq id text) (bytes_eq-Decides id text).0 (bytes_eq-Decides id text).1

pub kind_is_other : (id : List ℕ) → id ≢ codes "data" → id ≢ codes "fmt " → kind_of id ≡ kinds.Other
kind_is_other id d f = rw (not_equal id (codes "data") d, not_equal id (codes "fmt ") f) refl

-- ---- headers

pub four_is : (xs : List ℕ) → length xs ≡ 4 → xs ≡ get_or xs 0 0 ∷ get_or xs 1 0 ∷ get_or xs 2 0 ∷ get_or xs 3 0 ∷ []
four_is [] h = absurd (omega arith)
four_is (a ∷ []) h = absurd (omega arith)
four_is (a ∷ b ∷ []) h = absurd (omega arith)
four_is (a ∷ b ∷ c ∷ []) h = absurd (omega arith)
four_is (a ∷ b ∷ c ∷ d ∷ []) h = refl
four_is (a ∷ b ∷ c ∷ d ∷ e ∷ xs) h = absurd (omega arith)

pub header_reads : (has_format : Bool) (id size after : List ℕ) → length id ≡ 4 → length size ≡ 4
    → header_at has_format (id ++ (size ++ after)) ≡
    Ok (record { kind = kind_of id; size = little_number 4 size }, after)
header_reads has_format id size after i s = rw (four_is id i, four_is size s) refl

-- ---- contents

pub skips : (size : ℕ) (content after : List ℕ) → length content ≡ size →
    skipped_at size (content ++ after) ≡ Ok (tt, drop (size % 2) after)
skips size content after e =
    let long : ltb (length (content ++ after)) size ≡ false = le-ltb _ _ (omega (arith, length-append content after)) in
    let rest : drop (size + size % 2) (content ++ after) ≡ drop (size % 2) after =
    sym (drop-drop (size % 2) size (content ++ after)) ∙ ap (drop (size % 2)) (drop_at content after size e) in
    rw (long, rest) refl

pub step_other : (seen : Option Format) (c : Chunk) (after : List ℕ) → IsChunk c → c.id ≢ codes "data" →
    c.id ≢ codes "fmt "
    → step_at seen (c.id ++ (c.size ++ (c.content ++ after))) ≡
    Ok (steps.Passed seen, drop (length c.content % 2) after)
unfolding step_at
step_other seen c after is d f =
    rw (
      header_reads (is_some seen) c.id c.size (c.content ++ after) is.id_is_four is.size_is_four,
      kind_is_other c.id d f,
      skips (little_number 4 c.size) c.content after is.content_is_size,
      is.content_is_size,
    ) refl

pub step_later : (g : Format) (c : Chunk) (after : List ℕ) → IsChunk c → c.id ≢ codes "data"
    → step_at (Some g) (c.id ++ (c.size ++ (c.content ++ after))) ≡
    Ok (steps.Passed (Some g), drop (length c.content % 2) after)
unfolding step_at
step_later g c after is d =
    elim (id_cases c.id (codes "fmt ")) [
      | inl e ↦ rw (
        header_reads true c.id c.size (c.content ++ after) is.id_is_four is.size_is_four,
        e,
        skips (little_number 4 c.size) c.content after is.content_is_size,
        is.content_is_size,
      ) refl
      | inr f ↦ step_other (Some g) c after is d f
    ]

pub step_format : (f : Format) (c : Chunk) (after : List ℕ) → IsChunk c → c.id ≡ codes "fmt " →
    format_at (little_number 4 c.size) (c.content ++ after) ≡ Ok (f, drop (little_number 4 c.size % 2) after)
    → step_at None (c.id ++ (c.size ++ (c.content ++ after))) ≡
    Ok (steps.Passed (Some f), drop (length c.content % 2) after)
unfolding step_at
step_format f c after is e h =
    rw (
      header_reads false c.id c.size (c.content ++ after) is.id_is_four is.size_is_four,
      e,
      h,
      is.content_is_size,
    ) refl

pub step_data : (g : Format) (size after : List ℕ) → length size ≡ 4
    → step_at (Some g) (codes "data" ++ (size ++ after)) ≡
    Ok (steps.Data (record { format = g; size = little_number 4 size }), after)
unfolding step_at
step_data g size after s = rw (header_reads true (codes "data") size after refl s) refl

pub last_data : (g : Format) (size after : List ℕ) → length size ≡ 4
    → last_at (Some g) (codes "data" ++ (size ++ after)) ≡
    Ok (record { format = g; size = little_number 4 size }, after)
unfolding last_at
last_data g size after s = rw (header_reads true (codes "data") size after refl s) refl
