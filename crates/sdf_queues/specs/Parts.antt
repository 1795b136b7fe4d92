-- Parts of a list, all of one width and at equal distances.
use Rattle.std.specs.Prelude.{◌≡◌, ℕ, ◌+◌, ◌*◌, ◌≤◌, ◌<◌, ◌⊎◌, List, length, slice_range}
use Rattle.sdf_queues.specs.declared.parts.Stride.{Stride}

-- where part i begins
abbrev pub part_at : Stride → ℕ → ℕ
part_at s i = s.first + s.step * i

-- part i
abbrev pub part_of : {T : Type 0} → Stride → ℕ → List T → ℕ → List T
part_of s width xs i = slice_range xs (part_at s i) (part_at s i + width)

-- the first `many` parts are within a list
abbrev pub HoldsParts : {T : Type 0} → Stride → ℕ → ℕ → List T → Type 0
HoldsParts s width many xs = (i : ℕ) → i < many → part_at s i + width ≤ length xs

-- samples outside of these parts are unchanged
abbrev pub KeepsOthers : {T : Type 0} → Stride → ℕ → ℕ → List T → List T → Type 0
KeepsOthers s width many xs ys = (a b : ℕ) → ((i : ℕ) → i < many → (b ≤ part_at s i) ⊎ (part_at s i + width ≤ a)) →
    slice_range ys a b ≡ slice_range xs a b

-- `many` parts of one list can be copied to places in another, and these places do not overlap
pub record CanCopy {T : Type 0} (out into : Stride) (width many : ℕ) (from to : List T) : Type 0 where
  pub from_holds : HoldsParts out width many from
  pub to_holds : HoldsParts into width many to
  pub apart : width ≤ into.step

-- the parts were copied, and the rest is unchanged
pub record AreCopied {T : Type 0} (out into : Stride) (width many : ℕ) (from to to' : List T) : Type 0 where
  pub copied : (i : ℕ) → i < many → part_of into width to' i ≡ part_of out width from i
  pub others : KeepsOthers into width many to to'
