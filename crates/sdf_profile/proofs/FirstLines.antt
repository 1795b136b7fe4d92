-- The lines of a text, one after another.
use Rattle.std.proofs.Common.{◌≡◌, ◌⊎◌, ℕ, ◌+◌, ◌<◌, ◌≤◌, ◌==◌, List, [], ◌∷◌, length, take}
use Rattle.std.proofs.Common.{drop, refl, inl, inr, arith, Ok, Err, sym, ◌∙◌}
use Rattle.std.proofs.lemmas.Bool.{cases_Bool}
use Rattle.sdf_profile.specs.declared.unwritten.Unwritten.{Unwritten}
use Rattle.sdf_profile.specs.declared.unwritten.Unwritten.TheVariants.{OutOfMemory}
use Rattle.sdf_profile.specs.Places.{lines, line_length, FoundValue, line_found, found_in, none, places_of}

pub line_within : (s : List ℕ) → line_length s ≤ length s
line_within [] = omega arith
line_within (b ∷ bs) = elim (cases_Bool (b == 10)) [
  | inl is ↦ rw is (omega arith)
  | inr other ↦ rw other (omega (arith, line_within bs))
]

pub line_some : (s : List ℕ) → 0 < length s → 0 < line_length s
line_some [] some = some
line_some (b ∷ bs) some = elim (cases_Bool (b == 10)) [
  | inl is ↦ rw is (omega arith)
  | inr other ↦ rw other (omega arith)
]

-- a text that is not empty is its first line, and the lines behind it
pub lines_first : (s : List ℕ) → 0 < length s → lines s ≡ take (line_length s) s ∷ lines (drop (line_length s) s)
lines_first [] some = let none : ⊥ = omega (arith, some) in absurd none
lines_first (b ∷ []) some = elim (cases_Bool (b == 10)) [
  | inl is ↦ rw is refl
  | inr other ↦ rw other refl
]
lines_first (b ∷ c ∷ bs) some = elim (cases_Bool (b == 10)) [
  | inl is ↦ rw is refl
  | inr other ↦ rw (other, lines_first (c ∷ bs) (omega arith)) refl
]

found_fault : (graph : List ℕ) (fault : Unwritten) → found_in 0 (lines graph) none ≡ Err fault →
    places_of graph ≡ Err fault
unfolding places_of
found_fault graph fault is = rw is refl

-- behind the first line of a text
pub line_turn : (start n : ℕ) (s line rest : List ℕ) (f g : FoundValue) → n ≡ line_length s → line ≡ take n s →
    rest ≡ drop n s → 0 < length s → line_found start line f ≡ Ok g →
    found_in (start + length line) (lines rest) g ≡ found_in start (lines s) f
line_turn start n s line rest f g n_is line_is rest_is some found =
    let first : lines s ≡ line ∷ lines rest = rw (line_is, rest_is, n_is) (lines_first s some) in
    rw (first, found) refl

-- the first line has a fault
pub line_fault : (start n : ℕ) (s line : List ℕ) (f : FoundValue) (fault : Unwritten) (graph : List ℕ) →
    n ≡ line_length s → line ≡ take n s → 0 < length s →
    found_in start (lines s) f ≡ found_in 0 (lines graph) none →
    (fault ≡ OutOfMemory) ⊎ (line_found start line f ≡ Err fault) →
    (fault ≡ OutOfMemory) ⊎ (places_of graph ≡ Err fault)
line_fault start n s line f fault graph n_is line_is some same (inl memory) = inl memory
line_fault start n s line f fault graph n_is line_is some same (inr found) = inr (found_fault graph fault
    (let first : lines s ≡ line ∷ lines (drop n s) = rw (line_is, n_is) (lines_first s some) in
    sym same ∙ rw (first, found) refl))
