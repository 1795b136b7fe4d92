-- The taps of a phase, and their sum.
use Rattle.std.specs.Prelude.{◌≡◌, ℕ, zero, suc, ◌+◌, ◌-◌, ◌*◌, ◌/◌, ◌%◌, ◌<◌, ◌≤◌, ◌==◌, if◌then◌else◌, cond}
use Rattle.std.specs.Prelude.{Bool, true}
use Rattle.std.specs.Prelude.{false, nat_lt, ℤ, pos, negsuc, ◌+ℤ◌}
use Rattle.std.specs.Prelude.{◌-ℤ◌, FitsSigned, List, length, slice_index_or}
use Rattle.std.specs.Int.{w16}
use Rattle.sdf_filters.specs.declared.order.TapMove.{TapMove}

-- tap n, counted from 0; 0 past the end
abbrev pub tap : List ℤ → ℕ → ℤ
tap h n = slice_index_or h n (pos 0)

-- a tap x if its place n is one of the phase, otherwise 0
abbrev pub in_phase : ℕ → ℕ → ℕ → ℤ → ℤ
in_phase up phase n x = cond (n % up == phase) x (pos 0)

-- the sum of the taps of a phase before place n
unfoldable pub sum_before : List ℤ → ℕ → ℕ → ℕ → ℤ
sum_before h up phase zero = pos 0
sum_before h up phase (suc n) = sum_before h up phase n +ℤ in_phase up phase n (tap h n)

-- the sum of the taps of a phase, which are at the places n with n % up = phase
abbrev pub phase_sum : List ℤ → ℕ → ℕ → ℤ
phase_sum h up phase = sum_before h up phase (length h)

-- n steps up, or down
abbrev pub steps : Bool → ℕ → ℤ
steps true n = pos n
steps false n = pos 0 -ℤ pos n

-- each tap is the one at the same distance on the other side of the middle
abbrev pub IsSymmetric : List ℤ → Type 0
IsSymmetric h = (n : ℕ) → n < length h → tap h (length h - 1 - n) ≡ tap h n

-- a number is twice another
abbrev pub IsEven : ℤ → Type 0
IsEven z = (half : ℤ) × (z ≡ half +ℤ half)

-- the sum of a phase has changed by `times` steps, and no other sum has
pub record IsSumMoved (up phase : ℕ) (rise : Bool) (times : ℕ) (old new : List ℤ) : Type 0 where
  pub sum : phase_sum new up phase ≡ phase_sum old up phase +ℤ steps rise times
  pub others : (q : ℕ) → (q ≡ phase → ⊥) → phase_sum new up q ≡ phase_sum old up q

-- the change of a phase's sum when a tap and its mirror image move by one step
unfoldable pub weight : ℕ → ℕ → ℕ
weight up phase = if 2 * phase + 1 == up then 2 else 1

-- the sum of a phase has changed by `times` steps, and no other sum except its mirror image's; taps stay symmetric
pub record AreMoved (up phase : ℕ) (rise : Bool) (times : ℕ) (old new : List ℤ) : Type 0 where
  pub all : length new ≡ length old
  pub sum : phase_sum new up phase ≡ phase_sum old up phase +ℤ steps rise times
  pub others : (q : ℕ) → (q ≡ phase → ⊥) → (q + phase + 1 ≡ up → ⊥) → phase_sum new up q ≡ phase_sum old up q
  pub symmetric : IsSymmetric old → IsSymmetric new

-- taps of the phase of `way` have moved by `times` steps, each with its mirror image
abbrev pub AreMovedBy : TapMove → ℕ → List ℤ → List ℤ → Type 0
AreMovedBy way times old new = AreMoved way.up way.phase way.rise (weight way.up way.phase * times) old new

-- `count` taps are whole phases, and the turns of `way` are some taps of its phase; none is another's mirror image
pub record AreTurns (way : TapMove) (count : ℕ) : Type 0 where
  pub phase : way.phase < way.up
  pub whole : count % way.up ≡ 0
  pub turns : way.turns ≤ count / way.up
  pub apart : 2 * way.phase + 1 ≡ way.up → 2 * way.turns ≤ count / way.up

-- z is one of -32768 .. 32767
abbrev pub has_16_bits : ℤ → Bool
has_16_bits (pos n) = nat_lt n 32768
has_16_bits (negsuc n) = nat_lt n 32768

-- each tap has 16 bits
abbrev pub Have16Bits : List ℤ → Type 0
Have16Bits h = (n : ℕ) → n < length h → FitsSigned w16 (tap h n)
