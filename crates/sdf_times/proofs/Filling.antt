-- Idle columns filled from a queue.
use Rattle.std.proofs.Common.{◌≡◌, ℕ, zero, suc, ◌+◌, ◌<◌, ◌⊎◌, List, [], ◌∷◌, length, get_or, sym, ap, ◌∙◌, subst}
use Rattle.std.proofs.Common.{inl, inr, arith, refl, Option, Some, None}
use Rattle.std.specs.Prelude.{slice_get}
use Rattle.std.specs.List.{Contains}
use Rattle.std.specs.List.Sorted.{IsStrictlyIncreasing}
use Rattle.std.proofs.lemmas.List.{get_or_default}
use Rattle.std.proofs.lemmas.Option.{none-some}
use Rattle.sdf_graph.specs.Adjacency.{ListsExactly}
use Rattle.sdf_prec.specs.declared.firing.Firing.{Firing}
use Rattle.sdf_prec.specs.Tables.{cell_of}
use Rattle.sdf_prec.specs.Trying.{AreFilled}

-- of n columns those that are idle, filled
pub record HasFilled (idle : ℕ → Type 0) (n : ℕ) (queue : List Firing) : Type 0 where
  pub columns : List ℕ
  pub cells : List (Option Firing)
  pub are_idle : ListsExactly idle n columns
  pub filled : AreFilled queue columns cells
  pub wide : length cells ≡ n

-- all but the first of a queue
abbrev rest_of : List Firing → List Firing
rest_of [] = []
rest_of (f ∷ queue) = queue

get_rest : (queue : List Firing) (p : ℕ) → slice_get (rest_of queue) p ≡ slice_get queue (suc p)
get_rest [] p = refl
get_rest (f ∷ queue) p = refl

-- each number one greater
abbrev raised : List ℕ → List ℕ
raised [] = []
raised (x ∷ xs) = suc x ∷ raised xs

length_raised : (xs : List ℕ) → length (raised xs) ≡ length xs
length_raised [] = refl
length_raised (x ∷ xs) = ap suc (length_raised xs)

get_raised : (xs : List ℕ) (p : ℕ) → p < length xs → get_or (raised xs) p 0 ≡ suc (get_or xs p 0)
get_raised [] p l = absurd (omega arith)
get_raised (x ∷ xs) zero l = refl
get_raised (x ∷ xs) (suc p) l = get_raised xs p (omega arith)

contains_raised : (xs : List ℕ) (j : ℕ) → Contains xs j → Contains (raised xs) (suc j)
contains_raised xs j (k, l, e) =
    let m : k < length (raised xs) = omega (arith, length_raised xs) in (
      k,
      m,
      get_or_default (raised xs) k (suc j) 0 m
          ∙ (get_raised xs k l ∙ ap suc (get_or_default xs k 0 j l ∙ e)),
    )

none_filled : (idle : ℕ → Type 0) (queue : List Firing) → HasFilled idle 0 queue
none_filled idle queue = record {
  columns = [];
  cells = [];
  are_idle = record {
    rising = λ k h. absurd (omega arith);
    each = λ i h. absurd (omega arith);
    all = λ j h. absurd (omega arith);
  };
  filled = record { filled = λ p h. absurd (omega arith); only = λ j f e. absurd (none-some f e) };
  wide = refl;
}

-- one column before the others
module _ (idle : ℕ → Type 0) (n : ℕ) (queue : List Firing) (b : HasFilled (λ j. idle (suc j)) n queue) where
  rising : IsStrictlyIncreasing (raised b.columns)
  rising k h =
      let l : k + 1 < length b.columns = omega (arith, length_raised b.columns) in
      omega (
        arith,
        get_raised b.columns k (omega arith),
        get_raised b.columns (k + 1) l,
        b.are_idle.rising k l,
      )

  each : (i : ℕ) → i < length (raised b.columns) →
      (get_or (raised b.columns) i 0 < suc n) × idle (get_or (raised b.columns) i 0)
  each i h =
      let l : i < length b.columns = omega (arith, length_raised b.columns) in
      let at = b.are_idle.each i l in
      subst (λ j. (j < suc n) × idle j) (sym (get_raised b.columns i l)) (omega (arith, at.0), at.1)

  filled : (x : Option Firing) (p : ℕ) → p < length (raised b.columns) →
      cell_of (x ∷ b.cells) (get_or (raised b.columns) p 0) ≡ slice_get queue p
  filled x p h =
      let l : p < length b.columns = omega (arith, length_raised b.columns) in
      ap (cell_of (x ∷ b.cells)) (get_raised b.columns p l) ∙ b.filled.filled p l

  -- it is busy
  busy_filled : (idle 0 → ⊥) → HasFilled idle (suc n) queue
  busy_filled busy = record {
    columns = raised b.columns;
    cells = None ∷ b.cells;
    are_idle = record { rising = rising; each = each; all = all };
    filled = record { filled = filled None; only = only };
    wide = ap suc b.wide;
  }
    where
      all : (j : ℕ) → j < suc n → idle j → Contains (raised b.columns) j
      all zero l h = absurd (busy h)
      all (suc j) l h = contains_raised b.columns j (b.are_idle.all j (omega arith) h)

      only : (j : ℕ) (f : Firing) → cell_of (None ∷ b.cells) j ≡ Some f → Contains (raised b.columns) j
      only zero f e = absurd (none-some f e)
      only (suc j) f e = contains_raised b.columns j (b.filled.only j f e)

  -- it is idle, and gets the first of a queue whose rest the others get
  idle_filled : (whole : List Firing) → ((p : ℕ) → slice_get queue p ≡ slice_get whole (suc p)) → idle 0 →
      HasFilled idle (suc n) whole
  idle_filled whole rest here = record {
    columns = 0 ∷ raised b.columns;
    cells = slice_get whole 0 ∷ b.cells;
    are_idle = record { rising = rising_then; each = each_then; all = all };
    filled = record { filled = filled_then; only = only };
    wide = ap suc b.wide;
  }
    where
      rising_then : IsStrictlyIncreasing (0 ∷ raised b.columns)
      rising_then zero h =
          let l : 0 < length b.columns = omega (arith, length_raised b.columns) in
          let first : get_or (raised b.columns) 0 0 ≡ suc (get_or b.columns 0 0) = get_raised b.columns 0 l in
          omega (arith, first)
      rising_then (suc k) h =
          let e : suc (k + 1) ≡ suc k + 1 = omega arith in
          subst (λ m. get_or (raised b.columns) k 0 < get_or (0 ∷ raised b.columns) m 0) e (rising k (omega arith))

      each_then : (i : ℕ) → i < length (0 ∷ raised b.columns) →
          (get_or (0 ∷ raised b.columns) i 0 < suc n) × idle (get_or (0 ∷ raised b.columns) i 0)
      each_then zero h = (omega arith, here)
      each_then (suc i) h = each i (omega arith)

      later : (j : ℕ) → Contains (raised b.columns) j → Contains (0 ∷ raised b.columns) j
      later j (k, l, e) = (suc k, omega arith, e)

      all : (j : ℕ) → j < suc n → idle j → Contains (0 ∷ raised b.columns) j
      all zero l h = (0, omega arith, refl)
      all (suc j) l h = later (suc j) (contains_raised b.columns j (b.are_idle.all j (omega arith) h))

      filled_then : (p : ℕ) → p < length (0 ∷ raised b.columns) →
          cell_of (slice_get whole 0 ∷ b.cells) (get_or (0 ∷ raised b.columns) p 0) ≡ slice_get whole p
      filled_then zero h = refl
      filled_then (suc p) h = filled (slice_get whole 0) p (omega arith) ∙ rest p

      only : (j : ℕ) (f : Firing) → cell_of (slice_get whole 0 ∷ b.cells) j ≡ Some f →
          Contains (0 ∷ raised b.columns) j
      only zero f e = (0, omega arith, refl)
      only (suc j) f e = later (suc j) (contains_raised b.columns j (b.filled.only j f e))

pub has_filled : (idle : ℕ → Type 0) (n : ℕ) → ((j : ℕ) → j < n → idle j ⊎ (idle j → ⊥)) → (queue : List Firing) →
    HasFilled idle n queue
has_filled idle zero decide queue = none_filled idle queue
has_filled idle (suc n) decide queue = go (decide 0 (omega arith))
    (has_filled (λ j. idle (suc j)) n (λ j l. decide (suc j) (omega arith)))
  where
    go : idle 0 ⊎ (idle 0 → ⊥) → ((queue : List Firing) → HasFilled (λ j. idle (suc j)) n queue) →
        HasFilled idle (suc n) queue
    go (inl here) others = idle_filled idle n (rest_of queue) (others (rest_of queue)) queue (get_rest queue) here
    go (inr busy) others = busy_filled idle n queue (others queue) busy
