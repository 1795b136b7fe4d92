-- One more column is filled, or left.
use Rattle.std.proofs.Common.{◌≡◌, ℕ, ◌+◌, ◌≤◌, ◌<◌, ◌⊎◌, List, [], ◌∷◌, ◌++◌, length, get_or, sym, ap, ◌∙◌, subst, inl}
use Rattle.std.proofs.Common.{inr, arith, Option, Some, None}
use Rattle.std.specs.Prelude.{slice_get}
use Rattle.std.specs.List.{Contains}
use Rattle.std.specs.List.Sorted.{IsStrictlyIncreasing}
use Rattle.std.proofs.lemmas.List.{get_or_append_left, get_or_push, get_or_past, length_push, get_or_default}
use Rattle.std.proofs.lemmas.Option.{none-some}
use Rattle.std.proofs.lemmas.Bool.{cases_lt, cases_eq, cases_order}
use Rattle.sdf_prec.specs.declared.firing.Firing.{Firing}
use Rattle.sdf_prec.specs.Floor.{IsFilling}

pub filling_begins : (until : List ℕ) (now : ℕ) (queue : List Firing) → IsFilling until now 0 queue 0 []
filling_begins until now queue = record {
  columns = [];
  idle = record {
    rising = λ k h. absurd (omega arith);
    each = λ i h. absurd (omega arith);
    all = λ x h. absurd (omega arith);
  };
  filled = record {
    filled = λ p h. absurd (omega arith);
    only = λ j f e. absurd (none-some f e);
  };
  count = omega arith;
  wide = omega arith;
}

module _ (until : List ℕ) (now i : ℕ) (queue : List Firing) (next : ℕ) (cells : List (Option Firing))
    (s : IsFilling until now i queue next cells) (x : Option Firing) where
  early : (j : ℕ) → j < i → get_or (cells ++ x ∷ []) j None ≡ get_or cells j None
  early j l = get_or_append_left cells (x ∷ []) None j (omega (arith, s.wide))

  here : get_or (cells ++ x ∷ []) i None ≡ x
  here = get_or_push cells x None i s.wide

  late : (j : ℕ) → i < j → get_or (cells ++ x ∷ []) j None ≡ None
  late j l = get_or_past (cells ++ x ∷ []) j None (omega (arith, length_push cells x, s.wide))

  wider : length (cells ++ x ∷ []) ≡ i + 1
  wider = omega (arith, length_push cells x, s.wide)

  -- the column is busy
  pub filling_skips : now < get_or until i 0 → x ≡ None → IsFilling until now (i + 1) queue next (cells ++ x ∷ [])
  filling_skips busy none = record {
    columns = s.columns;
    idle = record {
      rising = s.idle.rising;
      each = λ k h. let e = s.idle.each k h in (omega (arith, e.0), e.1);
      all = λ j l h. all j l h (cases_eq j i);
    };
    filled = record {
      filled = λ p h. early (get_or s.columns p 0) (s.idle.each p h).0 ∙ s.filled.filled p h;
      only = λ j f e. only j f e (cases_order j i);
    };
    count = s.count;
    wide = wider;
  }
    where
      all : (j : ℕ) → j < i + 1 → get_or until j 0 ≤ now → (j ≡ i) ⊎ (j ≡ i → ⊥) → Contains s.columns j
      all j l h (inl e) = let same = ap (λ j. get_or until j 0) e in absurd (omega arith)
      all j l h (inr ne) = s.idle.all j (omega arith) h

      only : (j : ℕ) (f : Firing) → get_or (cells ++ x ∷ []) j None ≡ Some f → (j ≡ i) ⊎ ((j < i) ⊎ (i < j)) →
          Contains s.columns j
      only j f e (inl same) = absurd (none-some f (sym none
          ∙ (sym here ∙ (ap (λ j. get_or (cells ++ x ∷ []) j None) (sym same) ∙ e))))
      only j f e (inr (inl l)) = s.filled.only j f (sym (early j l) ∙ e)
      only j f e (inr (inr l)) = absurd (none-some f (sym (late j l) ∙ e))

  -- it gets the next firing, where there is one
  pub filling_takes : get_or until i 0 ≤ now → x ≡ slice_get queue next →
      IsFilling until now (i + 1) queue (next + 1) (cells ++ x ∷ [])
  filling_takes free is = record {
    columns = s.columns ++ i ∷ [];
    idle = record {
      rising = rising;
      each = λ k h. each k (cases_lt k (length s.columns)) (let n = length_push s.columns i in omega arith);
      all = λ j l h. all j l h (cases_eq j i);
    };
    filled = record {
      filled = λ p h. filled p (cases_lt p (length s.columns)) (let n = length_push s.columns i in omega arith);
      only = λ j f e. only j f e (cases_order j i);
    };
    count = omega (arith, length_push s.columns i, s.count);
    wide = wider;
  }
    where
      old : (k : ℕ) → k < length s.columns → get_or (s.columns ++ i ∷ []) k 0 ≡ get_or s.columns k 0
      old k l = get_or_append_left s.columns (i ∷ []) 0 k l

      new : (k : ℕ) → length s.columns ≡ k → get_or (s.columns ++ i ∷ []) k 0 ≡ i
      new k e = get_or_push s.columns i 0 k e

      rising : IsStrictlyIncreasing (s.columns ++ i ∷ [])
      rising k h = go (cases_lt (k + 1) (length s.columns))
        where
          within : k < length s.columns
          within = omega (arith, length_push s.columns i)

          go : (k + 1 < length s.columns) ⊎ (length s.columns ≤ k + 1) →
              get_or (s.columns ++ i ∷ []) k 0 < get_or (s.columns ++ i ∷ []) (k + 1) 0
          go (inl l) = omega (arith, old k within, old (k + 1) l, s.idle.rising k l)
          go (inr l) = omega (arith, old k within, new (k + 1) (omega (arith, within)), (s.idle.each k within).0)

      each : (k : ℕ) → (k < length s.columns) ⊎ (length s.columns ≤ k) → k < length s.columns + 1 →
          (get_or (s.columns ++ i ∷ []) k 0 < i + 1) × (get_or until (get_or (s.columns ++ i ∷ []) k 0) 0 ≤ now)
      each k (inl l) h = let e = s.idle.each k l in
          subst (λ c. (c < i + 1) × (get_or until c 0 ≤ now)) (sym (old k l)) (omega (arith, e.0), e.1)
      each k (inr l) h = subst (λ c. (c < i + 1) × (get_or until c 0 ≤ now)) (sym (new k (omega arith)))
          (omega arith, free)

      stands : (j k : ℕ) → k < length s.columns + 1 → get_or (s.columns ++ i ∷ []) k 0 ≡ j →
          Contains (s.columns ++ i ∷ []) j
      stands j k l e = let m : k < length (s.columns ++ i ∷ []) = omega (arith, length_push s.columns i) in
          (k, m, get_or_default (s.columns ++ i ∷ []) k j 0 m ∙ e)

      kept : (j : ℕ) → Contains s.columns j → Contains (s.columns ++ i ∷ []) j
      kept j (k, l, e) = stands j k (omega arith) (old k l ∙ (get_or_default s.columns k 0 j l ∙ e))

      all : (j : ℕ) → j < i + 1 → get_or until j 0 ≤ now → (j ≡ i) ⊎ (j ≡ i → ⊥) → Contains (s.columns ++ i ∷ []) j
      all j l h (inl e) = stands j (length s.columns) (omega arith) (new (length s.columns) (omega arith) ∙ sym e)
      all j l h (inr ne) = kept j (s.idle.all j (omega arith) h)

      filled : (p : ℕ) → (p < length s.columns) ⊎ (length s.columns ≤ p) → p < length s.columns + 1 →
          get_or (cells ++ x ∷ []) (get_or (s.columns ++ i ∷ []) p 0) None ≡ slice_get queue p
      filled p (inl l) h = ap (λ c. get_or (cells ++ x ∷ []) c None) (old p l)
          ∙ (early (get_or s.columns p 0) (s.idle.each p l).0 ∙ s.filled.filled p l)
      filled p (inr l) h =
          let same : next ≡ p = omega (arith, s.count) in
          ap (λ c. get_or (cells ++ x ∷ []) c None) (new p (omega arith)) ∙ (here ∙ (is ∙ ap (slice_get queue) same))

      only : (j : ℕ) (f : Firing) → get_or (cells ++ x ∷ []) j None ≡ Some f → (j ≡ i) ⊎ ((j < i) ⊎ (i < j)) →
          Contains (s.columns ++ i ∷ []) j
      only j f e (inl same) = stands j (length s.columns) (omega arith)
          (new (length s.columns) (omega arith) ∙ sym same)
      only j f e (inr (inl l)) = kept j (s.filled.only j f (sym (early j l) ∙ e))
      only j f e (inr (inr l)) = absurd (none-some f (sym (late j l) ∙ e))
