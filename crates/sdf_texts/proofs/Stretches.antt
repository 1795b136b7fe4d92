-- Longest stretches, from their first firing on.
use Rattle.std.proofs.Common.{◌≡◌, ◌∙◌, ◌+◌, ◌≤◌, ◌<◌, ℕ, zero, suc, Bool, true, false, List, [], ◌∷◌, ◌-◌, drop}
use Rattle.std.proofs.Common.{length, get_or, refl, sym, ap, arith}
use Rattle.std.specs.Prelude.{◌==◌, if◌then◌else◌, T}
use Rattle.std.proofs.Math.Dec.{eqb_refl}
use Rattle.std.proofs.lemmas.Bool.{eqb-true}
use Rattle.std.proofs.lemmas.List.{drop_more, drop_all}
use Rattle.sdf_texts.specs.Schedules.{Stretch, with_firing, stretches}

same : (a : ℕ) → (a == a) ≡ true
same a = is_true (a == a) (eqb_refl a)
  where
    is_true : (b : Bool) → T b → b ≡ true
    is_true true h = refl
    is_true false h = absurd h

is_false : (b : Bool) → (b ≡ true → ⊥) → b ≡ false
is_false true h = absurd (h refl)
is_false false h = refl

differs : (a b : ℕ) → (a ≡ b → ⊥) → (a == b) ≡ false
differs a b h = is_false (a == b) (λ e. h (eqb-true a b e))

-- n more firings of actor a before stretches
abbrev pub grown : ℕ → ℕ → List Stretch → List Stretch
grown zero a ss = ss
grown (suc n) a ss = grown n a (with_firing a ss)

abbrev pub stretch : ℕ → ℕ → Stretch
stretch a n = record { actor = a; firings = n }

grown_on : (n k a : ℕ) (ss : List Stretch) → grown n a (stretch a k ∷ ss) ≡ stretch a (k + n) ∷ ss
grown_on zero k a ss = let on : k + 0 ≡ k = omega arith in ap (λ m. stretch a m ∷ ss) (sym on)
grown_on (suc n) k a ss =
    let on : (k + 1) + n ≡ k + suc n = omega arith in
    rw (same a) (grown_on n (k + 1) a ss ∙ ap (λ m. stretch a m ∷ ss) on)

-- stretches that do not begin with actor a
abbrev pub BeginOther : ℕ → List Stretch → Type 0
BeginOther a [] = Unit {0}
BeginOther a (s ∷ ss) = (a == s.actor) ≡ false

first_other : (a : ℕ) (ss : List Stretch) → BeginOther a ss → with_firing a ss ≡ stretch a 1 ∷ ss
first_other a [] other = refl
first_other a (s ∷ ss) other = rw other refl

pub grown_other : (n a : ℕ) (ss : List Stretch) → BeginOther a ss → grown (suc n) a ss ≡ stretch a (suc n) ∷ ss
grown_other n a ss other =
    let on : 1 + n ≡ suc n = omega arith in
    ap (grown n a) (first_other a ss other) ∙ (grown_on n 1 a ss ∙ ap (λ m. stretch a m ∷ ss) on)

stretched_begins : (a b : ℕ) (ss : List Stretch) → (a == b) ≡ false → BeginOther a (with_firing b ss)
stretched_begins a b [] differ = differ
stretched_begins a b (s ∷ ss) differ = stretched_by (b == s.actor)
  where
    stretched_by : (c : Bool) → BeginOther a (if c then stretch b (s.firings + 1) ∷ ss else stretch b 1 ∷ s ∷ ss)
    stretched_by true = differ
    stretched_by false = differ

pub begins_with : (order : List ℕ) (past : ℕ) → past < length order →
    stretches (drop past order) ≡ with_firing (get_or order past 0) (stretches (drop (past + 1) order))
begins_with order past within = ap stretches (drop_more order past 0 within)

-- a stretch of actor a goes on
pub goes_on : (order : List ℕ) (at past a : ℕ) → at < past → past < length order → a ≡ get_or order past 0
    → stretches (drop at order) ≡ grown (past - at) a (stretches (drop past order)) →
    stretches (drop at order) ≡ grown (past + 1 - at) a (stretches (drop (past + 1) order))
goes_on order at past a after within is so_far =
    let on : suc (past - at) ≡ past + 1 - at = omega arith in
    let rest = stretches (drop (past + 1) order) in
    so_far ∙ (ap (grown (past - at) a) (begins_with order past within ∙ ap (λ x. with_firing x rest) (sym is))
    ∙ ap (λ n. grown n a rest) on)

ended : (order : List ℕ) (at past a : ℕ) → at < past → BeginOther a (stretches (drop past order))
    → stretches (drop at order) ≡ grown (past - at) a (stretches (drop past order)) →
    stretches (drop at order) ≡ stretch a (past - at) ∷ stretches (drop (at + (past - at)) order)
ended order at past a after other so_far =
    let n : past - at ≡ suc (past - at - 1) = omega arith in
    let on : past ≡ at + (past - at) = omega arith in
    so_far ∙ (ap (λ m. grown m a (stretches (drop past order))) n
    ∙ (grown_other (past - at - 1) a (stretches (drop past order)) other
    ∙ (ap (λ m. stretch a m ∷ stretches (drop past order)) (sym n)
    ∙ ap (λ m. stretch a (past - at) ∷ stretches (drop m order)) on)))

-- it ends where another actor fires, and where the order does
pub ends_before : (order : List ℕ) (at past a : ℕ) → at < past → past < length order → (a ≡ get_or order past 0 → ⊥)
    → stretches (drop at order) ≡ grown (past - at) a (stretches (drop past order)) →
    stretches (drop at order) ≡ stretch a (past - at) ∷ stretches (drop (at + (past - at)) order)
ends_before order at past a after within other so_far =
    let differ : (a == get_or order past 0) ≡ false = differs a (get_or order past 0) other in
    ended order at past a after (rw (begins_with order past within)
    (stretched_begins a (get_or order past 0) (stretches (drop (past + 1) order)) differ)) so_far

pub ends_last : (order : List ℕ) (at past a : ℕ) → at < past → length order ≤ past
    → stretches (drop at order) ≡ grown (past - at) a (stretches (drop past order)) →
    stretches (drop at order) ≡ stretch a (past - at) ∷ stretches (drop (at + (past - at)) order)
ends_last order at past a after all so_far = ended order at past a after (rw (drop_all past order all) tt) so_far
