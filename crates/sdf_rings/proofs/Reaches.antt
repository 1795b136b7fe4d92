-- A run can reach the end of as many firings as the capacities allow.
use Rattle.std.proofs.Common.{◌≡◌, ℕ, zero, suc, ◌+◌, ◌-◌, ◌≤◌, ◌<◌, List, [], ◌∷◌, length, cond, eqb, refl, subst, inl}
use Rattle.std.proofs.Common.{inr}
use Rattle.std.proofs.Common.{◌⊎◌, arith}
use Rattle.std.proofs.lemmas.Bool.{cases_eq, eq-eqb, ne_eqb, cond-true, cond-false}
use Rattle.sdf_actor.specs.Histories.{Wiring, Answers}
use Rattle.sdf_rings.specs.Machine.{Machine, Event, Take, Put, happens, IsAllowed, IsRun, after}
use Rattle.sdf_rings.specs.MachineLaws.{blocks_left}

-- how many blocks have still to move at channel c
abbrev left_at : {A : Type 0} → Wiring A → (ℕ → ℕ) → Machine A → ℕ → ℕ
left_at f k s c = k (f.rates.target c) - s.took c + (k (f.rates.source c) - s.gave c)

-- one block less is left of all where one less is left at channel c, and as many at each other
one_less : {A : Type 0} (f : Wiring A) (k : ℕ → ℕ) (s t : Machine A) (c : ℕ) → left_at f k t c + 1 ≡ left_at f k s c →
    ((d : ℕ) → (c ≡ d → ⊥) → left_at f k t d ≡ left_at f k s d) → (m : ℕ) →
    (c < m → blocks_left f k t m + 1 ≡ blocks_left f k s m) × (m ≤ c → blocks_left f k t m ≡ blocks_left f k s m)
one_less f k s t c here others zero = (λ h. absurd (omega arith), λ h. refl)
one_less f k s t c here others (suc d) = go (one_less f k s t c here others d) (cases_eq c d)
  where
    go : (c < d → blocks_left f k t d + 1 ≡ blocks_left f k s d) × (d ≤ c → blocks_left f k t d ≡ blocks_left f k s d) →
        (c ≡ d) ⊎ (c ≡ d → ⊥) → (c < suc d → blocks_left f k t (suc d) + 1 ≡ blocks_left f k s (suc d))
        × (suc d ≤ c → blocks_left f k t (suc d) ≡ blocks_left f k s (suc d))
    go ih (inl e) =
        let at = subst (λ i. left_at f k t i + 1 ≡ left_at f k s i) e here in
        let same : blocks_left f k t d ≡ blocks_left f k s d = ih.1 (omega arith) in
        (λ h. omega arith, λ h. absurd (omega arith))
    go ih (inr ne) =
        let at = others d ne in
        (λ h. let below : c < d = omega arith in omega (arith, ih.0 below), λ h. omega (arith, ih.1 (omega arith)))

one_more : (count : ℕ → ℕ) (c : ℕ) → cond (eqb c c) (count c + 1) (count c) ≡ count c + 1
one_more count c = cond-true (eqb c c) (count c + 1) (count c) (eq-eqb c c refl)

as_many : (count : ℕ → ℕ) (c d : ℕ) → (c ≡ d → ⊥) → cond (eqb c d) (count d + 1) (count d) ≡ count d
as_many count c d ne = cond-false (eqb c d) (count d + 1) (count d) (ne_eqb c d ne)

less : {A : Type 0} (f : Wiring A) (x : Answers A) (k cap : ℕ → ℕ) (s : Machine A) (e : Event) → IsAllowed f k cap s e →
    blocks_left f k (happens f x s e) f.rates.channels + 1 ≡ blocks_left f k s f.rates.channels
less f x k cap s (Take c) h = (one_less f k s (happens f x s (Take c)) c (omega (arith, one_more s.took c, h.left))
    (λ d ne. omega (arith, as_many s.took c d ne)) f.rates.channels).0 h.known
less f x k cap s (Put c) h = (one_less f k s (happens f x s (Put c)) c (omega (arith, one_more s.gave c, h.left))
    (λ d ne. omega (arith, as_many s.gave c d ne)) f.rates.channels).0 h.known

pub run_moves : {A : Type 0} (f : Wiring A) (x : Answers A) (k cap : ℕ → ℕ) (s : Machine A) (es : List Event) →
    IsRun f x k cap s es →
    length es + blocks_left f k (after f x s es) f.rates.channels ≡ blocks_left f k s f.rates.channels
run_moves f x k cap s [] run = omega arith
run_moves f x k cap s (e ∷ es) run = omega (
  arith,
  less f x k cap s e run.0,
  run_moves f x k cap (happens f x s e) es run.1,
)

-- all blocks of k firings have moved
abbrev pub IsDone : {A : Type 0} → Wiring A → (ℕ → ℕ) → Machine A → Type 0
IsDone f k s = (c : ℕ) → c < f.rates.channels → (k (f.rates.target c) ≤ s.took c) × (k (f.rates.source c) ≤ s.gave c)

-- where each state that is not the end allows an event, a run leads to the end
module _ {A : Type 0} (f : Wiring A) (x : Answers A) (k cap : ℕ → ℕ)
    (goes : (s : Machine A) → IsDone f k s ⊎ ((e : Event) × IsAllowed f k cap s e)) where
  pub runs_to_end : (m : ℕ) (s : Machine A) → blocks_left f k s f.rates.channels ≤ m →
      (es : List Event) × IsRun f x k cap s es × IsDone f k (after f x s es)
  runs_to_end zero s h = go (goes s)
    where
      go : IsDone f k s ⊎ ((e : Event) × IsAllowed f k cap s e) →
          (es : List Event) × IsRun f x k cap s es × IsDone f k (after f x s es)
      go (inl done) = ([], tt, done)
      go (inr (e, on)) = absurd (omega (arith, less f x k cap s e on))
  runs_to_end (suc m) s h = go (goes s) (runs_to_end m)
    where
      go : IsDone f k s ⊎ ((e : Event) × IsAllowed f k cap s e) →
          ((t : Machine A) → blocks_left f k t f.rates.channels ≤ m →
          (es : List Event) × IsRun f x k cap t es × IsDone f k (after f x t es)) →
          (es : List Event) × IsRun f x k cap s es × IsDone f k (after f x s es)
      go (inl done) ih = ([], tt, done)
      go (inr (e, on)) ih =
          let rest = ih (happens f x s e) (omega (arith, less f x k cap s e on)) in
          (e ∷ rest.0, (on, rest.1), rest.2)
