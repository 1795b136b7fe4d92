-- What may be taken as decided, where a contradiction is all that is wanted.
use Rattle.std.proofs.Common.{◌≡◌, ℕ, zero, suc, ◌<◌, ◌⊎◌, List, [], ◌∷◌, length, sym, subst, inl}
use Rattle.std.proofs.Common.{inr, arith, refl}
use Rattle.std.proofs.lemmas.Bool.{cases_eq}
use Rattle.sdf_prec.specs.declared.firing.Firing.{Firing}
use Rattle.sdf_prec.specs.Tables.{firing, Stands}
use Rattle.sdf_prec.specs.Trying.{IsTriedBefore}

decided : (P : Type 0) → (P ⊎ (P → ⊥) → ⊥) → ⊥
decided P h = h (inr (λ p. h (inl p)))

-- a property, of each number below n
pub decided_below : (P : ℕ → Type 0) (n : ℕ) → (((k : ℕ) → k < n → P k ⊎ (P k → ⊥)) → ⊥) → ⊥
decided_below P zero h = h (λ k l. absurd (omega arith))
decided_below P (suc n) h = decided_below P n (λ below. decided (P n) (λ last. h
    (λ k l. one below last k l (cases_eq k n))))
  where
    one : ((k : ℕ) → k < n → P k ⊎ (P k → ⊥)) → P n ⊎ (P n → ⊥) → (k : ℕ) → k < suc n →
        (k ≡ n) ⊎ (k ≡ n → ⊥) → P k ⊎ (P k → ⊥)
    one below last k l (inl e) = subst (λ k. P k ⊎ (P k → ⊥)) (sym e) last
    one below last k l (inr ne) = below k (omega arith)

module _ (level : Firing → ℕ) (P : Firing → Type 0) where
  -- the firings of a queue that have the property, in its order
  pub record ArePicked (queue picked : List Firing) : Type 0 where
    pub each : (p : ℕ) → p < length picked → P (firing picked p)
    pub known : (p : ℕ) → p < length picked → Stands queue (firing picked p)
    pub all : (f : Firing) → Stands queue f → P f → Stands picked f
    pub sorted : (p m : ℕ) → p < m → m < length picked → IsTriedBefore level (firing picked p) (firing picked m)

  later : (f g : Firing) (fs : List Firing) → Stands fs g → Stands (f ∷ fs) g
  later f g fs (p, l, e) = (suc p, omega arith, e)

  either : (f g : Firing) (fs : List Firing) → Stands (f ∷ fs) g → (f ≡ g) ⊎ Stands fs g
  either f g fs (zero, l, e) = inl e
  either f g fs (suc p, l, e) = inr (p, omega arith, e)

  pub picked : (queue : List Firing) →
      ((p : ℕ) → p < length queue → P (firing queue p) ⊎ (P (firing queue p) → ⊥)) →
      ((p m : ℕ) → p < m → m < length queue → IsTriedBefore level (firing queue p) (firing queue m)) →
      (fs : List Firing) × ArePicked queue fs
  picked [] decide sorted = (
    [],
    record {
      each = λ p l. absurd (omega arith);
      known = λ p l. absurd (omega arith);
      all = λ f st h. st;
      sorted = λ p m h l. absurd (omega arith);
    },
  )
  picked (f ∷ queue) decide sorted = go (decide 0 (omega arith)) (picked queue
      (λ p l. decide (suc p) (omega arith)) (λ p m h l. sorted (suc p) (suc m) (omega arith) (omega arith)))
    where
      go : P f ⊎ (P f → ⊥) → (fs : List Firing) × ArePicked queue fs → (fs : List Firing) × ArePicked (f ∷ queue) fs
      go (inr fails) (fs, w) = (
        fs,
        record {
          each = w.each;
          known = λ p l. later f (firing fs p) queue (w.known p l);
          all = λ g st h. all g (either f g queue st) h;
          sorted = w.sorted;
        },
      )
        where
          all : (g : Firing) → (f ≡ g) ⊎ Stands queue g → P g → Stands fs g
          all g (inl e) h = absurd (fails (subst P (sym e) h))
          all g (inr st) h = w.all g st h
      go (inl holds) (fs, w) = (
        f ∷ fs,
        record { each = each; known = known; all = λ g st h. all g (either f g queue st) h; sorted = rising },
      )
        where
          each : (p : ℕ) → p < length (f ∷ fs) → P (firing (f ∷ fs) p)
          each zero l = holds
          each (suc p) l = w.each p (omega arith)

          known : (p : ℕ) → p < length (f ∷ fs) → Stands (f ∷ queue) (firing (f ∷ fs) p)
          known zero l = (0, omega arith, refl)
          known (suc p) l = later f (firing fs p) queue (w.known p (omega arith))

          all : (g : Firing) → (f ≡ g) ⊎ Stands queue g → P g → Stands (f ∷ fs) g
          all g (inl e) h = (0, omega arith, e)
          all g (inr st) h = later f g fs (w.all g st h)

          rising : (p m : ℕ) → p < m → m < length (f ∷ fs) →
              IsTriedBefore level (firing (f ∷ fs) p) (firing (f ∷ fs) m)
          rising p zero h l = absurd (omega arith)
          rising zero (suc m) h l =
              let at = w.known m (omega arith) in
              subst (IsTriedBefore level f) at.2 (sorted 0 (suc at.0) (omega arith) (omega (arith, at.1)))
          rising (suc p) (suc m) h l = w.sorted p m (omega arith) (omega arith)
