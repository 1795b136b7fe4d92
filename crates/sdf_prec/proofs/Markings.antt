-- Marks, and how many there are.
use Rattle.std.proofs.Common.{◌≡◌, ℕ, zero, suc, ◌+◌, ◌<◌, ◌≤◌, ◌⊎◌, List, [], ◌∷◌, ◌++◌, length, get_or, set}
use Rattle.std.proofs.Common.{replicate, ◌∙◌, sym, ap, subst, inl, inr, arith, refl, Bool, true, false}
use Rattle.std.proofs.lemmas.Bool.{cases_lt, cases_eq, false≢true}
use Rattle.std.proofs.lemmas.List.{get_or-set_same, get_or-set_other, get_or_past}
use Rattle.std.specs.List.{Contains}
use Rattle.std.proofs.lemmas.List.{get_or-replicate, get_or_append_left, get_or_push, get_or_default}
use Rattle.std.proofs.lemmas.List.{length_push, length-replicate, length-set}
use Rattle.sdf_prec.specs.Marked.{AreListed}
use Rattle.sdf_prec.specs.Queued.{IsUnmarked}

pub many : List Bool → ℕ
many [] = 0
many (true ∷ marks) = suc (many marks)
many (false ∷ marks) = many marks

-- one mark is taken away
pub fewer : (marks : List Bool) (a : ℕ) → get_or marks a false ≡ true → many (set marks a false) < many marks
unfolding many
fewer [] a e = absurd (false≢true e)
fewer (true ∷ marks) zero e = omega arith
fewer (false ∷ marks) zero e = absurd (false≢true e)
fewer (true ∷ marks) (suc a) e = let rest = fewer marks a e in omega arith
fewer (false ∷ marks) (suc a) e = fewer marks a e

pub mark_known : (marks : List Bool) (a : ℕ) → get_or marks a false ≡ true → a < length marks
mark_known marks a e = go (cases_lt a (length marks))
  where
    go : (a < length marks) ⊎ (length marks ≤ a) → a < length marks
    go (inl l) = l
    go (inr h) = absurd (false≢true (sym (get_or_past marks a false (omega arith)) ∙ e))

-- who has no mark then had none before, or is the one whose mark was taken away
pub unmarked_then : (marks : List Bool) (i a : ℕ) → IsUnmarked (set marks i false) a → IsUnmarked marks a ⊎ (a ≡ i)
unmarked_then marks i a h = go (cases_eq a i)
  where
    go : (a ≡ i) ⊎ (a ≡ i → ⊥) → IsUnmarked marks a ⊎ (a ≡ i)
    go (inl e) = inr e
    go (inr ne) = inl (sym (get_or-set_other marks i a false true ne) ∙ h)

-- all are marked
pub all_listed : (n : ℕ) (actors : List ℕ) → length actors ≡ n → ((p : ℕ) → p < length actors → get_or actors p 0 ≡ p) →
    AreListed (replicate n true) actors
all_listed n actors all each = record {
  each = λ p l. get_or-replicate n (get_or actors p 0) true false (omega (arith, each p l));
  all = λ a e.
      let l : a < length actors = omega (arith, mark_known (replicate n true) a e, length-replicate n true) in
      (a, l, get_or_default actors a a 0 l ∙ each a l);
  once = λ p m l k e. omega (arith, each p (omega arith), each m k);
}

-- the last listed mark is taken away
module _ (marks : List Bool) (actors : List ℕ) (i : ℕ) (s : AreListed marks (actors ++ i ∷ [])) where
  longer : length (actors ++ i ∷ []) ≡ length actors + 1
  longer = length_push actors i

  last : get_or (actors ++ i ∷ []) (length actors) 0 ≡ i
  last = get_or_push actors i 0 (length actors) refl

  front : (p d : ℕ) → p < length actors → get_or (actors ++ i ∷ []) p d ≡ get_or actors p d
  front p d l = get_or_append_left actors (i ∷ []) d p l

  gone : get_or (set marks i false) i false ≡ false
  gone = go (cases_lt i (length marks))
    where
      go : (i < length marks) ⊎ (length marks ≤ i) → get_or (set marks i false) i false ≡ false
      go (inl l) = get_or-set_same marks i false false l
      go (inr h) = get_or_past (set marks i false) i false (omega (arith, length-set marks i false))

  pub listed_less : AreListed (set marks i false) actors
  listed_less = record {
    each = each;
    all = λ a e. all a e (cases_eq a i);
    once = λ p m l k e. s.once p m l (omega (arith, longer))
        (front p 0 (omega arith) ∙ (e ∙ sym (front m 0 k)));
  }
    where
      each : (p : ℕ) → p < length actors → get_or (set marks i false) (get_or actors p 0) false ≡ true
      each p l =
          let old : get_or marks (get_or actors p 0) false ≡ true =
          subst (λ a. get_or marks a false ≡ true) (front p 0 l) (s.each p (omega (arith, longer))) in
          get_or-set_other marks i (get_or actors p 0) false false
          (λ e. s.once p (length actors) l (omega (arith, longer)) (front p 0 l ∙ (e ∙ sym last))) ∙ old

      all : (a : ℕ) → get_or (set marks i false) a false ≡ true → (a ≡ i) ⊎ (a ≡ i → ⊥) → Contains actors a
      all a e (inl is) = absurd (false≢true (sym gone ∙ (ap (λ a. get_or (set marks i false) a false) (sym is) ∙ e)))
      all a e (inr ne) = at (s.all a (sym (get_or-set_other marks i a false false ne) ∙ e))
        where
          at : Contains (actors ++ i ∷ []) a → Contains actors a
          at (p, l, is) = go (cases_lt p (length actors))
            where
              go : (p < length actors) ⊎ (length actors ≤ p) → Contains actors a
              go (inl k) = (p, k, sym (front p a k) ∙ is)
              go (inr h) =
                  let here : p ≡ length actors = omega (arith, longer) in
                  absurd (ne (sym is ∙ (ap (λ p. get_or (actors ++ i ∷ []) p a) here
                  ∙ get_or_push actors i a (length actors) refl)))
