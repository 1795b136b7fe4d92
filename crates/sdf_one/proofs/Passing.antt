-- Queues after one of them was taken from or put on.
use Rattle.std.proofs.Common.{◌≡◌, ℕ, ◌<◌, List, [], ◌++◌, length, get_or, set, drop, cond, eqb, sym, ap, ◌∙◌, subst}
use Rattle.std.proofs.Common.{inl, inr, ◌⊎◌, arith}
use Rattle.std.proofs.lemmas.List.{get_or-set_same, get_or-set_other, get_or_default, length-set, append-nil}
use Rattle.std.proofs.lemmas.Bool.{cases_eq, eq-eqb, ne_eqb}
use Rattle.sdf_queues.specs.QueueValue.{QueueValue}
use Rattle.sdf_queues.specs.Blocks.{nothing, samples, room}

module _ {T : Type 0} (qs : List (QueueValue T)) (d : ℕ) (q x : QueueValue T) (known : d < length qs) where
  here : get_or (set qs d q) d nothing ≡ q
  here = get_or-set_same qs d q nothing known

  there : (c : ℕ) → (d ≡ c → ⊥) → get_or (set qs d q) c nothing ≡ get_or qs c nothing
  there c ne = get_or-set_other qs d c q nothing (λ e. ne (sym e))

  was : get_or qs d x ≡ get_or qs d nothing
  was = get_or_default qs d x nothing known

  -- of one that was put on
  pub put_one : (block : List T) → q.samples ≡ (get_or qs d x).samples ++ block → (c : ℕ) →
      samples (set qs d q) c ≡ samples qs c ++ cond (eqb d c) block []
  put_one block is c = go (cases_eq d c)
    where
      go : (d ≡ c) ⊎ (d ≡ c → ⊥) → samples (set qs d q) c ≡ samples qs c ++ cond (eqb d c) block []
      go (inl e) =
          subst (λ c. samples (set qs d q) c ≡ samples qs c ++ block) e
          (ap (λ (y : QueueValue T). y.samples) here ∙ (is ∙ ap (λ (y : QueueValue T). y.samples ++ block) was)) ∙
          ap (λ t. samples qs c ++ cond t block []) (sym (eq-eqb d c e))
      go (inr ne) =
          ap (λ (y : QueueValue T). y.samples) (there c ne) ∙ (sym (append-nil (samples qs c))
          ∙ ap (λ t. samples qs c ++ cond t block []) (sym (ne_eqb d c ne)))

  -- and of one that was taken from
  pub take_one : (many : ℕ → ℕ) → q.samples ≡ drop (many d) (get_or qs d x).samples → (c : ℕ) →
      samples (set qs d q) c ≡ drop (cond (eqb d c) (many c) 0) (samples qs c)
  take_one many is c = go (cases_eq d c)
    where
      go : (d ≡ c) ⊎ (d ≡ c → ⊥) → samples (set qs d q) c ≡ drop (cond (eqb d c) (many c) 0) (samples qs c)
      go (inl e) =
          subst (λ c. samples (set qs d q) c ≡ drop (many c) (samples qs c)) e
          (ap (λ (y : QueueValue T). y.samples) here ∙ (is ∙ ap (λ (y : QueueValue T). drop (many d) y.samples) was)) ∙
          ap (λ t. drop (cond t (many c) 0) (samples qs c)) (sym (eq-eqb d c e))
      go (inr ne) = ap (λ (y : QueueValue T). y.samples) (there c ne)
          ∙ ap (λ t. drop (cond t (many c) 0) (samples qs c)) (sym (ne_eqb d c ne))

  pub room_one : q.room ≡ (get_or qs d x).room → (c : ℕ) → room (set qs d q) c ≡ room qs c
  room_one is c = go (cases_eq d c)
    where
      go : (d ≡ c) ⊎ (d ≡ c → ⊥) → room (set qs d q) c ≡ room qs c
      go (inl e) = subst (λ c. room (set qs d q) c ≡ room qs c) e
          (ap (λ (y : QueueValue T). y.room) here ∙ (is ∙ ap (λ (y : QueueValue T). y.room) was))
      go (inr ne) = ap (λ (y : QueueValue T). y.room) (there c ne)

-- what was taken out and set back stands as if it had stayed
module _ {T : Type 0} (qs : List (QueueValue T)) (from to : ℕ) (q y e : QueueValue T) (from_in : from < length qs)
    (to_in : to < length qs) (apart : from ≡ to → ⊥) where
  pub lifted : (c : ℕ) → get_or (set (set (set qs to e) from q) to y) c nothing ≡
      get_or (set (set qs from q) to y) c nothing
  lifted c = go (cases_eq to c) (cases_eq from c)
    where
      long : length (set (set qs to e) from q) ≡ length qs
      long = length-set (set qs to e) from q ∙ length-set qs to e

      go : (to ≡ c) ⊎ (to ≡ c → ⊥) → (from ≡ c) ⊎ (from ≡ c → ⊥) →
          get_or (set (set (set qs to e) from q) to y) c nothing ≡ get_or (set (set qs from q) to y) c nothing
      go (inl e') at =
          subst (λ c. get_or (set (set (set qs to e) from q) to y) c nothing ≡
          get_or (set (set qs from q) to y) c nothing) e'
          (get_or-set_same (set (set qs to e) from q) to y nothing (omega (arith, long))
          ∙ sym (get_or-set_same (set qs from q) to y nothing (omega (arith, length-set qs from q))))
      go (inr ne) (inl e') =
          get_or-set_other (set (set qs to e) from q) to c y nothing (λ f. ne (sym f)) ∙
          (subst (λ c. get_or (set (set qs to e) from q) c nothing ≡ get_or (set qs from q) c nothing) e'
          (get_or-set_same (set qs to e) from q nothing (omega (arith, length-set qs to e))
          ∙ sym (get_or-set_same qs from q nothing from_in)) ∙
          sym (get_or-set_other (set qs from q) to c y nothing (λ f. ne (sym f))))
      go (inr ne) (inr other) =
          get_or-set_other (set (set qs to e) from q) to c y nothing (λ f. ne (sym f)) ∙
          (get_or-set_other (set qs to e) from c q nothing (λ f. other (sym f)) ∙
          (get_or-set_other qs to c e nothing (λ f. ne (sym f)) ∙
          (sym (get_or-set_other qs from c q nothing (λ f. other (sym f))) ∙
          sym (get_or-set_other (set qs from q) to c y nothing (λ f. ne (sym f))))))

  -- one that was taken from and one that was put on
  pub passed : (xf xt : QueueValue T) (many : ℕ → ℕ) (block : List T) →
      q.samples ≡ drop (many from) (get_or qs from xf).samples → y.samples ≡ (get_or qs to xt).samples ++ block →
      (c : ℕ) → samples (set (set (set qs to e) from q) to y) c ≡
      drop (cond (eqb from c) (many c) 0) (samples qs c) ++ cond (eqb to c) block []
  passed xf xt many block is put c =
      let still : get_or qs to xt ≡ get_or (set qs from q) to xt =
      sym (get_or-set_other qs from to q xt (λ f. apart (sym f))) in
      ap (λ (z : QueueValue T). z.samples) (lifted c) ∙
      (put_one (set qs from q) to y xt (omega (arith, length-set qs from q)) block
      (put ∙ ap (λ (z : QueueValue T). z.samples ++ block) still) c ∙
      ap (λ ys. ys ++ cond (eqb to c) block []) (take_one qs from q xf from_in many is c))

  pub passed_room : (xf xt : QueueValue T) → q.room ≡ (get_or qs from xf).room → y.room ≡ (get_or qs to xt).room →
      (c : ℕ) →
      room (set (set (set qs to e) from q) to y) c ≡ room qs c
  passed_room xf xt is put c =
      let still : get_or qs to xt ≡ get_or (set qs from q) to xt =
      sym (get_or-set_other qs from to q xt (λ f. apart (sym f))) in
      ap (λ (z : QueueValue T). z.room) (lifted c) ∙
      (room_one (set qs from q) to y xt (omega (arith, length-set qs from q))
      (put ∙ ap (λ (z : QueueValue T). z.room) still)
      c ∙ room_one qs from q xf from_in is c)
