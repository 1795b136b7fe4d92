-- A walk over the ports of a node: what moved at those passed, while the others are as they were.
use Rattle.std.proofs.Common.{◌≡◌, ◌≢◌, ℕ, ◌+◌, ◌<◌, ◌≤◌, List, length, slice_index_or, slice_set, get_or-set_other}
use Rattle.std.proofs.Common.{refl, sym, subst, arith}
use Rattle.sdf_rings.specs.Blocks.{start_at}
use Rattle.sdf_rings.proofs.Blocks.{start_at_zero, start_at_next}
use Rattle.sdf_rings.proofs.Each.{each_more}

-- before port i, whose part begins at `at`
pub record Walked {X Y : Type 0} (R : X → X → Y → Type 0) (size : ℕ → ℕ) (part : ℕ → Y) (before now : List X)
    (i at : ℕ) : Type 0 where
  pub at_is : at ≡ start_at size i
  pub done : (k : ℕ) (d : X) → k < i → R (slice_index_or before k d) (slice_index_or now k d) (part k)
  pub rest : (k : ℕ) (d : X) → i ≤ k → slice_index_or now k d ≡ slice_index_or before k d

module _ {X Y : Type 0} (R : X → X → Y → Type 0) (size : ℕ → ℕ) where
  pub walked_none : (part : ℕ → Y) (xs : List X) → Walked R size part xs xs 0 0
  walked_none part xs = record {
    at_is = sym (start_at_zero size);
    done = λ k d h. absurd (omega arith);
    rest = λ k d h. refl;
  }

  -- one port more, where those passed keep their parts
  pub walked_more : (part : ℕ → Y) (before now : List X) (i at : ℕ) → Walked R size part before now i at →
      (new : ℕ → Y) (x e : X) → i < length now →
      ((k : ℕ) → k < i → part k ≡ new k) → R (slice_index_or now i e) x (new i) →
      Walked R size new before (slice_set now i x) (i + 1) (at + size i)
  walked_more part before now i at w new x e inside same here = record {
    at_is = let n = start_at_next size i in let e = w.at_is in omega arith;
    done = each_more (λ k a b. R a b (part k)) (λ k a b. R a b (new k)) before now i x e inside w.rest w.done
        (λ k a b l r. subst (R a b) (same k l) r) here;
    rest = λ k d h. let ne : k ≢ i = omega arith in rw get_or-set_other (w.rest k d (omega arith));
  }
