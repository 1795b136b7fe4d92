-- What the test of one actor shows.
use Rattle.std.proofs.Common.{◌≡◌, ℕ, List, ◌++◌, length, get_or, take, refl, inl, inr}
use Rattle.std.specs.Prelude.{Option, Some, None}
use Rattle.std.specs.List.{Contains}
use Rattle.std.proofs.Math.Seq.{take-append_seam}
use Rattle.sdf_graph.specs.Rates.{Rates}
use Rattle.sdf_graph.specs.Sequences.{IsRunnable}
use Rattle.sdf_sched.specs.ClassS.{IsUpdated, IsShortOf, HasStatus, listed, over, waits, IsTested}

module _ (r : Rates) (q k : ℕ → ℕ) (a : ℕ) where
  placed : (short : Option ℕ) → IsShortOf r q k a short → (ys : List ℕ) (vs : List (Option ℕ)) →
      (IsRunnable r q k a → Contains ys a) → get_or vs a None ≡ short → HasStatus r q k (λ _. ⊥) ys vs a
  placed None (inl done) ys vs here is = over done
  placed None (inr on) ys vs here is = listed (here on)
  placed (Some c) told ys vs here is = waits c is told.channel.known told.channel.into (inr told.channel.short)

  module _ (xs ys : List ℕ) (ws vs : List (Option ℕ)) (long : length vs ≡ length ws)
      (others : (b : ℕ) → (b ≡ a → ⊥) → get_or vs b None ≡ get_or ws b None)
      (told : IsShortOf r q k a (get_or vs a None)) where
    -- with the list that the test makes
    pub tested_by : IsUpdated xs a (IsRunnable r q k a) ys → IsTested r q k a xs ws ys vs
    tested_by up = record {
      list = up;
      all = long;
      here = placed (get_or vs a None) told ys vs up.here.1 refl;
      others = others;
    }

-- what is written back over a whole vector
pub whole : {A : Type 0} → (n : ℕ) (xs ys : List A) → n ≡ length xs → take n (xs ++ ys) ≡ xs
whole n xs ys e = rw e (take-append_seam xs ys)
