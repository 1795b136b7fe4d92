-- Lists that are read and pushed on.
use Rattle.std.proofs.Common.{◌≡◌, ℕ, ◌+◌, ◌*◌, ◌<◌, List, [], ◌∷◌, ◌++◌, length, get_or, sym, ap, ◌∙◌, subst, inl, inr}
use Rattle.std.proofs.Common.{◌⊎◌, ◌≤◌, vec_len, arith}
use Rattle.std.proofs.lemmas.List.{get_or_append_left, get_or_push}
use Rattle.std.proofs.lemmas.Bool.{cases_lt}
use Rattle.std.specs.declared.vec.Vec.{Vec}
use Rattle.std.specs.Global.{Global}
use Rattle.sdf_actor.specs.declared.sides.Lists.TheVariants.{Inputs}
use Rattle.sdf_actor.specs.Nets.{Netlist}
use Rattle.sdf_actor.specs.Sides.{list_count, period_samples}
use Rattle.sdf_queues.specs.RunResults.{AreInputs, HasInputs}

-- an element of a list that has one
pub some_of : {X : Type 0} (xs : List X) (i : ℕ) → i < length xs → X
some_of [] i h = absurd (omega arith)
some_of (x ∷ xs) i h = x

pub vec_long : {X : Type 0} (v : Vec X Global) → length v.items ≡ vec_len v
vec_long v = omega arith

-- what holds of each element, with one more
pub push_at : {X : Type 0} (P : ℕ → X → Type 0) (xs ys : List X) (x d : X) (i : ℕ) → ys ≡ xs ++ x ∷ [] → length xs ≡ i →
    ((k : ℕ) → k < i → P k (get_or xs k d)) → P i x → (k : ℕ) → k < i + 1 → P k (get_or ys k d)
push_at P xs ys x d i is long before here k h = subst (λ zs. P k (get_or zs k d)) (sym is) (go (cases_lt k i))
  where
    go : (k < i) ⊎ (i ≤ k) → P k (get_or (xs ++ x ∷ []) k d)
    go (inl below) = subst (P k) (sym (get_or_append_left xs (x ∷ []) d k (omega arith))) (before k below)
    go (inr above) =
        let at : i ≡ k = omega arith in
        subst (P k) (sym (get_or_push xs x d k (long ∙ at))) (subst (λ j. P j x) at here)

pub push_each : {X : Type 0} (P : ℕ → X → Type 0) (xs ys : List X) (x : X) (i : ℕ) → ys ≡ xs ++ x ∷ [] → length xs ≡ i →
    ((k : ℕ) (d : X) → k < i → P k (get_or xs k d)) → P i x → (k : ℕ) (d : X) → k < i + 1 → P k (get_or ys k d)
push_each P xs ys x i is long before here k d = push_at P xs ys x d i is long (λ j h. before j d h) here k

-- lists that pass the test of their number and length are what so many periods read
pub given : {A T : Type 0} (n : Netlist A T) (q : List ℕ) (periods many least samples : ℕ) (inputs : List (List T)) →
    AreInputs many least inputs → many ≡ list_count Inputs n.nodes →
    least ≡ periods * samples → samples ≡ period_samples n.nodes Inputs q → HasInputs n q periods inputs
given n q periods many least samples inputs are count long each =
    subst (λ m. AreInputs m (periods * period_samples n.nodes Inputs q) inputs) count
    (subst (λ l. AreInputs many l inputs) (long ∙ ap (λ m. periods * m) each) are)

-- and the other way
pub asked : {A T : Type 0} (n : Netlist A T) (q : List ℕ) (periods many least samples : ℕ) (inputs : List (List T)) →
    HasInputs n q periods inputs → many ≡ list_count Inputs n.nodes →
    least ≡ periods * samples → samples ≡ period_samples n.nodes Inputs q → AreInputs many least inputs
asked n q periods many least samples inputs has count long each =
    subst (λ l. AreInputs many l inputs) (sym (long ∙ ap (λ m. periods * m) each))
    (subst (λ m. AreInputs m (periods * period_samples n.nodes Inputs q) inputs) (sym count) has)
