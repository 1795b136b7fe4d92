-- Vectors as lists, and what holds of each element.
use Rattle.std.proofs.Common.{◌≡◌, ℕ, ◌+◌, ◌<◌, List, [], ◌∷◌, ◌++◌, length, get_or, sym, ◌∙◌, subst, inl, inr, ◌⊎◌}
use Rattle.std.proofs.Common.{◌≤◌, vec_len, arith}
use Rattle.std.proofs.lemmas.List.{get_or_append_left, get_or_push}
use Rattle.std.proofs.lemmas.Bool.{cases_lt}
use Rattle.std.specs.declared.vec.Vec.{Vec}
use Rattle.std.specs.Global.{Global}
use Rattle.std.specs.Prelude.{Result, Ok, Err, IfOk}

pub vec_long : {X : Type 0} (v : Vec X Global) → length v.items ≡ vec_len v
vec_long v = omega arith

-- what holds of each element, with one more
pub push_each : {X : Type 0} (P : ℕ → X → Type 0) (xs ys : List X) (x : X) (i : ℕ) → ys ≡ xs ++ x ∷ [] → length xs ≡ i →
    ((k : ℕ) (d : X) → k < i → P k (get_or xs k d)) → P i x → (k : ℕ) (d : X) → k < i + 1 → P k (get_or ys k d)
push_each P xs ys x i is long before here k d h = subst (λ zs. P k (get_or zs k d)) (sym is) (go (cases_lt k i))
  where
    go : (k < i) ⊎ (i ≤ k) → P k (get_or (xs ++ x ∷ []) k d)
    go (inl below) = subst (P k) (sym (get_or_append_left xs (x ∷ []) d k (omega arith))) (before k d below)
    go (inr above) =
        let at : i ≡ k = omega arith in
        subst (P k) (sym (get_or_push xs x d k (long ∙ at))) (subst (λ j. P j x) at here)

-- what holds of a value, where there is one
pub if_ok : {X E : Type 0} (r : Result X E) (P Q R W : X → Type 0) → IfOk r P → IfOk r Q → IfOk r R →
    ((x : X) → P x → Q x → R x → W x) → IfOk r W
if_ok (Ok x) P Q R W p q r f = f x p q r
if_ok (Err e) P Q R W p q r f = tt

pub ok_then : {X E : Type 0} (r : Result X E) (P Q : X → Type 0) → IfOk r P → ((x : X) → P x → Q x) → IfOk r Q
ok_then (Ok x) P Q p f = f x p
ok_then (Err e) P Q p f = tt
