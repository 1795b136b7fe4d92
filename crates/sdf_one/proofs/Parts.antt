-- Parts of lists.
use Rattle.std.proofs.Common.{◌≡◌, ℕ, suc, ◌+◌, ◌-◌, ◌≤◌, ◌<◌, List, [], ◌∷◌, ◌++◌, length, get_or, take, drop, cond}
use Rattle.std.proofs.Common.{refl, ap, ◌∙◌, arith}
use Rattle.std.specs.List.{between, flat_map}
use Rattle.std.proofs.lemmas.List.{drop-drop}
use Rattle.std.proofs.lemmas.Bool.{ne_eqb}
use Rattle.sdf_actor.specs.Histories.{spread}
use Rattle.std.proofs.Math.Seq.{take-add}

-- a beginning is a shorter one and the part after it
pub take_on : {X : Type 0} (xs : List X) (i j : ℕ) → i ≤ j → take j xs ≡ take i xs ++ between i j xs
take_on xs i j h = ap (λ k. take k xs) (let e : j ≡ i + (j - i) = omega arith in e) ∙ take-add i (j - i) xs

-- pieces that are the same, joined
pub flat_map_same : {X : Type 0} (f g : ℕ → List X) (cs : List ℕ) →
    ((n : ℕ) → n < length cs → f (get_or cs n 0) ≡ g (get_or cs n 0)) → flat_map f cs ≡ flat_map g cs
flat_map_same f g [] h = refl
flat_map_same f g (c ∷ cs) h =
    let e : f c ≡ g c = h 0 (omega arith) in
    let r : flat_map f cs ≡ flat_map g cs = flat_map_same f g cs (λ n l. h (suc n) (omega arith)) in
    cc

-- a part is a shorter one and what follows it
pub joined : {X : Type 0} (xs : List X) (i j k : ℕ) → i ≤ j → j ≤ k → between i k xs ≡ between i j xs ++ between j k xs
joined xs i j k h g =
    let less : j - i ≤ k - i = omega arith in
    let rest : (k - i) - (j - i) ≡ k - j = omega arith in
    let from : i + (j - i) ≡ j = omega arith in
    take_on (drop i xs) (j - i) (k - i) less ∙
    ap (λ ys. between i j xs ++ ys)
    (ap (take ((k - i) - (j - i))) (drop-drop (j - i) i xs) ∙ (λ l. take (rest l) (drop (from l) xs)))

-- a list of none
pub none_of : {X : Type 0} (xs : List X) → length xs ≡ 0 → xs ≡ []
none_of [] e = refl
none_of (x ∷ xs) e = absurd (omega arith)

-- a list of one
pub one_of : (xs : List ℕ) → length xs ≡ 1 → xs ≡ get_or xs 0 0 ∷ []
one_of [] e = absurd (omega arith)
one_of (x ∷ xs) e = ap (λ ys. x ∷ ys) (none_of xs (omega arith))

-- nothing goes to a channel at none of the ports
pub spread_none : {T : Type 0} (size : ℕ → ℕ) (ds : List ℕ) (b : List T) (c : ℕ) →
    ((n : ℕ) → n < length ds → get_or ds n 0 ≡ c → ⊥) → spread size ds b c ≡ []
spread_none size [] b c none = refl
spread_none size (d ∷ ds) b c none =
    ap (λ t. cond t (take (size d) b) (spread size ds (drop (size d) b) c)) (ne_eqb d c (none 0 (omega arith))) ∙
    spread_none size ds (drop (size d) b) c (λ n l. none (suc n) (omega arith))
