-- Lists made by number, one element longer.
use Rattle.std.proofs.Common.{◌≡◌, ℕ, ◌+◌, List, [], ◌∷◌, ◌++◌, map, sym, ap, ◌∙◌, arith}
use Rattle.std.specs.List.{range_with_len}
use Rattle.std.proofs.lemmas.List.{map-append}
use Rattle.std.proofs.lemmas.List.FromFn.{map-range_with_len_more}

pub mapped_more : {X Y : Type 0} (g : X → Y) (f : ℕ → Y) (n : ℕ) (xs : List X) (x : X) →
    map g xs ≡ map f (range_with_len 0 n) → g x ≡ f n → map g (xs ++ x ∷ []) ≡ map f (range_with_len 0 (n + 1))
mapped_more g f n xs x all one =
    map-append g xs (x ∷ [])
    ∙ ap (λ ys. ys ++ g x ∷ []) all
    ∙ ap (λ y. map f (range_with_len 0 n) ++ y ∷ []) one
    ∙ sym (map-range_with_len_more f 0 n n (omega arith))
