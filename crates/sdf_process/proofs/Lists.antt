-- Lists of vectors, made by number and read.
use Rattle.std.proofs.Common.{◌≡◌, ℕ, ◌+◌, ◌<◌, List, [], ◌∷◌, ◌++◌, get_or, length, map, sym, ap, ◌∙◌, arith}
use Rattle.std.specs.List.{range_with_len}
use Rattle.std.specs.declared.vec.Vec.{Vec}
use Rattle.std.proofs.lemmas.List.{map-append, length-map, get_or-map}
use Rattle.std.proofs.lemmas.List.FromFn.{map-range_with_len_more}
use Rattle.sdf_actor.specs.Wires.{lists}

pub length-lists : {T Z : Type 0} (vs : List (Vec T Z)) → length (lists vs) ≡ length vs
length-lists {T} {Z} vs = length-map vs (λ (x : Vec T Z). x.items)

pub lists_more : {T Z : Type 0} (f : ℕ → List T) (n : ℕ) (vs : List (Vec T Z)) (v : Vec T Z) →
    lists vs ≡ map f (range_with_len 0 n) → v.items ≡ f n → lists (vs ++ v ∷ []) ≡ map f (range_with_len 0 (n + 1))
lists_more {T} {Z} f n vs v all one =
    map-append (λ (x : Vec T Z). x.items) vs (v ∷ [])
    ∙ ap (λ ys. ys ++ v.items ∷ []) all
    ∙ ap (λ y. map f (range_with_len 0 n) ++ y ∷ []) one
    ∙ sym (map-range_with_len_more f 0 n n (omega arith))

-- the list that is read of vectors
pub list_read : {T Z : Type 0} (vs : List (Vec T Z)) (i : ℕ) (v : Vec T Z) → i < length vs → v ≡ get_or vs i v →
    v.items ≡ get_or (lists vs) i []
list_read {T} {Z} vs i v within is =
    ap (λ (x : Vec T Z). x.items) is ∙ sym (get_or-map (λ (x : Vec T Z). x.items) vs i v [] within)
