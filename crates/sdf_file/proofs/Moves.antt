-- Lists that are moved into others, an item at a time.
use Rattle.std.proofs.Common.{◌≡◌, ◌∙◌, ◌∷◌, [], ◌++◌, List, map, length, refl, sym, ap, append_assoc, append-nil}
use Rattle.std.proofs.Common.{arith}

pub nothing_left : {X : Type 0} (l : List X) → length l ≡ 0 → l ≡ []
nothing_left [] h = refl
nothing_left (x ∷ xs) h = absurd (omega arith)

-- one more of the rest
pub moved_more : {X Y : Type 0} (f : X → Y) (made later total : List Y) (rest left : List X) (x : X) → rest ≡ x ∷ left →
    later ≡ made ++ f x ∷ []
    → made ++ map f rest ≡ total → later ++ map f left ≡ total
moved_more f made later total rest left x is pushed so_far =
    rw pushed (append_assoc made (f x ∷ []) (map f left) ∙ (ap (λ xs. made ++ map f xs) (sym is) ∙ so_far))

-- all items of a list that went by another one
pub moved_all : {X Y Z : Type 0} (view : X → Y) (f : Y → Z) (made : List Z) (rest given all : List X) →
    length rest ≡ 0 →
    given ≡ all → made ++ map f (map view rest) ≡ map f (map view given) → made ≡ map f (map view all)
moved_all view f made rest given all none is so_far =
    let empty : rest ≡ [] = nothing_left rest none in sym (append-nil made) ∙ (rw (empty, is) at so_far)
