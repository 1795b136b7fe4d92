-- Texts that are looked up in a list.
use Rattle.std.proofs.Common.{◌≡◌, ℕ, List, [], ◌∷◌, map, ap, refl, Bor}
use Rattle.std.specs.Prelude.{◌||◌, bytes_eq}
use Rattle.std.specs.List.{list_any}

-- whether a text is among others
pub is_among : (s : List ℕ) (ts : List (Bor (List ℕ))) →
    list_any (bytes_eq s) (map (λ t. t.now) ts) ≡ list_any (λ t. bytes_eq s t.now) ts
is_among s [] = refl
is_among s (t ∷ ts) = ap (λ b. bytes_eq s t.now || b) (is_among s ts)
