-- One more line.
use Rattle.std.proofs.Common.{◌≡◌, ◌∙◌, ◌+◌, ℕ, List, [], ◌∷◌, ◌++◌, sym, ap, arith}
use Rattle.std.specs.List.{flat_map, range_with_len}
use Rattle.std.proofs.lemmas.List.{map-id, flat_map_more}
use Rattle.std.proofs.lemmas.List.FromFn.{map-range_with_len_more}

one_more : (n : ℕ) → range_with_len 0 (n + 1) ≡ range_with_len 0 n ++ n ∷ []
one_more n = sym (map-id (range_with_len 0 (n + 1)))
    ∙ (map-range_with_len_more (λ (x : ℕ). x) 0 n n (omega arith)
    ∙ ap (λ xs. xs ++ n ∷ []) (map-id (range_with_len 0 n)))

-- a line after those before it
pub line_added : (line : ℕ → List ℕ) (n : ℕ) (first before after : List ℕ) →
    before ≡ first ++ flat_map line (range_with_len 0 n) → after ≡ before ++ line n
    → after ≡ first ++ flat_map line (range_with_len 0 (n + 1))
line_added line n first before after so_far added =
    added ∙ (rw so_far (flat_map_more line first (range_with_len 0 n) n)
    ∙ ap (λ xs. first ++ flat_map line xs) (sym (one_more n)))
