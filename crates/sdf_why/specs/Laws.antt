-- Statements that proofs of other crates cite.
use Rattle.std.specs.Prelude.{◌≡◌, ℕ, ◌+◌, List, ◌++◌}
use Rattle.std.specs.List.{flat_map, range_with_len}

-- a text that ends with n lines ends with n + 1 lines once line n is added
abbrev pub LineIsAdded : Type 0 → Type 0
LineIsAdded X = (line : ℕ → List X) (n : ℕ) (first before after : List X) →
    before ≡ first ++ flat_map line (range_with_len 0 n) → after ≡ before ++ line n →
    after ≡ first ++ flat_map line (range_with_len 0 (n + 1))
