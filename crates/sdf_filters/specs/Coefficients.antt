-- The text of a coefficient file.
use Rattle.std.specs.Prelude.{ℕ, zero, suc, ◌%◌, ◌==◌, cond, ℤ, List, [], ◌∷◌, ◌++◌, length, codes}
use Rattle.std.specs.Fmt.{signed_decimal}
use Rattle.sdf_filters.specs.Phases.{tap}

-- a line feed and two blanks
abbrev pub new_row : List ℕ
new_row = 10 ∷ 32 ∷ 32 ∷ []

-- the separator before value n; each row has twelve values
abbrev pub separator : ℕ → List ℕ
separator n = cond (n == 0) new_row (cond (n % 12 == 0) (44 ∷ new_row) (codes ", "))

-- value n, after its separator
abbrev pub value_text : ℕ → ℤ → List ℕ
value_text n value = separator n ++ signed_decimal value

-- the first n values
unfoldable pub values_text : List ℤ → ℕ → List ℕ
values_text values zero = []
values_text values (suc n) = values_text values n ++ value_text n (tap values n)

abbrev pub coefficient_text : List ℤ → List ℕ
coefficient_text values =
    codes "format = 1" ++ (10 ∷ []) ++ codes "values = [" ++ values_text values (length values) ++ (10 ∷ 93 ∷ 10 ∷ [])
