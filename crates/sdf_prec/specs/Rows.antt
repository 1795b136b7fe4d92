-- Rows of cells that stand one after another in one list.
use Rattle.std.specs.Prelude.{ℕ, ◌*◌, List, map, take, drop, Option}
use Rattle.std.specs.List.{range_with_len}
use Rattle.sdf_prec.specs.declared.firing.Firing.{Firing}

-- rows of `width` cells each
pub record RowsValue : Type 0 where
  pub width : ℕ
  pub rows : List (List (Option Firing))

-- the first `count` rows of a list of cells, with `width` cells each
abbrev pub rows_in : (width count : ℕ) → List (Option Firing) → List (List (Option Firing))
rows_in width count cells = map (λ i. take width (drop (i * width) cells)) (range_with_len 0 count)
