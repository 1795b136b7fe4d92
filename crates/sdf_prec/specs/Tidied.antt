-- Rows as a table keeps them.
use Rattle.std.specs.Prelude.{ℕ, ◌-◌, ◌++◌, Bool, List, length, map, filter, replicate, nat_lt, Option, None}
use Rattle.sdf_prec.specs.declared.firing.Firing.{Firing}
use Rattle.sdf_prec.specs.Tables.{firings}

-- cells filled up to a width
abbrev pub filled : ℕ → List (Option Firing) → List (Option Firing)
filled width cells = cells ++ replicate (width - length cells) None

-- a firing stands in the row
abbrev pub has_firing : List (Option Firing) → Bool
has_firing cells = nat_lt 0 (length (firings cells))

-- the rows in which a firing stands, filled up
abbrev pub tidy_rows : ℕ → List (List (Option Firing)) → List (List (Option Firing))
tidy_rows width rows = map (filled width) (filter has_firing rows)
