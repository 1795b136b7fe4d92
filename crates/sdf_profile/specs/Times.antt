-- The time that the firings of actors took, and what is printed of it.
use Rattle.std.specs.Prelude.{◌≡◌, ℕ, zero, suc, ◌*◌, ◌/◌, ◌%◌, ◌==◌, if◌then◌else◌, min, List, [], ◌∷◌, ◌++◌}
use Rattle.std.specs.Prelude.{length, map, slice_index, slice_index_or, codes, decimal}
use Rattle.std.specs.List.{sum_by}
use Rattle.sdf_profile.specs.declared.stopwatch.Spent.{Spent}
use Rattle.sdf_profile.specs.Costs.{AreCostsOf}

-- the greatest number of 64 bits
abbrev pub most : ℕ
most = 18446744073709551615

-- a quotient, rounded down; 0 if there is nothing to divide by
abbrev pub quotient : ℕ → ℕ → ℕ
quotient n d = if d == 0 then 0 else n / d

-- the mean time of a firing in picoseconds
abbrev pub time_of : Spent → ℕ
time_of s = min most (quotient (s.nanoseconds * 1000) s.firings)

-- the nanoseconds of all firings
abbrev pub whole : List Spent → ℕ
whole all = min most (sum_by (λ (s : Spent). s.nanoseconds) all)

-- ---- the lines of a profile

-- a line feed
abbrev pub end : List ℕ
end = 10 ∷ []

-- the share of a part in the whole, in percent, rounded down to hundredths
abbrev pub percent : ℕ → ℕ → List ℕ
percent part whole =
    let share = quotient (part * 10000) whole in
    codes " " ++ decimal (share / 100) ++ codes "." ++ decimal (share / 10 % 10) ++ decimal (share % 10) ++ codes " %"

-- a time in picoseconds, printed in nanoseconds with tenths
abbrev pub time_text : ℕ → List ℕ
time_text time = decimal (time / 1000) ++ codes "." ++ decimal (time / 100 % 10) ++ codes " ns"

-- the number of an actor's firings
abbrev pub firings_text : ℕ → List ℕ
firings_text n = if n == 1 then codes ", 1 firing of " else codes ", " ++ decimal n ++ codes " firings of "

-- an actor's share of the whole, the number of its firings and the time of one
unfoldable pub share_line : List ℕ → ℕ → Spent → List ℕ
share_line name whole s =
    codes "share " ++ name ++ percent s.nanoseconds whole ++ firings_text s.firings
    ++ time_text (time_of s) ++ end

-- the cost of an actor's firing
unfoldable pub cost_line : List ℕ → ℕ → List ℕ
cost_line name cost = codes "cost " ++ name ++ codes " " ++ decimal cost ++ end

abbrev pub no_time : Spent
no_time = record { nanoseconds = 0; firings = 0 }

-- the lines of the first n actors
unfoldable pub shares_to : List (List ℕ) → List Spent → ℕ → List ℕ
shares_to names all zero = []
shares_to names all (suc n) = shares_to names all n
    ++ share_line (slice_index_or names n []) (whole all) (slice_index_or all n no_time)

unfoldable pub costs_to : List (List ℕ) → List ℕ → ℕ → List ℕ
costs_to names costs zero = []
costs_to names costs (suc n) = costs_to names costs n ++ cost_line (slice_index_or names n []) (slice_index costs n)

abbrev pub profile_text : List (List ℕ) → List Spent → List ℕ → List ℕ
profile_text names all costs = shares_to names all (length all) ++ costs_to names costs (length costs)

-- ---- what is measured

-- the text and the costs for the time that the firings of all actors took
pub record AreMeasured (names : List (List ℕ)) (all : List Spent) (text costs : List ℕ) : Type 0 where
  pub costs_are : AreCostsOf (map time_of all) costs
  pub text_is : text ≡ profile_text names all costs
