-- The bars of a table against time.
use Rattle.std.specs.Prelude.{◌≡◌, ℕ, zero, suc, ◌+◌, ◌*◌, ◌/◌, ◌==◌, ◌&&◌, Bool, List, [], ◌∷◌, if◌then◌else◌, Option}
use Rattle.std.specs.Prelude.{Some, None}
use Rattle.std.specs.Prelude.{slice_index, length, ◌<◌, ◌^◌}
use Rattle.sdf_prec.specs.declared.firing.Firing.{Firing}
use Rattle.sdf_prec.specs.Tables.{TableValue, cell, row}
use Rattle.sdf_times.specs.Times.{IsInTable, HasStart, start_in}
use Rattle.sdf_file.specs.Designs.{DesignValue}
use Rattle.sdf_draw.specs.declared.bars.Bar.{Bar}
use Rattle.sdf_draw.specs.declared.chart.TheConstants.{CHART}

-- the bar of a firing: from its start, for as long as its cost
abbrev pub bar_of : (ℕ → ℕ) → (Firing → ℕ) → Firing → Bar
bar_of cost start f = record { actor = f.actor; start = start f; end = start f + cost f.actor }

-- bar b goes on with bar a: it is of the same actor, and begins when bar a ends
abbrev pub is_continued_by : Bar → Bar → Bool
is_continued_by a b = (a.actor == b.actor) && (a.end == b.start)

-- two bars, as one if bars are joined and the second goes on with the first
abbrev pub two_bars : Bool → Bar → Bar → List Bar
two_bars joined a b =
    if joined && is_continued_by a b then record { actor = a.actor; start = a.start; end = b.end } ∷ [] else a ∷ b ∷ []

-- bars with one more, which lengthens the last one if bars are joined and it goes on with that
abbrev pub with_bar : Bool → List Bar → Bar → List Bar
with_bar joined [] b = b ∷ []
with_bar joined (a ∷ []) b = two_bars joined a b
with_bar joined (a ∷ c ∷ bars) b = a ∷ with_bar joined (c ∷ bars) b

abbrev pub with_cell : Bool → (Firing → Bar) → List Bar → Option Firing → List Bar
with_cell joined bar bars None = bars
with_cell joined bar bars (Some f) = with_bar joined bars (bar f)

-- the bars of the first i rows in column k
abbrev pub bars_to : Bool → (Firing → Bar) → List (List (Option Firing)) → ℕ → ℕ → List Bar
bars_to joined bar rows k zero = []
bars_to joined bar rows k (suc i) = with_cell joined bar (bars_to joined bar rows k i) (cell rows i k)

-- a firing has a start, an actor with a cost, and an end that is a time
pub record IsDrawable (costs : List ℕ) (starts : List (List ℕ)) (f : Firing) : Type 0 where
  pub has : HasStart starts f
  pub known : f.actor < length costs
  pub small : start_in starts f + slice_index costs f.actor < 2 ^ 64

-- a table that can be drawn: its rows have m columns, and its firings can be drawn
pub record AreDrawable (d : DesignValue) (m : ℕ) (t : TableValue) (starts : List (List ℕ)) : Type 0 where
  pub wide : (i : ℕ) → i < length t.rows → length (row t.rows i) ≡ m
  pub each : (f : Firing) → IsInTable t.rows f → IsDrawable d.costs starts f

-- the distance of a time from the left, when the makespan is as wide as the chart
abbrev pub scaled : ℕ → ℕ → ℕ
scaled time makespan = time * CHART / makespan
