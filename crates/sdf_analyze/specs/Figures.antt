-- The figures of a table: its times, its work and what its channels hold.
use Rattle.std.specs.Prelude.{◌≡◌, ℕ, ◌<◌, List, length, slice_index, sum}
use Rattle.sdf_graph.specs.Rates.{Rates}
use Rattle.sdf_sched.specs.Period.{Schedule}
use Rattle.sdf_prec.specs.declared.firing.Firing.{Firing}
use Rattle.sdf_prec.specs.Tables.{TableValue}
use Rattle.sdf_times.specs.Times.{IsInTable, AreStarts, HasStart, start_in, IsMakespan, load_of, work_of, IsSpan}
use Rattle.sdf_times.specs.Times.{IsBound}
use Rattle.sdf_file.specs.Designs.{DesignValue}
use Rattle.sdf_plan.specs.Placements.{rates_of, firings_of}

-- for each actor the times at which its firings start; the time at which the last firing ends; the work, the span and
-- the bound of the table's block; the load of each column; and the sum of the channels' capacities
pub record FiguresValue : Type 0 where
  pub starts : List (List ℕ)
  pub makespan : ℕ
  pub work : ℕ
  pub span : ℕ
  pub bound : ℕ
  pub loads : List ℕ
  pub held : ℕ

-- the figures of a table in m columns, for a block of j periods, if each firing of actor a costs: cost a
pub record AreFigures (r : Rates) (cost : ℕ → ℕ) (j m : ℕ) (s : Schedule) (t : TableValue)
    (f : FiguresValue) : Type 0 where
  pub starts : AreStarts r cost t.rows (start_in f.starts)
  pub has : (g : Firing) → IsInTable t.rows g → HasStart f.starts g
  pub makespan : IsMakespan cost t.rows (start_in f.starts) f.makespan
  pub work : f.work ≡ work_of r.actors (firings_of j s) cost
  pub span : IsSpan r (firings_of j s) cost f.span
  pub bound : IsBound f.span f.work m f.bound
  pub columns : length f.loads ≡ m
  pub loads : (k : ℕ) → k < m → slice_index f.loads k ≡ load_of cost t.rows k
  pub held : f.held ≡ sum t.caps

-- the figures of a table of design d
abbrev pub AreFiguresOf : DesignValue → ℕ → ℕ → Schedule → TableValue → FiguresValue → Type 0
AreFiguresOf d j m s t f = AreFigures (rates_of d) (slice_index d.costs) j m s t f
