-- The firings of a design's table can be drawn, and why there is none.
use Rattle.std.proofs.Common.{◌≡◌, ℕ, ◌<◌, ◌^◌, length, subst, sym, arith, refl}
use Rattle.sdf_sched.specs.Period.{Schedule}
use Rattle.sdf_prec.specs.declared.fault.PrecFault.{PrecFault}
use Rattle.sdf_prec.specs.declared.fault.PrecFault.TheVariants.{OutOfMemory}
use Rattle.sdf_prec.specs.Tables.{TableValue, IsTable}
use Rattle.sdf_file.specs.Designs.{DesignValue, IsDesign}
use Rattle.sdf_options.specs.declared.options.Options.{Options}
use Rattle.sdf_faults.specs.Faults.{of_prec}
use Rattle.sdf_plan.specs.Placements.{rates_of, firings_of}
use Rattle.sdf_plan.specs.Schedules.{IsDesignScheduleFault}
use Rattle.sdf_analyze.specs.Figures.{FiguresValue, AreFiguresOf}
use Rattle.sdf_draw.specs.Bars.{AreDrawable}
use Rattle.sdf_draw.proofs.Known.{known_firing}

pub drawable : (d : DesignValue) (j m : ℕ) (s : Schedule) (t : TableValue) (v : FiguresValue) → IsDesign d →
    IsTable (rates_of d) (firings_of j s) m t → AreFiguresOf d j m s t v → v.makespan < 2 ^ 64 →
    AreDrawable d m t v.starts
drawable d j m s t v whole table figures fits = record {
  wide = table.wide;
  each = λ f at. record {
    has = figures.has f at;
    known = let k : f.actor < length d.net.nodes = known_firing (rates_of d) (firings_of j s) t.rows f table.valid at in
        omega (arith, k, whole.priced.all);
    small = let low = figures.makespan.above _ (f, at, refl) in omega (arith, low, fits);
  };
}

-- that memory was refused is a fault of any schedule
pub memory_shows : (d : DesignValue) (o : Options) (e : PrecFault) → e ≡ OutOfMemory →
    IsDesignScheduleFault d o (of_prec e)
memory_shows d o e is = subst (λ e. IsDesignScheduleFault d o (of_prec e)) (sym is) tt
