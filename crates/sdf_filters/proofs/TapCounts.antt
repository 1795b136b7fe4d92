-- The number of a filter's taps.
use Rattle.std.proofs.Common.{◌≤◌, ℤ, List, length, arith}
use Rattle.sdf_limits.specs.declared.TheConstants.{MAX_TAPS}
use Rattle.sdf_filters.specs.declared.filter_spec.FilterSpec.{FilterSpec}
use Rattle.sdf_filters.specs.declared.filter_spec.Band.{Band}
use Rattle.sdf_filters.specs.declared.filter_spec.Band.TheVariants.{Low, High, Middle}
use Rattle.sdf_filters.specs.FilterSpecs.{AreTaps, AreTapsOf}

few_taps_of : (w : FilterSpec) (b : Band) (h : List ℤ) → AreTapsOf w b h → length h ≤ MAX_TAPS
few_taps_of w (Low pass stop) h are = omega (arith, are.taps.all, are.is_count.few)
few_taps_of w (High stop pass) h are = omega (arith, are.taps.all, are.few)
few_taps_of w (Middle low_stop low_pass pass stop) h are = omega (arith, are.taps.all, are.is_count.few)

pub few_taps : (w : FilterSpec) (h : List ℤ) → AreTaps w h → length h ≤ MAX_TAPS
few_taps w h are = few_taps_of w w.band h are.taps
