-- The taps of a filter that is specified in plain numbers, and why there are none.
use Rattle.std.specs.Prelude.{◌≡◌, ℕ, ◌*◌, ◌%◌, ◌≤◌, ◌⊎◌, ◌==◌, nat_lt, nat_le, ℤ, List, Result, Ok, Err}
use Rattle.std.specs.Result.{result_and}
use Rattle.sdf_limits.specs.declared.TheConstants.{MAX_TAPS}
use Rattle.sdf_filters.specs.declared.fault.FilterFault.{FilterFault}
use Rattle.sdf_filters.specs.declared.fault.FilterFault.TheVariants.{StopNotBelowPass, PassOverHalf, NothingPasses}
use Rattle.sdf_filters.specs.declared.fault.FilterFault.TheVariants.{LowStopNotBelowLowPass, UpOfHighpass}
use Rattle.sdf_filters.specs.declared.filter_spec.Band.{Band}
use Rattle.sdf_filters.specs.declared.filter_spec.Band.TheVariants.{Low, High, Middle}
use Rattle.sdf_filters.specs.declared.filter_spec.FilterSpec.{FilterSpec}
use Rattle.sdf_filters.specs.LowpassValue.{LowpassValue, lowpass_value}
use Rattle.sdf_filters.specs.Lowpass.{tested, lowpass_of, IsCount, IsCountFault, IsTapFault, AreLowpassTaps}
use Rattle.sdf_filters.specs.Differences.{AreHighpassTaps, AreBandpassTaps}

-- the low-pass between these frequencies
abbrev pub low : FilterSpec → ℕ → ℕ → LowpassValue
low w pass stop = lowpass_value w.rate pass stop w.attenuation w.up w.shift

-- the taps of a low-pass
pub record AreLowTaps (f : LowpassValue) (h : List ℤ) : Type 0 where
  pub count : ℕ
  pub is_count : IsCount f.up count
  pub taps : AreLowpassTaps f count h

-- the taps of the high-pass that passes what a low-pass stops
pub record AreHighTaps (f : LowpassValue) (h : List ℤ) : Type 0 where
  pub count : ℕ
  pub few : count ≤ MAX_TAPS
  pub odd : count % 2 ≡ 1
  pub taps : AreHighpassTaps f count h

-- the taps of the band-pass that passes what only the first of two low-passes does
pub record AreMiddleTaps (f g : LowpassValue) (h : List ℤ) : Type 0 where
  pub count : ℕ
  pub is_count : IsCount f.up count
  pub taps : AreBandpassTaps f g count h

-- the taps of a filter
abbrev pub AreTapsOf : FilterSpec → Band → List ℤ → Type 0
AreTapsOf w (Low pass stop) h = AreLowTaps (low w pass stop) h
AreTapsOf w (High stop pass) h = AreHighTaps (low w stop pass) h
AreTapsOf w (Middle low_stop low_pass pass stop) h = AreMiddleTaps (low w pass stop) (low w low_stop low_pass) h

-- the tests of a high-pass in addition to its low-pass's: the first fault, if there is one
abbrev pub high_tests : FilterSpec → ℕ → ℕ → Result (Unit {0}) FilterFault
high_tests w stop pass =
    tested (nat_lt stop pass) (StopNotBelowPass stop pass)
    (tested (nat_le (2 * pass) w.rate) (PassOverHalf pass w.rate)
    (tested (w.up == 1) (UpOfHighpass w.up) (Ok tt)))

-- the tests of a band-pass in addition to its low-passes': the first fault, if there is one
abbrev pub middle_tests : ℕ → ℕ → ℕ → Result (Unit {0}) FilterFault
middle_tests low_stop low_pass pass =
    tested (nat_lt low_stop low_pass) (LowStopNotBelowLowPass low_stop low_pass)
    (tested (nat_lt low_pass pass) (NothingPasses low_pass pass) (Ok tt))

-- the tests of the low-pass between these frequencies: the first fault, if there is one
abbrev pub low_tests : FilterSpec → ℕ → ℕ → Result (Unit {0}) FilterFault
low_tests w pass stop = result_and (lowpass_of (low w pass stop)) (Ok tt)

-- the tests of a filter in their order: the first fault, if there is one
abbrev pub tests_of : FilterSpec → Band → Result (Unit {0}) FilterFault
tests_of w (Low pass stop) = low_tests w pass stop
tests_of w (High stop pass) = result_and (high_tests w stop pass) (low_tests w stop pass)
tests_of w (Middle low_stop low_pass pass stop) =
    result_and (middle_tests low_stop low_pass pass)
    (result_and (low_tests w pass stop) (low_tests w low_stop low_pass))

-- each test of the filter passed, and these are its taps
pub record AreTaps (w : FilterSpec) (h : List ℤ) : Type 0 where
  pub passed : tests_of w w.band ≡ Ok tt
  pub taps : AreTapsOf w w.band h

-- why there are no taps: the first test that fails, or if all passed, too many taps, too large ones, or no memory
abbrev pub IsFault : FilterSpec → FilterFault → Type 0
IsFault w fault =
    (tests_of w w.band ≡ Err fault) ⊎ ((tests_of w w.band ≡ Ok tt) × (IsCountFault fault ⊎ IsTapFault fault))
