-- The texts that are printed of a filter.
use Rattle.std.specs.Prelude.{◌≡◌, ◌==◌, ℕ, ◌/◌, ◌%◌, ◌≤◌, ℤ, List, [], ◌∷◌, ◌++◌, length, codes, decimal}
use Rattle.std.specs.Prelude.{if◌then◌else◌}
use Rattle.sdf_limits.specs.declared.TheConstants.{MAX_TAPS}
use Rattle.sdf_filters.specs.declared.measure.Measured.{Measured}
use Rattle.sdf_filters.specs.declared.filter_spec.Band.{Band}
use Rattle.sdf_filters.specs.declared.filter_spec.Band.TheVariants.{Low, High, Middle}
use Rattle.sdf_filters.specs.declared.filter_spec.FilterSpec.{FilterSpec}
use Rattle.sdf_filters.specs.Coefficients.{coefficient_text}
use Rattle.sdf_filters.specs.FilterSpecs.{AreTaps}

-- a line feed
abbrev pub end : List ℕ
end = 10 ∷ []

-- the kind of a filter and the edges of its bands
abbrev pub band_text : Band → List ℕ
band_text (Low pass stop) = codes "low-pass " ++ decimal pass ++ codes ".." ++ decimal stop
band_text (High stop pass) = codes "high-pass " ++ decimal stop ++ codes ".." ++ decimal pass
band_text (Middle low_stop low_pass pass stop) =
    codes "band-pass " ++ decimal low_stop ++ codes ".." ++ decimal low_pass ++ codes ".." ++ decimal pass
    ++ codes ".." ++ decimal stop

-- the first line of a coefficient file
unfoldable pub head_text : FilterSpec → List ℕ
head_text w =
    codes "# fir up " ++ decimal w.up ++ codes " shift " ++ decimal w.shift ++ codes ", " ++ band_text w.band
    ++ codes " Hz at " ++ decimal w.rate ++ codes " Hz, " ++ decimal w.attenuation ++ codes " dB" ++ end

-- n ten-thousandths, with four digits after the point
abbrev pub with_places : ℕ → List ℕ
with_places n =
    decimal (n / 10000) ++ codes "." ++ decimal (n / 1000 % 10) ++ decimal (n / 100 % 10) ++ decimal (n / 10 % 10)
    ++ decimal (n % 10)

-- n tenths, with one digit after the point
abbrev pub with_place : ℕ → List ℕ
with_place n = decimal (n / 10) ++ codes "." ++ decimal (n % 10)

-- the number of taps, `1 tap` or `N taps`, and the name of the first measure
abbrev pub counted_taps : ℕ → List ℕ
counted_taps count =
    if count == 1 then codes "1 tap: passband ripple " else decimal count ++ codes " taps: passband ripple "

-- the number of taps, and their measures
unfoldable pub summary_text : ℕ → Measured → List ℕ
summary_text count m =
    counted_taps count ++ with_places m.ripple ++ codes " dB, stopband attenuation "
    ++ with_place m.attenuation ++ codes " dB" ++ end

-- the coefficient file of the filter's taps, the line with their measures, which may be any numbers, and their number
pub record AreFilterTexts (w : FilterSpec) (file summary : List ℕ) (count : ℕ) : Type 0 where
  pub taps : List ℤ
  pub are : AreTaps w taps
  pub count_is : count ≡ length taps
  pub few : count ≤ MAX_TAPS
  pub file_is : file ≡ head_text w ++ coefficient_text taps
  pub measures : Measured
  pub summary_is : summary ≡ summary_text (length taps) measures
