-- The values of a low-pass.
use Rattle.std.specs.Prelude.{ℕ, ◌<◌, ◌≤◌, ◌*◌}
use Rattle.sdf_limits.specs.declared.TheConstants.{MAX_FACTOR, MAX_SHIFT}
use Rattle.sdf_filters.specs.declared.lowpass.TheConstants.{MAX_ATTENUATION}

-- the filter's rate in samples a second, the last Hz that pass, the first that are stopped, the attenuation in dB, and
-- the actor's `up` and `shift`
pub record LowpassValue : Type 0 where
  pub rate : ℕ
  pub pass : ℕ
  pub stop : ℕ
  pub attenuation : ℕ
  pub up : ℕ
  pub shift : ℕ

abbrev pub lowpass_value : ℕ → ℕ → ℕ → ℕ → ℕ → ℕ → LowpassValue
lowpass_value rate pass stop attenuation up shift = record {
  rate = rate;
  pass = pass;
  stop = stop;
  attenuation = attenuation;
  up = up;
  shift = shift;
}

-- the values of a low-pass are within their limits
pub record IsLowpassValue (f : LowpassValue) : Type 0 where
  pub up : (1 ≤ f.up) × (f.up ≤ MAX_FACTOR)
  pub shift : f.shift ≤ MAX_SHIFT
  pub attenuation : f.attenuation ≤ MAX_ATTENUATION
  pub band : f.pass < f.stop
  pub half : 2 * f.stop ≤ f.rate
