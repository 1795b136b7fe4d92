-- Zeros after each sample.
use Rattle.std.specs.Prelude.{ℕ, map}
use Rattle.std.specs.List.{range_with_len}
use Rattle.sdf_kit.specs.Samples.{upsampled}
use Rattle.sdf_kit.specs.Ports.{steady}
use Rattle.sdf_kit.specs.Behaviour.{Behaviour}

-- y[n] = x[n / factor] if factor divides n, otherwise 0
abbrev pub interpolate : ℕ → Behaviour
interpolate factor = record {
  ports = steady 1 1 1 factor;
  kept = 0;
  next = λ kept taken. kept;
  puts = λ j kept taken. map (upsampled factor taken) (range_with_len 0 factor);
  formula = λ x p n. upsampled factor (x 0) n;
}
