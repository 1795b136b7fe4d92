-- Sums of several ways.
use Rattle.std.specs.Prelude.{ℕ, ◌+◌, ◌*◌, ℤ, List, [], ◌∷◌}
use Rattle.sdf_kit.specs.Samples.{sample, saturated, sum_below}
use Rattle.sdf_kit.specs.Ports.{steady}
use Rattle.sdf_kit.specs.Behaviour.{Behaviour}

-- y[n] = the sum of the ports' x[n], clamped
abbrev pub add : ℕ → Behaviour
add ways = record {
  ports = steady ways 1 1 1;
  kept = 0;
  next = λ kept taken. kept;
  puts = λ j kept taken. saturated (sum_below ways (sample taken)) ∷ [];
  formula = λ x p n. saturated (sum_below ways (λ q. sample (x q) n));
}

-- the sum of firing n, if the blocks of firings follow one another
abbrev pub sum_at : ℕ → List ℤ → ℕ → ℤ
sum_at ways xs n = saturated (sum_below ways (λ q. sample xs (n * ways + q)))
