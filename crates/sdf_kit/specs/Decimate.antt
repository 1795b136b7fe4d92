-- One sample of every few.
use Rattle.std.specs.Prelude.{ℕ, ◌*◌, [], ◌∷◌}
use Rattle.sdf_kit.specs.Samples.{sample}
use Rattle.sdf_kit.specs.Ports.{steady}
use Rattle.sdf_kit.specs.Behaviour.{Behaviour}

-- y[n] = x[n * factor]
abbrev pub decimate : ℕ → Behaviour
decimate factor = record {
  ports = steady 1 factor 1 1;
  kept = 0;
  next = λ kept taken. kept;
  puts = λ j kept taken. sample taken 0 ∷ [];
  formula = λ x p n. sample (x 0) (n * factor);
}
