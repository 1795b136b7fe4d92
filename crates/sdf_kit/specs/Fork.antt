-- One sample on several ways.
use Rattle.std.specs.Prelude.{ℕ, replicate}
use Rattle.sdf_kit.specs.Samples.{sample}
use Rattle.sdf_kit.specs.Ports.{steady}
use Rattle.sdf_kit.specs.Behaviour.{Behaviour}

-- each port's y[n] = x[n]
abbrev pub fork : ℕ → Behaviour
fork ways = record {
  ports = steady 1 1 ways 1;
  kept = 0;
  next = λ kept taken. kept;
  puts = λ j kept taken. replicate ways (sample taken 0);
  formula = λ x p n. sample (x 0) n;
}
