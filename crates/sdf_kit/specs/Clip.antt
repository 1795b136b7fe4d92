-- Samples between two limits.
use Rattle.std.specs.Prelude.{◌&&◌, ℤ, ◌≤ℤ◌, int_le, FitsSigned, [], ◌∷◌, Result, Ok}
use Rattle.std.specs.Int.{int_max, int_min, w16}
use Rattle.sdf_kit.specs.declared.fault.KitFault.{KitFault}
use Rattle.sdf_kinds.specs.declared.row.Kind.TheVariants as kinds
use Rattle.sdf_kinds.specs.declared.key.Key.TheVariants as keys
use Rattle.sdf_kit.specs.Fault.{has_16_bits, tested}
use Rattle.sdf_kit.specs.Samples.{sample}
use Rattle.sdf_kit.specs.Ports.{steady}
use Rattle.sdf_kit.specs.Behaviour.{Behaviour}

-- the least and the greatest sample that is put
pub record Limits : Type 0 where
  pub least : ℤ
  pub greatest : ℤ

-- a sample between the limits
unfoldable pub clipped : Limits → ℤ → ℤ
clipped c x = int_min (int_max x c.least) c.greatest

-- y[n] = x[n] between the limits
abbrev pub clip : Limits → Behaviour
clip c = record {
  ports = steady 1 1 1 1;
  kept = 0;
  next = λ kept taken. kept;
  puts = λ j kept taken. clipped c (sample taken 0) ∷ [];
  formula = λ x p n. clipped c (sample (x 0) n);
}

-- both limits have 16 bits and are in order
pub record AreLimits (c : Limits) : Type 0 where
  pub least : FitsSigned w16 c.least
  pub greatest : FitsSigned w16 c.greatest
  pub ordered : c.least ≤ℤ c.greatest

abbrev pub limits_of : ℤ → ℤ → Result Limits KitFault
limits_of least greatest =
    tested (has_16_bits least) kinds.Clip keys.Least
    (tested (has_16_bits greatest && int_le least greatest) kinds.Clip keys.Greatest
    (Ok (record { least = least; greatest = greatest })))
