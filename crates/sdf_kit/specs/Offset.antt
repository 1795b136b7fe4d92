-- Samples plus a value.
use Rattle.std.specs.Prelude.{ℤ, ◌+ℤ◌, FitsSigned, [], ◌∷◌, Result, Ok}
use Rattle.std.specs.Int.{w16}
use Rattle.sdf_kit.specs.declared.fault.KitFault.{KitFault}
use Rattle.sdf_kinds.specs.declared.row.Kind.TheVariants as kinds
use Rattle.sdf_kinds.specs.declared.key.Key.TheVariants as keys
use Rattle.sdf_kit.specs.Fault.{has_16_bits, tested}
use Rattle.sdf_kit.specs.Samples.{sample, saturated}
use Rattle.sdf_kit.specs.Ports.{steady}
use Rattle.sdf_kit.specs.Behaviour.{Behaviour}

-- a sample plus a value, clamped
abbrev pub raised : ℤ → ℤ → ℤ
raised value x = saturated (x +ℤ value)

-- y[n] = x[n] plus the value
abbrev pub offset : ℤ → Behaviour
offset value = record {
  ports = steady 1 1 1 1;
  kept = 0;
  next = λ kept taken. kept;
  puts = λ j kept taken. raised value (sample taken 0) ∷ [];
  formula = λ x p n. raised value (sample (x 0) n);
}

-- the value of an offset is within its limits
abbrev pub IsOffset : ℤ → Type 0
IsOffset value = FitsSigned w16 value

abbrev pub value_of : ℤ → Result ℤ KitFault
value_of value = tested (has_16_bits value) kinds.Offset keys.Value (Ok value)
