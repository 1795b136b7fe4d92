-- The products of a firing.
use Rattle.std.specs.Prelude.{ℕ, ◌+◌, ◌*◌}
use Rattle.sdf_kit.specs.Fir.{kept_len}
use Rattle.sdf_kit.specs.declared.kit.Kit.{Kit}
use Rattle.sdf_kit.specs.declared.kit.Kit.TheVariants.{Fir}

-- for each sample that a filter puts, one more than the samples that it keeps
abbrev pub products_of : Kit → ℕ
products_of (Fir f) = f.up * (kept_len f + 1)
products_of kit = 0
