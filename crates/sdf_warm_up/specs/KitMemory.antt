-- The memory of the kit's kinds of actor.
use Rattle.std.specs.Prelude.{ℕ}
use Rattle.std.specs.Int.{div_ceil}
use Rattle.sdf_kit.specs.Fir.{kept_len}
use Rattle.sdf_kit.specs.declared.kit.Kit.{Kit}
use Rattle.sdf_kit.specs.declared.kit.Kit.TheVariants.{Fir, Delay}

-- a filter remembers the firings in which it takes all inputs that it keeps, a delay `length` firings, all others none
abbrev pub memory_of : Kit → ℕ
memory_of (Fir f) = div_ceil (kept_len f) f.down
memory_of (Delay length) = length
memory_of x = 0
