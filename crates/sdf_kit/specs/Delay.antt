-- Delayed samples.
use Rattle.std.specs.Prelude.{ℕ, ◌-◌, ◌≤◌, nat_lt, nat_le, cond, pos, ◌++◌, take, Result, Ok}
use Rattle.sdf_limits.specs.declared.TheConstants.{MAX_DELAY}
use Rattle.sdf_kit.specs.declared.fault.KitFault.{KitFault}
use Rattle.sdf_kinds.specs.declared.row.Kind.TheVariants as kinds
use Rattle.sdf_kinds.specs.declared.key.Key.TheVariants as keys
use Rattle.sdf_kit.specs.Fault.{tested}
use Rattle.sdf_kit.specs.Samples.{sample}
use Rattle.sdf_kit.specs.Ports.{steady}
use Rattle.sdf_kit.specs.Behaviour.{Behaviour}
use Rattle.sdf_kit.specs.Kept.{kept_next}

-- y[n] = x[n - length], and 0 before
abbrev pub delay : ℕ → Behaviour
delay length = record {
  ports = steady 1 1 1 1;
  kept = length;
  next = kept_next;
  puts = λ j kept taken. take 1 (kept ++ taken);
  formula = λ x p n. cond (nat_lt n length) (pos 0) (sample (x 0) (n - length));
}

-- the length of a delay is within its limits
abbrev pub IsDelay : ℕ → Type 0
IsDelay length = length ≤ MAX_DELAY

abbrev pub length_of : ℕ → Result ℕ KitFault
length_of length = tested (nat_le length MAX_DELAY) kinds.Delay keys.Length (Ok length)
