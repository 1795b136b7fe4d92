-- Ways that are served in turn, and how many samples a turn has.
use Rattle.std.specs.Prelude.{ℕ, ◌≤◌, Result, Ok}
use Rattle.sdf_limits.specs.declared.TheConstants.{LEAST_WAYS, MAX_WAYS, MAX_RUN}
use Rattle.sdf_kit.specs.Factors.{AreWays}
use Rattle.sdf_kit.specs.declared.fault.KitFault.{KitFault}
use Rattle.sdf_kinds.specs.declared.row.Kind.{Kind}
use Rattle.sdf_kinds.specs.declared.key.Key.TheVariants as keys
use Rattle.sdf_kit.specs.Fault.{is_between, tested}

pub record Turns : Type 0 where
  pub ways : ℕ
  pub run : ℕ

-- the values of turns are within their limits
pub record AreTurns (t : Turns) : Type 0 where
  pub ways : AreWays t.ways
  pub run : (1 ≤ t.run) × (t.run ≤ MAX_RUN)

abbrev pub turns_of : Kind → ℕ → ℕ → Result Turns KitFault
turns_of kind ways run =
    tested (is_between LEAST_WAYS MAX_WAYS ways) kind keys.Ways
    (tested (is_between 1 MAX_RUN run) kind keys.Run
    (Ok (record { ways = ways; run = run })))
