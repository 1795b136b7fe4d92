-- Options that give a design the same table, whatever their policy.
use Rattle.std.specs.Prelude.{◌≡◌, ◌≢◌}
use Rattle.sdf_options.specs.declared.options.Options.{Options}
use Rattle.sdf_options.specs.declared.options.Placement.TheVariants.{File}

-- only their policies may differ, and their placement depends on how often an actor fires in a period, and not on the
-- order
pub record ShareTable (o other : Options) : Type 0 where
  pub placement : o.placement ≢ File
  pub same : other ≡ record o { policy = other.policy }
