use Rattle.std.proofs.Common.{◌≤◌, subst, sym}
use Rattle.serde_json.specs.Data.{depth}
use Rattle.serde_json.specs.Read.{max_depth}
use Rattle.sdf_json.proofs.FlatSchedules.{comparison_flat}
use Rattle.sdf_json.proofs.comparisons.comparison_json.Goals as goal

pub line_of-requires : goal.line_of-requires
line_of-requires c =
    subst (λ v. depth v ≤ max_depth) (sym c.in_ok-value.ensures) (comparison_flat c.deref.result.now)
