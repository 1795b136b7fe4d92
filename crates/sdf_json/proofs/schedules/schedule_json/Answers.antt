use Rattle.std.proofs.Common.{◌≤◌, subst, sym}
use Rattle.serde_json.specs.Data.{depth}
use Rattle.serde_json.specs.Read.{max_depth}
use Rattle.sdf_json.proofs.FlatSchedules.{schedule_flat}
use Rattle.sdf_json.proofs.schedules.schedule_json.Goals as goal

pub line_of-requires : goal.line_of-requires
line_of-requires c =
    subst (λ v. depth v ≤ max_depth) (sym c.in_ok-value.ensures)
    (schedule_flat c.args.design.now (record c.args.options.now { blocking = c.in_ok-period.field-0.block.blocking })
    c.in_ok-period.field-0.period c.in_ok-period.field-0.block.table)
