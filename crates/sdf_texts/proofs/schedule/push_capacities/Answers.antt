use Rattle.std.proofs.Common.{string_bytes}
use Rattle.sdf_texts.specs.Schedules.{capacity_line}
use Rattle.sdf_texts.proofs.Lines.{line_added}
use Rattle.sdf_texts.proofs.schedule.push_capacities.Goals as goal

pub loop-link-preserved : goal.loop-link-preserved
loop-link-preserved c =
    line_added (capacity_line c.args.design.now c.args.table.now.caps) c.loop-link.link (string_bytes c.args.text.now)
    (string_bytes c.loop-link.text) _
    c.loop-link.invariant c.in_ok-push_capacity.ensures
