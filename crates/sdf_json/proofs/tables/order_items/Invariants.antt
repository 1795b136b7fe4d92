use Rattle.std.proofs.Common.{◌≡◌, ◌++◌, ◌-◌, ◌≤◌, drop, map, length}
use Rattle.serde_json.specs.View.{view}
use Rattle.sdf_texts.specs.Schedules.{stretches}
use Rattle.sdf_json.specs.Tables.{stretch_value}
use Rattle.sdf_json.proofs.tables.order_items.Given as goal

abbrev pub invariant-loop-at : goal.invariant-loop-at
invariant-loop-at l = record {
  within : l.at ≤ length l.order;
  left : map view l.list.items ++ map (stretch_value l.design) (stretches (drop l.at l.order)) ≡
      map (stretch_value l.design) (stretches l.order);
}

abbrev pub decreases-loop-at : goal.decreases-loop-at
decreases-loop-at l = length l.order - l.at
