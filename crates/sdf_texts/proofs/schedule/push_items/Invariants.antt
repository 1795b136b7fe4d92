use Rattle.std.proofs.Common.{◌≡◌, ◌++◌, ◌-◌, ◌≤◌, drop, length, string_bytes}
use Rattle.sdf_texts.specs.Schedules.{order_items}
use Rattle.sdf_texts.proofs.schedule.push_items.Given as goal

abbrev pub invariant-loop-at : goal.invariant-loop-at
invariant-loop-at l = record {
  within : l.at ≤ length l.order;
  left : string_bytes l.text ++ order_items l.design (drop l.at l.order) ≡
      string_bytes l.initial.text ++ order_items l.design l.order;
}

abbrev pub decreases-loop-at : goal.decreases-loop-at
decreases-loop-at l = length l.order - l.at
