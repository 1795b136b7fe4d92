use Rattle.std.proofs.Common.{◌≡◌, ◌-◌, ◌≤◌, take, vec_len, vec_capacity}
use Rattle.sdf_queues.proofs.queue.lengthen.Given as goal

abbrev pub invariant-loop-filler : goal.invariant-loop-filler
invariant-loop-filler g l = record {
  front : take (vec_len l.initial.list) l.list.items ≡ l.initial.list.items;
  more : vec_len l.initial.list ≤ vec_len l.list;
  capacity : vec_capacity l.list ≡ vec_capacity l.initial.list;
}

abbrev pub decreases-loop-filler : goal.decreases-loop-filler
decreases-loop-filler g l = l.len - vec_len l.list
