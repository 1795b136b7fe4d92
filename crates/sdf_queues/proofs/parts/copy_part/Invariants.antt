use Rattle.std.proofs.Common.{◌≡◌, ◌+◌, take, drop, slice_range}
use Rattle.sdf_queues.proofs.parts.copy_part.Given as goal

abbrev pub invariant-loop-i : goal.invariant-loop-i
invariant-loop-i g l = record {
  copied : slice_range l.to l.at (l.at + l.i) ≡ slice_range l.from l.start (l.start + l.i);
  before : take l.at l.to ≡ take l.at l.initial.to;
  behind : drop (l.at + l.width) l.to ≡ drop (l.at + l.width) l.initial.to;
}
