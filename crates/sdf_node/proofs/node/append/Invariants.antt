use Rattle.std.proofs.Common.{◌≡◌, ◌++◌, ◌+◌, vec_len, vec_capacity, take}
use Rattle.sdf_node.proofs.node.append.Given as goal

abbrev pub invariant-loop-sample : goal.invariant-loop-sample
invariant-loop-sample g l = record {
  items : l.longer.items ≡ l.initial.longer.items ++ take l.sample-index l.block;
  len : vec_len l.longer ≡ vec_len l.initial.longer + l.sample-index;
  capacity : vec_capacity l.longer ≡ vec_capacity l.initial.longer;
}
