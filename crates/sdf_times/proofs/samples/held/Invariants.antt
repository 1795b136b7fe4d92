use Rattle.std.proofs.Common.{◌≡◌, ◌+◌, ◌*◌, ◌≤◌, sum, take}
use Rattle.sdf_limits.specs.declared.TheConstants.{MAX_INITIAL, MAX_RATE, MAX_BLOCK}
use Rattle.sdf_times.proofs.samples.held.Given as goal

abbrev pub invariant-loop-channel : goal.invariant-loop-channel
invariant-loop-channel l = record {
  held : l.held ≡ sum (take l.channel l.table.caps);
  small : l.held ≤ (MAX_INITIAL + MAX_RATE * MAX_BLOCK) * l.channel;
}
