use Rattle.std.proofs.Common.{◌≡◌, ℕ, ◌+◌, ◌*◌, ◌<◌, length, get_or, pos}
use Rattle.sdf_kit.specs.Branches.{branch_output}
use Rattle.sdf_kit.proofs.polyphase.put_branches.Given as goal

abbrev pub invariant-loop-j : goal.invariant-loop-j
invariant-loop-j l = record {
  len : length l.put ≡ l.firings.many * l.firings.up;
  done : (j i : ℕ) → j < l.j → i < l.firings.many → get_or l.put (j + i * l.firings.up) (pos 0) ≡
      branch_output l.branches l.firings.up l.firings.down l.firings.shift l.window.samples (i * l.firings.up + j);
}
