use Rattle.std.proofs.Common.{◌≡◌, ℕ, ◌+◌, ◌<◌, get_or, length, pos}
use Rattle.sdf_kit.specs.Window.{part_as}
use Rattle.sdf_kit.proofs.window.write.Given as goal

abbrev pub invariant-loop-i : goal.invariant-loop-i
invariant-loop-i l = record {
  len : length l.to ≡ length l.initial.to;
  written : (k : ℕ) → k < l.i → get_or l.to (l.at + k) (pos 0) ≡ part_as l.part (get_or l.from k (pos 0));
  before : (n : ℕ) → n < l.at → get_or l.to n (pos 0) ≡ get_or l.initial.to n (pos 0);
}
