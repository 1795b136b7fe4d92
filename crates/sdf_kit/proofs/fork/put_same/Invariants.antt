use Rattle.std.proofs.Common.{◌≡◌, ℕ, ◌+◌, ◌<◌, length}
use Rattle.sdf_kit.specs.Samples.{sample}
use Rattle.sdf_kit.proofs.fork.put_same.Given as goal

abbrev pub invariant-loop-k : goal.invariant-loop-k
invariant-loop-k l = record {
  len : length l.to ≡ length l.initial.to;
  put : (k : ℕ) → k < l.k → sample l.to (l.at + k) ≡ l.sample;
  before : (n : ℕ) → n < l.at → sample l.to n ≡ sample l.initial.to n;
}
