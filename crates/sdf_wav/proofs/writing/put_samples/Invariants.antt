use Rattle.std.proofs.Common.{◌≡◌, ◌≤◌, ◌-◌, length, take}
use Rattle.std.specs.Io.KnownBytes.{Appends}
use Rattle.sdf_wav.specs.Canonical.{sample_bytes}
use Rattle.sdf_wav.proofs.writing.put_samples.Given as goal

abbrev pub invariant-loop-at : goal.invariant-loop-at
invariant-loop-at g l = record {
  within : l.at ≤ length l.samples;
  written : Appends (g.W.Writer.state l.initial.writer).contents (g.W.Writer.state l.writer).contents
      (sample_bytes (take l.at l.samples));
  counted : (g.W.Writer.state l.writer).failures ≡ (g.W.Writer.state l.initial.writer).failures;
}

abbrev pub decreases-loop-at : goal.decreases-loop-at
decreases-loop-at g l = length l.samples - l.at
