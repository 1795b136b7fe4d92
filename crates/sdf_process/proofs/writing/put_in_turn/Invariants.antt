use Rattle.std.proofs.Common.{◌≡◌, ◌-◌, ◌*◌, ℕ, length, take}
use Rattle.std.specs.Io.KnownBytes.{Appends}
use Rattle.sdf_actor.specs.Wires.{lists as items_of}
use Rattle.sdf_wav.specs.Canonical.{sample_bytes}
use Rattle.sdf_process.specs.Output.{in_turn}
use Rattle.sdf_process.proofs.writing.put_in_turn.Given as goal

abbrev pub invariant-loop-list : goal.invariant-loop-list
invariant-loop-list g l = record {
  written : Appends (g.W.Writer.state l.initial.writer).contents (g.W.Writer.state l.writer).contents
      (sample_bytes (in_turn (take l.list-index (items_of l.parts))));
  counted : (g.W.Writer.state l.writer).failures ≡ (g.W.Writer.state l.initial.writer).failures;
  owed : (frames : ℕ) × (length (in_turn (take l.list-index (items_of l.parts))) ≡ frames * l.initial.output.channels)
      × (l.output ≡ record l.initial.output { missing = l.initial.output.missing - frames });
}
