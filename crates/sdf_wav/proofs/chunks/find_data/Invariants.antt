use Rattle.std.proofs.Common.{◌≡◌, ◌-◌, None}
use Rattle.sdf_wav.specs.Device.{Known, LosesFront}
use Rattle.sdf_wav.specs.Format.{IsKnown}
use Rattle.sdf_wav.specs.Steps.{data_at}
use Rattle.sdf_wav.proofs.chunks.find_data.Given as goal

abbrev pub invariant-loop : goal.invariant-loop
invariant-loop g l = record {
  read : Known (g.R.Reader.state l.initial.reader).remaining (g.R.Reader.state l.reader).remaining
      (λ input left. (data_at 65536 None input ≡ data_at (65536 - l.counter) l.seen left) × LosesFront input left);
  known : IsKnown l.seen;
  counted : (g.R.Reader.state l.reader).failures ≡ (g.R.Reader.state l.initial.reader).failures;
}
