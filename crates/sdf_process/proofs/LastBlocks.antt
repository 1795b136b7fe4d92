-- The last blocks of a run. They make what is missing of its output, of the samples that are kept and zeros behind
-- them.
use Rattle.std.proofs.Common.{◌≡◌, ℕ, ◌+◌, ◌*◌, ◌≤◌, ◌<◌, ℤ, List, sym, ap, ◌∙◌, arith}
use Rattle.std.specs.Int.{div_ceil}
use Rattle.sdf_wav.specs.Device.{ReaderState, WriterState}
use Rattle.sdf_wav.specs.PiecesIn.{sound_read}
use Rattle.sdf_process.specs.declared.io_rates.IoRates.{IoRates}
use Rattle.sdf_process.specs.declared.flow.Flow.{Flow}
use Rattle.sdf_process.specs.declared.portion.Portion.{Portion}
use Rattle.sdf_process.specs.declared.runner.PieceRunner.{PieceRunner}
use Rattle.sdf_process.specs.declared.streaming.Stream.{Stream}
use Rattle.sdf_process.specs.Flows.{IsUnderWay, Progress, Start, Writes, io_rates_in, reading_in}
use Rattle.sdf_process.specs.Streams.{CanRunNext, Follows, Makes, RunsNext, left_by}
use Rattle.sdf_process.proofs.Ending.{last_short, single}
use Rattle.sdf_process.proofs.Steps.{blocks_missing, can_run_on}
use Rattle.sdf_process.proofs.Streamed.{kept_follows, writes_last}

module _ (b : Start) (g : Progress) (t : Stream) {r : ReaderState} {w w' : WriterState} (under : IsUnderWay b g t r w)
    (f : Flow) (writes : Writes b g t.flow f r w') (none : t.flow.left ≡ 0) (frames blocks : ℕ)
    (count : frames ≡ f.output.missing) (are : blocks ≡ div_ceil frames (t.blocking * t.io.made)) where
  pub all_taken : f.left ≡ 0
  all_taken = writes.left ∙ none

  -- they hold all frames that are missing, and none of them is too many
  pub just_enough : (f.output.missing ≤ blocks * (b.blocking * (io_rates_in b).made))
      × (blocks * (b.blocking * (io_rates_in b).made) < f.output.missing + b.blocking * (io_rates_in b).made)
  just_enough = blocks_missing b t under.ready f.output frames blocks count are

  pub few_periods : blocks * t.blocking ≤ 4294967295
  few_periods = omega (
    arith,
    last_short b under.ready.can g writes.flows all_taken blocks just_enough.0 just_enough.1,
    ap (λ z. blocks * z) under.ready.blocking,
  )

  module _ (y : Portion) (io : y.io ≡ t.io) (periods : y.periods ≡ blocks * t.blocking)
      (channels : y.input.now.channels ≡ t.channels) (samples : y.input.now.samples ≡ f.kept.items) where
    follows : Follows b.net b.period b.blocking (sound_read (reading_in b) g.samples) g.blocks blocks g.bytes
        (left_by t.runner) y
    follows = kept_follows b g (left_by t.runner) under.ahead.came under.left y blocks
        (periods ∙ ap (λ z. blocks * z) under.ready.blocking) (channels ∙ under.ready.channels)
        (samples ∙ (ap (λ (z : _). z.items) writes.kept ∙ under.kept))

    -- the runner can run them
    pub last_next : y.frames ≡ frames → CanRunNext t.runner y
    last_next is = record {
      net = b.net;
      period = b.period;
      blocking = b.blocking;
      goes = under.ready.goes;
      can = can_run_on b t under.ready y io;
      follows = (sound_read (reading_in b) g.samples, g.blocks, blocks, g.bytes, follows);
      all = writes_last b.net b.period b.blocking t.runner under.ready.goes (y.periods * y.io.made) y.frames
          (λ one. is ∙ (count ∙ (single b under.ready.can g writes.flows all_taken blocks just_enough.0
          just_enough.1 one
          ∙ (sym (ap (λ z. blocks * z * (io_rates_in b).made) under.ready.blocking)
          ∙ (sym (ap (λ (x : IoRates). blocks * t.blocking * x.made) (io ∙ under.ready.io))
          ∙ sym (ap (λ z. z * y.io.made) periods))))));
    }

    -- and makes what is missing
    pub last_made : (v : PieceRunner) (made : List (List ℤ)) → RunsNext t.runner v y made →
        Makes b.net b.period b.blocking (sound_read (reading_in b) g.samples) g.blocks blocks y.frames g.bytes made
        (left_by v)
    last_made v made runs = (runs b.net b.period b.blocking (sound_read (reading_in b) g.samples)
        g.blocks blocks g.bytes
        under.ready.goes (can_run_on b t under.ready y io) follows).0
