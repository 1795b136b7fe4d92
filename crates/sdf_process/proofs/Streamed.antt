-- A run that reads and writes as it goes: its blocks, as the sound is read on.
use Rattle.std.proofs.Common.{◌≡◌, ℕ, ◌*◌, ◌≤◌, ℤ, List, ◌++◌, length, drop, Option, sym, ap, ◌∙◌, subst}
use Rattle.std.proofs.lemmas.List.{drop-append-le}
use Rattle.sdf_actor.specs.declared.net_state.NetState.{NetState}
use Rattle.sdf_actor.specs.Nets.{Netlist}
use Rattle.sdf_queues.specs.RunResults.{periods_of as firings}
use Rattle.sdf_queues.specs.Feeds.{HasRun}
use Rattle.sdf_kit.specs.declared.kit.Kit.{Kit}
use Rattle.sdf_kit.specs.Kit.{kit_steps}
use Rattle.sdf_sched.specs.Period.{Schedule}
use Rattle.sdf_wav.specs.PiecesIn.{ContentInValue, sound_read}
use Rattle.sdf_process.specs.Flows.{CameTo, Progress, Start, io_rates_in, reading_in, samples_run}
use Rattle.sdf_process.specs.Output.{io_rates_of}
use Rattle.sdf_process.specs.declared.portion.Portion.{Portion}
use Rattle.sdf_process.specs.declared.runner.PieceRunner.{PieceRunner}
use Rattle.sdf_process.specs.declared.runner.PieceRunner.TheVariants as runner
use Rattle.sdf_process.specs.Streams.{Follows, GoesBy, StandsAt, StandsWhole, WritesOf}
use Rattle.sdf_process.proofs.Parts.{lists_behind, lists_stay}

-- ---- what a run stands after, as the sound is read on

-- more samples change nothing of it
pub stands_on : (n : Netlist Kit ℤ) (p : Schedule) (j : ℕ) (c : ContentInValue) (xs ys : List ℤ) (blocks frames : ℕ)
    (bytes : List ℕ) (v : Option (NetState ℤ (List ℤ))) →
    (io_rates_of n p.repetitions).inputs ≤ c.channels →
    blocks * j * (io_rates_of n p.repetitions).taken * c.channels ≤ length xs →
    StandsAt n p j (sound_read c xs) blocks frames bytes v →
    StandsAt n p j (sound_read c (xs ++ ys)) blocks frames bytes v
stands_on n p j c xs ys blocks frames bytes v lower there at = record {
  made = at.made;
  rest = at.rest;
  held = at.held;
  run = subst (λ (l : List (List ℤ)). HasRun kit_steps n l (firings p.repetitions (blocks * j)) at.made at.rest)
      (sym (lists_stay (blocks * j) (io_rates_of n p.repetitions) c xs ys lower there)) at.run;
  bytes_are = at.bytes_are;
}

-- what is kept behind the blocks is so still
pub kept_on : (k : ℕ) (xs ys kept : List ℤ) → k ≤ length xs → kept ≡ drop k xs → kept ++ ys ≡ drop k (xs ++ ys)
kept_on k xs ys kept there is = ap (λ (l : List ℤ). l ++ ys) is ∙ sym (drop-append-le k xs ys there)

-- ---- a portion of what is kept

-- it follows what was run before
pub kept_follows : (b : Start) (g : Progress) (v : Option (NetState ℤ (List ℤ))) → CameTo b g → v ≡ g.left →
    (y : Portion) →
    (blocks : ℕ) → y.periods ≡ blocks * b.blocking → y.input.now.channels ≡ (reading_in b).channels →
    y.input.now.samples ≡ drop (samples_run b g.blocks) g.samples →
    Follows b.net b.period b.blocking (sound_read (reading_in b) g.samples) g.blocks blocks g.bytes v y
kept_follows b g v came same y blocks periods channels is = record {
  stands = subst (StandsWhole b.net b.period b.blocking (sound_read (reading_in b) g.samples) g.blocks g.bytes)
      (sym same) came.stands;
  periods = periods;
  lists = lists_behind (g.blocks * b.blocking) y.periods (io_rates_in b) (sound_read (reading_in b) g.samples)
      y.input.now channels is;
}

-- whole blocks are run whole, by a session as by a player
pub writes_whole : (v : PieceRunner) (made frames : ℕ) → frames ≡ made → WritesOf v made frames
writes_whole (runner.Session v) made frames is = tt
writes_whole (runner.Player v) made frames is = is

-- and so are the last ones, if blocks are single periods
pub writes_last : (n : Netlist Kit ℤ) (p : Schedule) (j : ℕ) (v : PieceRunner) → GoesBy n p j v → (made missing : ℕ) →
    (j ≡ 1 → missing ≡ made) → WritesOf v made missing
writes_last n p j (runner.Session v) goes made missing is = tt
writes_last n p j (runner.Player v) goes made missing is = is goes.single
