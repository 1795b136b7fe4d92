-- What a run knows that takes and writes as it goes, before its first piece and between two.
use Rattle.std.proofs.Common.{◌≡◌, ◌≢◌, ◌⊎◌, inl, inr, Err, ℕ, ◌-◌, ◌*◌, ◌/◌, ◌%◌, ◌≤◌, ◌<◌, ℤ, List, []}
use Rattle.std.proofs.Common.{length, map, take, Option, Some, None, refl, sym, ap, ◌∙◌, subst, arith}
use Rattle.std.proofs.Math.Nat.{div-mul-le_self, mod-eq-sub-div-mul}
use Rattle.std.proofs.lemmas.Bool.{cases_lt, lt-ltb}
use Rattle.std.proofs.lemmas.Nat.{le-div}
use Rattle.sdf_actor.specs.declared.net_state.NetState.{NetState}
use Rattle.sdf_actor.specs.Nets.{Netlist}
use Rattle.sdf_queues.specs.RunResults.{AreOutputs, periods_of as firings}
use Rattle.sdf_queues.specs.Laws.{RunsGoOn}
use Rattle.sdf_queues.specs.Periods.{HasPeriod}
use Rattle.sdf_kit.specs.declared.kit.Kit.{Kit}
use Rattle.sdf_kit.specs.Kit.{kit_steps}
use Rattle.sdf_sched.specs.Period.{Schedule}
use Rattle.sdf_wav.specs.Device.{ReaderState, WriterState}
use Rattle.sdf_wav.specs.Canonical.{sample_bytes}
use Rattle.sdf_wav.specs.PiecesIn.{ContentInValue, IsReading, IsWithin, sound_read}
use Rattle.sdf_wav.specs.Sound.{Sound}
use Rattle.sdf_process.specs.declared.io_rates.StreamInfo.{StreamInfo}
use Rattle.sdf_process.specs.declared.io_rates.IoRates.{IoRates}
use Rattle.sdf_faults.specs.declared.fault.Fault.{Fault}
use Rattle.sdf_faults.specs.declared.fault.Fault.TheVariants.{ChannelsMissing, OutOfMemory}
use Rattle.sdf_process.specs.declared.source.Source.{Source}
use Rattle.sdf_process.specs.Output.{info_fault, io_rates_of, interleaved, lists_to}
use Rattle.sdf_process.specs.Sources.{TakesAll}
use Rattle.sdf_process.specs.Streams.{IsStream, StandsAt, StandsWhole, Streams}
use Rattle.sdf_process.proofs.Pieced.{outputs_of}
use Rattle.sdf_process.proofs.Pieces.{appends_none}
use Rattle.sdf_process.proofs.Rendering.{are_inputs, begin, interleaved_cut}
use Rattle.sdf_process.proofs.Outcomes.{keeps_same}
use Rattle.sdf_process.proofs.Taken.{takes_none, takes_refused}

-- ---- what was written of the frames of a sound

module _ (runs : RunsGoOn kit_steps) (n : Netlist Kit ℤ) (p : Schedule) (has : HasPeriod kit_steps n p) (j : ℕ) where
  abbrev io : IoRates
  io = io_rates_of n p.repetitions

  -- the frames of some periods are those of a run of these periods
  pub stood : (s : Sound) (blocks frames periods : ℕ) (bytes : List ℕ) (v : Option (NetState ℤ (List ℤ))) →
      StandsAt n p j s blocks frames bytes v → periods ≤ blocks * j → frames ≡ periods * io.made →
      (lists : List (List ℤ)) × AreOutputs kit_steps n (lists_to periods io s) (firings p.repetitions periods)
      lists × (bytes ≡ sample_bytes (interleaved (periods * io.made) lists))
  stood s blocks frames periods bytes v at less same = (
    map (take (periods * io.made)) at.made,
    runs n p periods (blocks * j) (lists_to periods io s) (lists_to (blocks * j) io s) at.made has less
        (are_inputs n p.repetitions s periods) (begin periods (blocks * j) io s less)
        (outputs_of n (lists_to (blocks * j) io s) (firings p.repetitions (blocks * j)) at.made at.rest at.run),
    at.bytes_are ∙ (ap (λ (k : ℕ). sample_bytes (interleaved k at.made)) same
        ∙ ap sample_bytes (sym (interleaved_cut at.made (periods * io.made)))),
  )

  -- so far the run came
  pub came_to : (c : ContentInValue) (samples : List ℤ) (blocks : ℕ) (bytes : List ℕ)
      (v : Option (NetState ℤ (List ℤ))) →
      2 * length samples ≤ c.size → 0 < c.channels → blocks * j * io.taken * c.channels ≤ length samples →
      StandsWhole n p j (sound_read c samples) blocks bytes v → IsStream n p.repetitions c samples (blocks * j) bytes
  came_to c samples blocks bytes v within one there at = record {
    within = within;
    are_read = inl (le-div (blocks * j * io.taken) (length samples) c.channels one there);
    are_frames = inr (stood (sound_read c samples) blocks (blocks * j * io.made) (blocks * j) bytes v at
        (omega arith) refl);
  }

-- ---- the stream info

-- the output of a sound with this stream info reads channels that are there
pub allowed_lower : (x : IoRates) (a : StreamInfo) → info_fault x a ≡ None → x.inputs ≤ a.channels
allowed_lower x a is = go (cases_lt a.channels x.inputs)
  where
    go : (a.channels < x.inputs) ⊎ (x.inputs ≤ a.channels) → x.inputs ≤ a.channels
    go (inl less) =
        let lacking : info_fault x a ≡ Some ChannelsMissing = rw (lt-ltb a.channels x.inputs less) refl in
        absurd (let no : Some ChannelsMissing ≡ None = sym lacking ∙ is in cc)
    go (inr there) = there

pub whole_size : (c : ContentInValue) (frames : ℕ) → IsReading c → (known : c.size ≢ 0xFFFFFFFF) →
    frames ≡ c.size / (2 * c.channels) → 2 * (frames * c.channels) ≡ c.size
whole_size c frames is known same = go is.within
  where
    go : IsWithin (2 * c.channels) c.size c.gone → 2 * (frames * c.channels) ≡ c.size
    go (inl (filled, whole, there)) =
        let part : c.size / (2 * c.channels) * (2 * c.channels) ≤ c.size = div-mul-le_self c.size (2 * c.channels) in
        let left : c.size % (2 * c.channels) ≡ c.size - c.size / (2 * c.channels) * (2 * c.channels) =
        mod-eq-sub-div-mul c.size (2 * c.channels) in
        let here : frames * (2 * c.channels) ≡ c.size / (2 * c.channels) * (2 * c.channels) =
        ap (λ (k : ℕ). k * (2 * c.channels)) same in
        let double : frames * (2 * c.channels) ≡ 2 * (frames * c.channels) = omega arith in
        omega (arith, part, left, here, double, whole)
    go (inr (endless, there)) = absurd (known endless)

-- nothing was taken, or no run was opened
pub untaken : (n : Netlist Kit ℤ) (q : List ℕ) (first : Source) (r r' : ReaderState) (w : WriterState) (e f : Fault) →
    f ≡ e → TakesAll first r r' (Err e) → Streams n q first r r' w w (Err f)
untaken n q first r r' w e f same takes = (
  [],
  0,
  [],
  r.remaining,
  record { within = omega arith; are_read = inl (omega arith); are_frames = inl (refl, refl) },
  takes_none first r.remaining,
  inr (
    subst (λ (g : Fault). TakesAll first r r' (Err g)) (sym same) takes,
    appends_none w.contents w.contents (keeps_same w.contents),
    refl,
  ),
)

pub unopened : (n : Netlist Kit ℤ) (q : List ℕ) (first : Source) (r : ReaderState) (w : WriterState) (e f : Fault) →
    e ≡ OutOfMemory → f ≡ e → Streams n q first r r w w (Err f)
unopened n q first r w e f memory same =
    untaken n q first r r w e f same (takes_refused first [] r r e memory (takes_none first r.remaining) refl)
