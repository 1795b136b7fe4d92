-- The last stage of a run: what is known once its frames are written, or where that failed.
use Rattle.std.proofs.Common.{◌≡◌, ◌⊎◌, inl, inr, ℕ, ◌*◌, ◌≤◌, ℤ, List, ◌++◌, length, Option, Some, Result, Ok, Err}
use Rattle.std.proofs.Common.{refl, sym, ap, ◌∙◌, subst}
use Rattle.std.specs.Io.KnownBytes.{Appends}
use Rattle.sdf_actor.specs.Nets.{Netlist}
use Rattle.sdf_queues.specs.RunResults.{AreOutputs, periods_of as firings}
use Rattle.sdf_kit.specs.declared.kit.Kit.{Kit}
use Rattle.sdf_kit.specs.Kit.{kit_steps}
use Rattle.sdf_wav.specs.Sound.{Sound}
use Rattle.sdf_wav.specs.Grammar.{IsWav}
use Rattle.sdf_wav.specs.Canonical.{header, canonical_wav, sample_bytes, IsCanonical}
use Rattle.sdf_wav.specs.Device.{AppendsFront, ReaderState, WriterState, one_more}
use Rattle.sdf_wav.specs.PiecesIn.{sound_read}
use Rattle.sdf_wav.specs.PiecesOut.{ContentOutValue}
use Rattle.sdf_wav.proofs.Theorems.{not_both, one_sound, pieces_end}
use Rattle.sdf_process.specs.declared.io_rates.OutputSize.{OutputSize}
use Rattle.sdf_faults.specs.declared.fault.Fault.{Fault}
use Rattle.sdf_faults.specs.declared.fault.Fault.TheVariants.{OutOfMemory, Write}
use Rattle.sdf_process.specs.Output.{info_of, io_rates_of, interleaved, input_lists, output_frames, output_fault}
use Rattle.sdf_process.specs.Output.{output_header, output_of, periods_of, AreIoRates}
use Rattle.sdf_process.specs.Run.{AreFrames, HasOutput, IsRun, IsText, Refuses}
use Rattle.sdf_process.specs.Stages.{Decodes, IsDecoded, PutsOutput}
use Rattle.sdf_process.proofs.Outcomes.{appends_join, front_join}
use Rattle.sdf_process.proofs.Refusals.{Begins, writer_failed, memory_failed, some_no_none}
use Rattle.sdf_process.proofs.Sounds.{length-interleaved}
use Rattle.sdf_process.proofs.Texts.{text_begins, whole_file}

-- input that was decoded to its end is a file
pub wav_of_heard : (input : List ℕ) (s : Sound) (rest : List ℕ) → IsDecoded input s rest → IsWav input s rest
wav_of_heard input s rest h =
    let made : sound_read h.reading s.samples ≡ s = rw (← h.rate, ← h.channels) refl in
    subst (λ (t : Sound). IsWav input t rest) made (pieces_end input h.reading s.samples rest h.read h.ended)

module _ (n : Netlist Kit ℤ) (q : List ℕ) (limits : AreIoRates (io_rates_of n q))
    (r r' : ReaderState) (w w1 w' : WriterState) (s : Sound) (e : OutputSize) (o : ContentOutValue)
    (decodes : Decodes (io_rates_of n q) r r' w w1 s e o) where
  abbrev of_output : List ℕ
  of_output = output_header (io_rates_of n q) (info_of s)

  heard_is_wav : (input : List ℕ) (known : r.remaining ≡ Some input) → IsWav input s (decodes.decoded.at input known).0
  heard_is_wav input known = let y = decodes.decoded.at input known in wav_of_heard input s y.0 y.2.0

  module _ (periods : ℕ) (frames : List ℕ) (few : periods ≤ periods_of (io_rates_of n q) s)
      (are : AreFrames n q s periods frames) where
    is_text : (input : List ℕ) → r.remaining ≡ Some input → IsText n q input (of_output ++ frames)
    is_text input known =
        let y = decodes.decoded.at input known in
        let h = y.2.0 in
        let made : sound_read h.reading s.samples ≡ s = rw (← h.rate, ← h.channels) refl in
        record {
          reading = h.reading;
          samples = s.samples;
          rest = y.0;
          info = info_of s;
          periods = periods;
          frames = frames;
          read = h.read;
          announces = h.announces;
          is_allowed = decodes.output_size.is_allowed;
          are_read = inr (h.ended, subst (λ (t : Sound). periods ≤ periods_of (io_rates_of n q) t) (sym made) few);
          are_frames = subst (λ (t : Sound). AreFrames n q t periods frames) (sym made) are;
          text_is = refl;
        }

    begins : Begins (of_output ++ frames)
    begins = text_begins n q (info_of s) e limits decodes.output_size s periods frames
        (subst (λ (k : ℕ). periods ≤ k) (sym decodes.output_size.periods) few) are

    pub finishing_failed : (f : Fault) → ((f ≡ Write) × AppendsFront w1.contents w'.contents frames
        × (w'.failures ≡ one_more w1.failures))
        ⊎ ((f ≡ OutOfMemory) × Appends w1.contents w'.contents frames × (w'.failures ≡ w1.failures)) →
        IsRun n q r r' w w' (Err f)
    finishing_failed f (inl puts) =
        subst (λ (g : Fault). IsRun n q r r' w w' (Err g)) (sym puts.0)
        (writer_failed n q r r' w w' (of_output ++ frames) is_text begins
        (front_join w.contents w1.contents w'.contents of_output frames decodes.header puts.1)
        (record {
          at = λ input known. let y = decodes.decoded.at input known in
              (y.0, y.1, (y.2.0.reading, s.samples, y.2.0.read));
        }) decodes.reader (puts.2 ∙ ap one_more decodes.writer))
    finishing_failed f (inr puts) =
        subst (λ (g : Fault). IsRun n q r r' w w' (Err g)) (sym puts.0)
        (memory_failed n q r r' w w' (of_output ++ frames) is_text begins
        (appends_join w.contents w1.contents w'.contents of_output frames decodes.header puts.1)
        (record { at = λ input known. let y = decodes.decoded.at input known in (y.0, y.1, y.2.1) }) decodes.reader
        (puts.2 ∙ decodes.writer))

  module _ (lists : List (List ℤ)) (made : AreOutputs kit_steps n (input_lists (io_rates_of n q) s)
      (firings q (periods_of (io_rates_of n q) s)) lists)
      (written : Appends w1.contents w'.contents (sample_bytes (interleaved (output_frames (io_rates_of n q) s) lists)))
      (fine : w'.failures ≡ w1.failures) where
    abbrev out : Sound
    out = output_of (io_rates_of n q) s lists

    long : length out.samples ≡ output_frames (io_rates_of n q) s * (io_rates_of n q).outputs
    long = length-interleaved (output_frames (io_rates_of n q) s) lists
        ∙ ap (λ (k : ℕ). output_frames (io_rates_of n q) s * k) made.count

    file_is : canonical_wav out ≡ of_output ++ sample_bytes out.samples
    file_is = ap (λ (k : ℕ). header out.rate out.channels (2 * k) ++ sample_bytes out.samples) long

    all_written : Appends w.contents w'.contents (canonical_wav out)
    all_written = subst (Appends w.contents w'.contents) (sym file_is)
        (appends_join w.contents w1.contents w'.contents of_output (sample_bytes out.samples) decodes.header written)

    has_output : (input : List ℕ) → r.remaining ≡ Some input → HasOutput n q input out
    has_output input known = record {
      sound = s;
      rest = (decodes.decoded.at input known).0;
      is_wav = heard_is_wav input known;
      is_allowed = decodes.output_size.is_allowed;
      is_output = record { lists = lists; are_outputs = made; output = refl };
    }

    pub finished : IsRun n q r r' w w' (Ok tt)
    finished = record {
      runs = λ input known. (out, has_output input known, all_written);
      accepts = λ input t rest known wav.
          let same = (one_sound input t s rest (decodes.decoded.at input known).0 wav (heard_is_wav input known)).0 in
          subst (λ (u : Option Fault). Refuses u (Ok tt))
          (sym (ap (output_fault (io_rates_of n q)) same ∙ decodes.output_size.is_allowed)) tt;
      foresees = λ input f size rest g known opens sized is. absurd
          (some_no_none g (sym is ∙ decodes.allowed input known f size rest opens sized));
      refuses = λ input f known has allowed. absurd
          (not_both input s (decodes.decoded.at input known).0 f (heard_is_wav input known) has);
      devices = record {
        faults = tt;
        leaves = record {
          at = λ input known. let y = decodes.decoded.at input known in
              (y.0, y.1, (s, heard_is_wav input known));
        };
        writes = (
          canonical_wav out,
          subst IsCanonical (sym file_is)
              (whole_file (io_rates_of n q) (info_of s) e limits decodes.output_size out.samples
              (long ∙ ap (λ (p : ℕ). p * (io_rates_of n q).made * (io_rates_of n q).outputs)
              (sym decodes.output_size.periods))),
          all_written,
        );
        reader = decodes.reader;
        writer = fine ∙ decodes.writer;
      };
    }

-- so is a run whose last stage answered this
pub answered : (n : Netlist Kit ℤ) (q : List ℕ) → AreIoRates (io_rates_of n q) →
    (r r' : ReaderState) (w w1 w' : WriterState) (s : Sound) (e : OutputSize) (o : ContentOutValue) →
    Decodes (io_rates_of n q) r r' w w1 s e o → (result : Result (Unit {0}) Fault) →
    PutsOutput n q s w1 w' result → IsRun n q r r' w w' result
answered n q limits r r' w w1 w' s e o decodes (Ok x) (lists, made, written, fine) =
    finished n q limits r r' w w1 w' s e o decodes lists made written fine
answered n q limits r r' w w1 w' s e o decodes (Err f) (periods, frames, few, are, why) =
    finishing_failed n q limits r r' w w1 w' s e o decodes periods frames few are f why
