-- What is known where a file has opened, and the size of its data was not filled in.
use Rattle.std.proofs.Common.{false, ◌≡◌, inl, inr, ℕ, ◌+◌, ◌*◌, ◌/◌, ℤ, List, [], ◌++◌, length, Some, None, Ok, Err}
use Rattle.std.proofs.Common.{refl, sym, ap, ◌∙◌, subst, arith, append-nil}
use Rattle.std.specs.Io.KnownBytes.{Appends}
use Rattle.sdf_actor.specs.Nets.{Netlist}
use Rattle.sdf_kit.specs.declared.kit.Kit.{Kit}
use Rattle.sdf_wav.specs.Sound.{Sound}
use Rattle.sdf_wav.specs.Grammar.{IsWav}
use Rattle.sdf_wav.specs.Device.{AppendsFront, Known, LosesFront, ReaderState, WriterState, one_more}
use Rattle.sdf_wav.specs.PiecesIn.{ContentInValue, IsEnded, known_frames}
use Rattle.sdf_wav.specs.PiecesOut.{ContentOutValue, file_header}
use Rattle.sdf_wav.proofs.Theorems.{not_both, one_sound}
use Rattle.sdf_process.specs.declared.io_rates.IoRates.{IoRates}
use Rattle.sdf_process.specs.declared.io_rates.OutputSize.{OutputSize}
use Rattle.sdf_faults.specs.declared.fault.Fault.{Fault}
use Rattle.sdf_process.specs.Output.{info_of, info_fault, io_rates_of, output_header, AreIoRates, IsOutputSize}
use Rattle.sdf_process.specs.Run.{IsRun, IsText, IsUnsized, Announces}
use Rattle.sdf_process.specs.Stages.{Decodes, IsDecoded, IsOpened, ReadsContent, PutsBytes}
use Rattle.sdf_process.proofs.Refusals.{AnnouncedAt, refused, writer_failed, unheard_by_memory, unheard_by_reader}
use Rattle.sdf_process.proofs.Refusals.{unheard_by_fault}
use Rattle.sdf_process.proofs.Texts.{header_is, text_begins}
use Rattle.sdf_process.proofs.Finished.{wav_of_heard}
use Rattle.sdf_process.proofs.Opened.{content_has, frames_unknown, heard_here, lost, owed_is, same_start}

module _ (n : Netlist Kit ℤ) (q : List ℕ) (limits : AreIoRates (io_rates_of n q)) (r mid : ReaderState)
    (c : ContentInValue)
    (opened : IsOpened r mid c) (is : known_frames c ≡ None) where
  abbrev x : IoRates
  x = io_rates_of n q

  abbrev Fails : (r' : ReaderState) (w w' : WriterState) → Fault → Type 0
  Fails r' w w' f = IsRun n q r r' w w' (Err f)

  unsized : (input : List ℕ) → r.remaining ≡ Some input → IsUnsized input
  unsized input known f size rest o =
      sym (ap (λ (z : ContentInValue). z.size) (same_start r mid c opened input f size rest known o))
      ∙ frames_unknown c.size c.channels is

  pub content_failed_behind : (r' : ReaderState) (w : WriterState) (f : Fault) → ReadsContent c mid r' (Err f) →
      Fails r' w w f
  content_failed_behind r' w f (inl reads) =
      subst (Fails r' w w) (sym reads.0)
      (unheard_by_memory n q r r' w (lost r mid c opened r' reads.1) (reads.2 ∙ opened.counted))
  content_failed_behind r' w f (inr (inl reads)) =
      subst (Fails r' w w) (sym reads.0)
      (unheard_by_reader n q r r' w (lost r mid c opened r' reads.1) (reads.2 ∙ ap one_more opened.counted))
  content_failed_behind r' w f (inr (inr reads)) =
      subst (Fails r' w w) (sym reads.1)
      (unheard_by_fault n q r r' w unsized reads.0 (content_has r mid c opened reads.0 r' reads.2)
      (reads.3 ∙ opened.counted))

  -- the sound was decoded, and its output is not opened
  module _ (r' : ReaderState) (s : Sound) (reads : ReadsContent c mid r' (Ok s)) where
    announces_it : (rest : List ℕ) → IsEnded (record c { gone = c.gone + 2 * length s.samples }) rest →
        Announces (record c { gone = c.gone + 2 * length s.samples }) s.samples rest (info_of s)
    announces_it rest ended =
        (reads.2, reads.3, inr (is, ended, ap (λ (z : ℕ). length s.samples / z) reads.3))

    heard_whole : Known r.remaining r'.remaining (λ input rest. IsDecoded input s rest × LosesFront input rest)
    heard_whole = heard_here r mid c opened r' s reads announces_it

    no_more : (rest : List ℕ) → IsEnded (record c { gone = c.gone + 2 * length s.samples }) rest → rest ≡ []
    no_more rest (inl (known, end)) = absurd (known (frames_unknown c.size c.channels is))
    no_more rest (inr (unknown, none)) = none

    at_end : Known r.remaining r'.remaining (AnnouncedAt (info_of s))
    at_end = record {
      at = λ input known. let y = opened.answers.at input known in let z = reads.0.at y.0 y.1 in let h =
          z.2.0 input y.2.0 in (
            z.0,
            z.1,
            record {
              reading = record c { gone = c.gone + 2 * length s.samples };
              samples = s.samples;
              read = h.read;
              announces = announces_it z.0 h.ended;
              least = ((λ filled. absurd (filled (frames_unknown c.size c.channels is))), (λ z. no_more _ h.ended));
            },
          );
    }

    is_wav : (input : List ℕ) (known : r.remaining ≡ Some input) → (rest : List ℕ) × IsWav input s rest
    is_wav input known = let y = heard_whole.at input known in (y.0, wav_of_heard input s y.0 y.2.0)

    pub refused_behind : (w : WriterState) (g : Fault) → info_fault x (info_of s) ≡ Some g → Fails r' w w g
    refused_behind w g why =
        refused n q r r' w (info_of s) at_end (reads.1 ∙ opened.counted)
        (λ input t rest known wav. let y = is_wav input known in
        ap info_of (one_sound input t s rest y.0 wav y.1).0)
        (λ input f size rest known o filled. absurd (filled (unsized input known f size rest o)))
        g why
        (λ input f known has allowed. let y = is_wav input known in not_both input s y.0 f y.1 has)

    module _ (e : OutputSize) (output_size : IsOutputSize x (info_of s) e) where
      abbrev text : List ℕ
      text = output_header x (info_of s) ++ []

      is_text : (input : List ℕ) → r.remaining ≡ Some input → IsText n q input text
      is_text input known =
          let y = heard_whole.at input known in
          record {
            reading = y.2.0.reading;
            samples = s.samples;
            rest = y.0;
            info = info_of s;
            periods = 0;
            frames = [];
            read = y.2.0.read;
            announces = y.2.0.announces;
            is_allowed = output_size.is_allowed;
            are_read = inl (omega arith);
            are_frames = inl (refl, refl);
            text_is = refl;
          }

      pub header_failed_behind : (w w' : WriterState) (f : Fault) →
          PutsBytes {X = Unit {0}} w w' (file_header e.rate x.outputs (e.periods * x.made)) (Err f) →
          Fails r' w w' f
      header_failed_behind w w' f puts =
          subst (Fails r' w w') (sym puts.0)
          (writer_failed n q r r' w w' text is_text
          (text_begins n q (info_of s) e limits output_size s 0 [] (omega arith) (inl (refl, refl)))
          (subst (AppendsFront w.contents w'.contents) (header_is x (info_of s) e output_size
          ∙ sym (append-nil (output_header x (info_of s)))) puts.1)
          (record {
            at = λ input known. let y = heard_whole.at input known in
                (y.0, y.1, (y.2.0.reading, s.samples, y.2.0.read));
          }) (reads.1 ∙ opened.counted) puts.2)

      pub heard_behind : (w w' : WriterState) (o : ContentOutValue) →
          Appends w.contents w'.contents (file_header e.rate x.outputs (e.periods * x.made)) →
          w'.failures ≡ w.failures →
          o ≡ record { channels = x.outputs; missing = e.periods * x.made; spent = false } →
          Decodes x r r' w w' s e o
      heard_behind w w' o written fine owed = record {
        decoded = heard_whole;
        allowed = λ input known f size rest opens filled. absurd (filled (unsized input known f size rest opens));
        output_size = output_size;
        header = subst (Appends w.contents w'.contents) (header_is x (info_of s) e output_size) written;
        owed = owed_is x s e o output_size owed;
        reader = reads.1 ∙ opened.counted;
        writer = fine;
      }
