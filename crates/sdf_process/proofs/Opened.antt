-- What is known where a file has opened: its stream info, and what each stage behind says.
use Rattle.std.proofs.Common.{false, ◌≡◌, ◌≢◌, ◌⊎◌, inl, inr, ℕ, ◌+◌, ◌*◌, ◌/◌, ◌≤◌, ℤ, List, [], ◌∷◌, ◌++◌, length}
use Rattle.std.proofs.Common.{Option, Some, None, Ok, Err, refl, sym, ap, ◌∙◌, subst, arith, append-nil, Result}
use Rattle.std.specs.Prelude.{if◌then◌else◌, ◌==◌}
use Rattle.std.specs.Io.KnownBytes.{Appends}
use Rattle.std.proofs.Math.Nat.{mul-div-mul_left}
use Rattle.std.proofs.lemmas.Bool.Decides.{eqb_tells}
use Rattle.std.proofs.lemmas.Bool.{eq-eqb, ne_eqb}
use Rattle.sdf_actor.specs.Nets.{Netlist}
use Rattle.sdf_kit.specs.declared.kit.Kit.{Kit}
use Rattle.sdf_wav.specs.Sound.{Sound, frames_of}
use Rattle.sdf_wav.specs.Grammar.{IsWav}
use Rattle.sdf_wav.specs.Fault.{HasFault}
use Rattle.sdf_wav.specs.Device.{AppendsFront, Known, LosesFront, ReaderState, WriterState, one_more}
use Rattle.sdf_wav.specs.PiecesIn.{ContentInValue, Opens, IsReadTo, IsEnded, at_start, format_read, sound_read}
use Rattle.sdf_wav.specs.PiecesIn.{known_frames}
use Rattle.sdf_wav.specs.PiecesOut.{ContentOutValue, file_header}
use Rattle.sdf_wav.specs.declared.fault.FormatFault.{FormatFault}
use Rattle.sdf_wav.specs.declared.format.Format.{Format}
use Rattle.sdf_wav.proofs.Theorems.{files_open}
use Rattle.sdf_process.specs.declared.io_rates.StreamInfo.{StreamInfo}
use Rattle.sdf_process.specs.declared.io_rates.IoRates.{IoRates}
use Rattle.sdf_process.specs.declared.io_rates.OutputSize.{OutputSize}
use Rattle.sdf_faults.specs.declared.fault.Fault.{Fault}
use Rattle.sdf_faults.specs.declared.fault.Fault.TheVariants.{Write}
use Rattle.sdf_process.specs.Output.{info_of, info_fault, io_rates_of, output_frames, output_header}
use Rattle.sdf_process.specs.Output.{AreIoRates, IsOutputSize}
use Rattle.sdf_process.specs.Run.{size_info, AreRead, IsAllowed, IsRun, IsText, Announces}
use Rattle.sdf_process.specs.Stages.{Decodes, IsDecoded, IsOpened, ReadsContent, PutsBytes}
use Rattle.sdf_process.specs.Sources.{ReadsBy}
use Rattle.sdf_process.specs.Streams.{IsStream, Streams}
use Rattle.sdf_process.proofs.Outcomes.{appends_join, front_join, lost_twice}
use Rattle.sdf_process.proofs.Sizes.{fewer_frames, fewer_periods, periods_fit}
use Rattle.sdf_process.proofs.Refusals.{some_no_none, AnnouncedAt, Begins, refused, writer_failed, memory_failed}
use Rattle.sdf_process.proofs.Refusals.{reader_failed, content_cut}
use Rattle.sdf_process.proofs.Texts.{header_is, text_begins}
use Rattle.sdf_process.specs.declared.source.Source.TheVariants.{Content}
use Rattle.sdf_process.specs.PlannedNets.{IsUnreadContent}
use Rattle.sdf_process.proofs.Finished.{answered}

-- ---- how many frames are known

pub frames_known : (size channels frames : ℕ) → (if size == 0xFFFFFFFF then None else Some (size / (2 * channels))) ≡
    Some frames → (size ≢ 0xFFFFFFFF) × (frames ≡ size / (2 * channels))
frames_known size channels frames is = elim (eqb_tells size 4294967295) [
  | inl e ↦
      let none : (if size == 0xFFFFFFFF then None else Some (size / (2 * channels))) ≡ None =
      rw (eq-eqb size 4294967295 e.1) refl in
      absurd (let no : None ≡ Some frames = sym none ∙ is in cc)
  | inr e ↦
      let some : (if size == 0xFFFFFFFF then None else Some (size / (2 * channels))) ≡ Some (size / (2 * channels)) =
      rw (ne_eqb size 4294967295 e.1) refl in
      (e.1, let same : Some (size / (2 * channels)) ≡ Some frames = sym some ∙ is in cc)
]

pub frames_unknown : (size channels : ℕ) → (if size == 0xFFFFFFFF then None else Some (size / (2 * channels))) ≡ None →
    size ≡ 0xFFFFFFFF
frames_unknown size channels is = elim (eqb_tells size 4294967295) [
  | inl e ↦ e.1
  | inr e ↦
      let some : (if size == 0xFFFFFFFF then None else Some (size / (2 * channels))) ≡ Some (size / (2 * channels)) =
      rw (ne_eqb size 4294967295 e.1) refl in
      absurd (let no : Some (size / (2 * channels)) ≡ None = sym some ∙ is in cc)
]

no_gone : (gone left : List ℕ) → length gone ≡ 0 → gone ++ left ≡ left
no_gone [] left e = refl
no_gone (x ∷ xs) left e = absurd (omega arith)

pub announced_same : (r h f u v w : ℕ) → r ≡ u → h ≡ v → f ≡ w →
    ◌≡◌ {A = StreamInfo} (record { rate = r; channels = h; frames = f }) (record { rate = u; channels = v; frames = w })
announced_same r h f u v w x y z = rw (x, y, z) refl

-- a sound of so many samples has the frames that are known
pub sound_announced : (c : ContentInValue) (frames : ℕ) → known_frames c ≡ Some frames → (s : Sound) → s.rate ≡ c.rate →
    s.channels ≡ c.channels → 2 * length s.samples ≡ c.size →
    info_of s ≡ record { rate = c.rate; channels = c.channels; frames = frames }
sound_announced c frames is s rate channels size =
    announced_same s.rate s.channels (frames_of s) c.rate c.channels frames rate channels
    (sym (mul-div-mul_left {m = 2} (length s.samples) s.channels (omega arith))
    ∙ (ap (λ (z : ℕ). z / (2 * s.channels)) size ∙ (ap (λ (z : ℕ). c.size / (2 * z)) channels
    ∙ sym (frames_known c.size c.channels frames is).1)))

pub owed_is : (x : IoRates) (s : Sound) (e : OutputSize) (o : ContentOutValue) → IsOutputSize x (info_of s) e →
    o ≡ record { channels = x.outputs; missing = e.periods * x.made; spent = false } →
    o ≡ record { channels = x.outputs; missing = output_frames x s; spent = false }
owed_is x s e o output_size is =
    is ∙ ap (λ (p : ℕ). record { channels = x.outputs; missing = p * x.made; spent = false }) output_size.periods

-- ---- what is behind the opening

module _ (r mid : ReaderState) (c : ContentInValue) (opened : IsOpened r mid c) where
  pub same_start : (input : List ℕ) (f : Format) (size : ℕ) (rest : List ℕ) → r.remaining ≡ Some input →
      Opens input f size rest → c ≡ at_start f size
  same_start input f size rest known o = (opened.only input f size rest known o).0

  -- a fault of the content is the input's
  pub content_has : (g : FormatFault) (r' : ReaderState) →
      Known mid.remaining r'.remaining (λ bytes rest. ((input : List ℕ) → IsReadTo input c [] bytes → HasFault input g)
      × LosesFront bytes rest) →
      Known r.remaining r'.remaining (λ input rest. HasFault input g × LosesFront input rest)
  content_has g r' has = record {
    at = λ input known. let y = opened.answers.at input known in let z = has.at y.0 y.1 in
        (z.0, z.1, (z.2.0 input y.2.0, lost_twice input y.0 z.0 y.2.1 z.2.1));
  }

  -- what is lost behind it is lost of the input
  pub lost : (r' : ReaderState) → Known mid.remaining r'.remaining LosesFront →
      Known r.remaining r'.remaining LosesFront
  lost r' on = record {
    at = λ input known. let y = opened.answers.at input known in let z = on.at y.0 y.1 in
        (z.0, z.1, lost_twice input y.0 z.0 y.2.1 z.2);
  }

  -- what was decoded of the content to its end was decoded of the input
  pub heard_here : (r' : ReaderState) (s : Sound) → ReadsContent c mid r' (Ok s) → ((rest : List ℕ) →
      IsEnded (record c { gone = c.gone + 2 * length s.samples }) rest →
      Announces (record c { gone = c.gone + 2 * length s.samples }) s.samples rest (info_of s)) →
      Known r.remaining r'.remaining (λ input rest. IsDecoded input s rest × LosesFront input rest)
  heard_here r' s reads announces = record {
    at = λ input known. let y = opened.answers.at input known in let z = reads.0.at y.0 y.1 in let h =
        z.2.0 input y.2.0 in (
          z.0,
          z.1,
          (
            record {
              reading = record c { gone = c.gone + 2 * length s.samples };
              read = h.read;
              ended = h.ended;
              rate = reads.2;
              channels = reads.3;
              announces = announces z.0 h.ended;
            },
            lost_twice input y.0 z.0 y.2.1 z.2.1,
          ),
        );
  }

-- ---- the size of the data is filled in

module _ (n : Netlist Kit ℤ) (q : List ℕ) (limits : AreIoRates (io_rates_of n q)) (r mid : ReaderState)
    (c : ContentInValue)
    (opened : IsOpened r mid c) (frames : ℕ) (unread_content : IsUnreadContent c frames) where
  abbrev x : IoRates
  x = io_rates_of n q

  abbrev Fails : (r' : ReaderState) (w w' : WriterState) → Fault → Type 0
  Fails r' w w' f = IsRun n q r r' w w' (Err f)

  abbrev info : StreamInfo
  info = record { rate = c.rate; channels = c.channels; frames = frames }

  sized : c.size ≢ 0xFFFFFFFF
  sized = (frames_known c.size c.channels frames unread_content.known).0

  -- it opens to this content alone
  opens_here : (input : List ℕ) (known : r.remaining ≡ Some input) →
      Opens input (format_read c) c.size (opened.answers.at input known).0
  opens_here input known =
      let y = opened.answers.at input known in
      subst (Opens input (format_read c) c.size) (no_gone y.2.0.gone y.0
      (y.2.0.count ∙ unread_content.unread)) y.2.0.opens

  announced_here : (f : Format) (size : ℕ) → c.rate ≡ f.rate → c.channels ≡ f.channels → c.size ≡ size →
      size_info f size ≡ info
  announced_here f size rate channels count =
      sym (announced_same c.rate c.channels frames f.rate f.channels (size / (2 * f.channels)) rate channels
      ((frames_known c.size c.channels frames unread_content.known).1
      ∙ (ap (λ (z : ℕ). z / (2 * c.channels)) count ∙ ap (λ (z : ℕ). size / (2 * z)) channels)))

  sounds : (input : List ℕ) (s : Sound) (rest : List ℕ) → r.remaining ≡ Some input → IsWav input s rest →
      info_of s ≡ info
  sounds input s rest known wav =
      let o = files_open input s rest wav in
      let e = same_start r mid c opened input (record { rate = s.rate; channels = s.channels }) o.size o.rest known
      o.opens in
      let size : c.size ≡ o.size = ap (λ (z : ContentInValue). z.size) e in
      sound_announced c frames unread_content.known s (sym (ap (λ (z : ContentInValue). z.rate) e))
      (sym (ap (λ (z : ContentInValue). z.channels) e)) (sym (size ∙ o.sized (λ z. sized (size ∙ z))))

  sizes : (input : List ℕ) (f : Format) (size : ℕ) (rest : List ℕ) → r.remaining ≡ Some input →
      Opens input f size rest → size ≢ 0xFFFFFFFF → size_info f size ≡ info
  sizes input f size rest known o filled =
      let e = same_start r mid c opened input f size rest known o in
      announced_here f size (ap (λ (z : ContentInValue). z.rate) e) (ap (λ (z : ContentInValue). z.channels) e)
      (ap (λ (z : ContentInValue). z.size) e)

  at_content : Known r.remaining mid.remaining (AnnouncedAt info)
  at_content = record {
    at = λ input known. let y = opened.answers.at input known in (
      y.0,
      y.1,
      record {
        reading = c;
        samples = [];
        read = y.2.0;
        announces = (refl, refl, inl unread_content.known);
        least = ((λ z. unread_content.unread), (λ z. absurd (sized z)));
      },
    );
  }

  pub refused_ahead : (w : WriterState) (g : Fault) → info_fault x info ≡ Some g → Fails mid w w g
  refused_ahead w g why =
      refused n q r mid w info at_content opened.counted sounds sizes g why
      (λ input f known has allowed. some_no_none g
      (sym why ∙ (sym (ap (info_fault x) (announced_here (format_read c) c.size refl refl refl))
      ∙ allowed (format_read c) c.size (opened.answers.at input known).0 (opens_here input known) sized)))

  module _ (e : OutputSize) (output_size : IsOutputSize x info e) where
    abbrev text : List ℕ
    text = output_header x info ++ []

    is_text : (input : List ℕ) → r.remaining ≡ Some input → IsText n q input text
    is_text input known =
        let y = opened.answers.at input known in
        record {
          reading = c;
          samples = [];
          rest = y.0;
          info = info;
          periods = 0;
          frames = [];
          read = y.2.0;
          announces = (refl, refl, inl unread_content.known);
          is_allowed = output_size.is_allowed;
          are_read = inl (omega arith);
          are_frames = inl (refl, refl);
          text_is = refl;
        }

    begins : Begins text
    begins = text_begins n q info e limits output_size (sound_read c []) 0 [] (omega arith) (inl (refl, refl))

    header_same : file_header e.rate x.outputs (e.periods * x.made) ≡ text
    header_same = header_is x info e output_size ∙ sym (append-nil (output_header x info))

    allowed_by : (input : List ℕ) → r.remaining ≡ Some input → IsAllowed x input
    allowed_by input known f size rest o filled =
        ap (info_fault x) (sizes input f size rest known o filled) ∙ output_size.is_allowed

    pub header_failed_ahead : (w w' : WriterState) (f : Fault) →
        PutsBytes {X = Unit {0}} w w' (file_header e.rate x.outputs (e.periods * x.made)) (Err f) → Fails mid w w' f
    header_failed_ahead w w' f puts =
        subst (Fails mid w w') (sym puts.0)
        (writer_failed n q r mid w w' text is_text begins
        (subst (AppendsFront w.contents w'.contents) header_same puts.1)
        (record { at = λ input known. let y = opened.answers.at input known in (y.0, y.1, (c, [], y.2.0)) })
        opened.counted puts.2)

    -- the header was written before w1
    module _ (r' : ReaderState) (w w1 w' : WriterState)
        (written : Appends w.contents w1.contents (file_header e.rate x.outputs (e.periods * x.made)))
        (fine : w1.failures ≡ w.failures) where
      begun_by : Appends w.contents w1.contents (output_header x info)
      begun_by = subst (Appends w.contents w1.contents) (header_is x info e output_size) written

      -- the rest was decoded
      heard_ahead : (s : Sound) (o : ContentOutValue) → ReadsContent c mid r' (Ok s) →
          o ≡ record { channels = x.outputs; missing = e.periods * x.made; spent = false } →
          Decodes x r r' w w1 s e o
      heard_ahead s o reads owed =
          let a = sound_announced c frames unread_content.known s reads.2 reads.3 (reads.4 sized) in
          let here : IsOutputSize x (info_of s) e = subst (λ (z : StreamInfo). IsOutputSize x z e)
          (sym a) output_size in
          record {
            decoded = heard_here r mid c opened r' s reads (λ rest ended. (
              reads.2,
              reads.3,
              inl (unread_content.known ∙ sym (ap (λ (z : StreamInfo). Some z.frames) a)),
            ));
            allowed = allowed_by;
            output_size = here;
            header = subst (λ (z : StreamInfo). Appends w.contents w1.contents (output_header x z)) (sym a) begun_by;
            owed = owed_is x s e o here owed;
            reader = reads.1 ∙ opened.counted;
            writer = fine;
          }

      -- some was read behind it, and the frames of some periods written
      module _ (samples : List ℤ) (periods : ℕ) (bytes : List ℕ) (last : Option (List ℕ))
          (st : IsStream n q c samples periods bytes) (reads : ReadsBy c samples mid.remaining last) where
        abbrev text_far : List ℕ
        text_far = output_header x info ++ bytes

        here_read : (input : List ℕ) → r.remaining ≡ Some input →
            (rest : List ℕ) × (last ≡ Some rest) × IsReadTo input
            (record c { gone = c.gone + 2 * length samples }) samples rest
        here_read input known = let y = opened.answers.at input known in let z = reads.at y.0 y.1 in
            (z.0, z.1, z.2.0 input y.2.0)

        are_read_of : (rest : List ℕ) → AreRead x (record c { gone = c.gone + 2 * length samples }) samples rest periods
        are_read_of rest = elim st.are_read [
          | inl less ↦ inl less
          | inr y ↦ inr (
            inl (
              sized,
              (let z : c.gone + 2 * length samples ≡ c.size =
                  omega (arith, unread_content.unread, y.0) in z),
            ),
            y.1,
          )
        ]

        is_text_far : (input : List ℕ) → r.remaining ≡ Some input → IsText n q input text_far
        is_text_far input known =
            let y = here_read input known in
            record {
              reading = record c { gone = c.gone + 2 * length samples };
              samples = samples;
              rest = y.0;
              info = info;
              periods = periods;
              frames = bytes;
              read = y.2;
              announces = (refl, refl, inl unread_content.known);
              is_allowed = output_size.is_allowed;
              are_read = are_read_of y.0;
              are_frames = st.are_frames;
              text_is = refl;
            }

        frames_read : frames_of (sound_read c samples) ≤ frames
        frames_read = subst (λ (k : ℕ). frames_of (sound_read c samples) ≤ k)
            (sym (frames_known c.size c.channels frames unread_content.known).1)
            (fewer_frames (length samples) c.channels c.size unread_content.sound.one_channel st.within)

        few_periods : periods ≤ e.periods
        few_periods = subst (λ (k : ℕ). periods ≤ k) (sym output_size.periods) (elim st.are_read [
          | inl less ↦ periods_fit periods x.taken frames limits.some_taken (omega (arith, less, frames_read))
          | inr y ↦ omega (
            arith,
            y.1,
            fewer_periods (frames_of (sound_read c samples)) frames x.taken limits.some_taken frames_read,
          )
        ])

        begins_far : Begins text_far
        begins_far = text_begins n q info e limits output_size (sound_read c samples) periods bytes few_periods
            st.are_frames

        reading_failed : (f : Fault) → Appends w.contents w'.contents text_far → w'.failures ≡ w.failures →
            ReadsContent c mid r' (Err f) → Fails r' w w' f
        reading_failed f put still (inl failed) =
            subst (Fails r' w w') (sym failed.0)
            (memory_failed n q r r' w w' text_far is_text_far begins_far put (lost r mid c opened r' failed.1)
            (failed.2 ∙ opened.counted) still)
        reading_failed f put still (inr (inl failed)) =
            subst (Fails r' w w') (sym failed.0)
            (reader_failed n q r r' w w' text_far is_text_far begins_far put (lost r mid c opened r' failed.1)
            (failed.2 ∙ ap one_more opened.counted) still)
        reading_failed f put still (inr (inr failed)) =
            subst (Fails r' w w') (sym failed.1)
            (content_cut n q r r' w w' text_far is_text_far begins_far failed.0 (failed.4 sized) put
            (content_has r mid c opened failed.0 r' failed.2) allowed_by (failed.3 ∙ opened.counted) still)

        stream_stopped : (f : Fault) → (((f ≡ Write) × (last ≡ r'.remaining)
            × AppendsFront w1.contents w'.contents bytes × (r'.failures ≡ mid.failures)
            × (w'.failures ≡ one_more w1.failures))
            ⊎ (ReadsContent c mid r' (Err f) × Appends w1.contents w'.contents bytes
            × (w'.failures ≡ w1.failures))) →
            Fails r' w w' f
        stream_stopped f (inl (is_write, here, front, counted, failed)) =
            subst (Fails r' w w') (sym is_write)
            (writer_failed n q r r' w w' text_far is_text_far begins_far
            (front_join w.contents w1.contents w'.contents (output_header x info) bytes begun_by front)
            (record {
              at = λ input known. let y = here_read input known in
                  (y.0, sym here ∙ y.1, (record c { gone = c.gone + 2 * length samples }, samples, y.2));
            }) (counted ∙ opened.counted) (failed ∙ ap one_more fine))
        stream_stopped f (inr (failed, all, same_count)) =
            reading_failed f
            (appends_join w.contents w1.contents w'.contents (output_header x info) bytes begun_by all)
            (same_count ∙ fine) failed

      -- a run that reads and writes as it goes
      pub streamed : (o : ContentOutValue) → o ≡ record {
        channels = x.outputs;
        missing = e.periods * x.made;
        spent = false;
      } →
          (result : Result (Unit {0}) Fault) → Streams n q (Content c) mid r' w1 w' result →
          IsRun n q r r' w w' result
      streamed o owed (Ok y) (s, reads, puts) =
          answered n q limits r r' w w1 w' s e o (heard_ahead s o reads owed) (Ok y) puts
      streamed o owed (Err f) (samples, periods, bytes, last, st, reads, why) =
          stream_stopped samples periods bytes last st reads f why
