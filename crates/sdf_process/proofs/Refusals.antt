-- The first stages of a run: what is known where one of them fails, and once all are done.
use Rattle.std.proofs.Common.{append_assoc, ◌≡◌, ◌≢◌, inl, inr, ℕ, ℤ, List, [], ◌++◌, Option, Some, None, Result, Ok}
use Rattle.std.proofs.Common.{Err, MatchResult, refl, sym, ap, ◌∙◌, subst}
use Rattle.std.specs.Prelude.{IfErr, IsErrAnd}
use Rattle.std.specs.Io.KnownBytes.{Appends}
use Rattle.sdf_actor.specs.Nets.{Netlist}
use Rattle.sdf_kit.specs.declared.kit.Kit.{Kit}
use Rattle.sdf_wav.specs.Sound.{Sound}
use Rattle.sdf_wav.specs.Canonical.{IsCanonical}
use Rattle.sdf_wav.specs.Grammar.{IsWav}
use Rattle.sdf_wav.specs.Fault.{HasFault}
use Rattle.sdf_wav.specs.Device.{AppendsFront, Known, LosesFront, ReaderState, WriterState, failures_after, one_more}
use Rattle.sdf_wav.specs.PiecesIn.{ContentInValue, Opens, IsReadTo, AnswersOpening}
use Rattle.sdf_wav.specs.declared.fault.FormatFault.{FormatFault}
use Rattle.sdf_wav.specs.declared.fault.FormatFault.TheVariants.{Truncated}
use Rattle.sdf_wav.specs.declared.fault.WavFault.{WavFault}
use Rattle.sdf_wav.specs.declared.fault.WavFault.TheVariants as wav
use Rattle.sdf_wav.specs.declared.format.Format.{Format}
use Rattle.sdf_wav.proofs.Theorems.{not_both, one_fault}
use Rattle.sdf_process.specs.declared.io_rates.StreamInfo.{StreamInfo}
use Rattle.sdf_faults.specs.declared.fault.Fault.{Fault}
use Rattle.sdf_faults.specs.declared.fault.Fault.TheVariants.{OutOfMemory, Wav, Read, Write, ChannelsMissing}
use Rattle.sdf_faults.specs.declared.fault.Fault.TheVariants.{RateNotWhole}
use Rattle.sdf_faults.specs.Faults.{of_wav}
use Rattle.sdf_process.specs.Output.{info_of, info_fault, io_rates_of, output_fault}
use Rattle.sdf_process.specs.Run.{Announces, size_info, HasOutputFault, Handles, IsAllowed, IsFromOutside, IsRun}
use Rattle.sdf_process.specs.Run.{IsText, IsUnsized, ReadsAnnounced, ReadsInto, Refuses, Runs, WhereKnown, WritesFile}
use Rattle.sdf_process.specs.Run.{WritesSome}
use Rattle.sdf_process.proofs.Outcomes.{IsOfOutput, fault_of_announced, keeps_same, kept, refuses_outside}

-- what is said of the fault of a call that failed, said of that call's own
pub if_err : {X : Type 0} (r : Result X Fault) (f g : Fault) → f ≡ g → IsErrAnd r (λ e. e ≡ f) → IfErr r (λ e. e ≡ g)
if_err (Err e) f g same is = is ∙ same
if_err (Ok x) f g same is = absurd is

-- what is said of an answer, if it is known
pub at_ok : {X : Type 0} (r : Result X Fault) (x : X) (P : X → Type 0) (E : Fault → Type 0) → r ≡ Ok x →
    MatchResult r P E → P x
at_ok {X} r x P E is h = subst (λ (z : Result X Fault). MatchResult z P E) is h

pub at_err : {X : Type 0} (r : Result X Fault) (f : Fault) (P : X → Type 0) (E : Fault → Type 0) → r ≡ Err f →
    MatchResult r P E → E f
at_err {X} r f P E is h = subst (λ (z : Result X Fault). MatchResult z P E) is h

-- the fault of a call that failed
pub fails_by : {X : Type 0} (r : Result X Fault) (f : Fault) (P : X → Type 0) (Q : Fault → Type 0) →
    IsErrAnd r (λ e. e ≡ f) → Q f → MatchResult r P Q
fails_by (Err e) f P Q is q = subst Q (sym is) q
fails_by (Ok x) f P Q is q = absurd is

-- ---- memory or a device failed

-- that fits whatever the input is
from_outside : (n : Netlist Kit ℤ) (q : List ℕ) (r r' : ReaderState) (w w' : WriterState) (f : Fault) →
    IsFromOutside f → WhereKnown r.remaining (λ input. Runs n q input w.contents w'.contents (Err f)) →
    Handles {X = Unit {0}} r r' w w' (Err f) → IsRun n q r r' w w' (Err f)
from_outside n q r r' w w' f outside runs devices = record {
  runs = runs;
  accepts = λ input s rest known wav. refuses_outside (output_fault (io_rates_of n q) s) f outside;
  foresees = λ input g size rest e known o sized why. inr outside;
  refuses = λ input g known has allowed. inr outside;
  devices = devices;
}

-- ---- nothing was written

module _ (n : Netlist Kit ℤ) (q : List ℕ) (r r' : ReaderState) (w : WriterState) where
  pub unheard_by_memory : Known r.remaining r'.remaining LosesFront → r'.failures ≡ r.failures →
      IsRun n q r r' w w (Err OutOfMemory)
  unheard_by_memory lost counted =
      from_outside n q r r' w w OutOfMemory (inl refl) (λ input known. inl (keeps_same w.contents)) (record {
        faults = tt;
        leaves = lost;
        writes = inl (keeps_same w.contents);
        reader = counted;
        writer = refl;
      })

  pub unheard_by_reader : Known r.remaining r'.remaining LosesFront → r'.failures ≡ one_more r.failures →
      IsRun n q r r' w w (Err Read)
  unheard_by_reader lost failed =
      from_outside n q r r' w w Read (inr (inl refl)) (λ input known. inl (keeps_same w.contents)) (record {
        faults = tt;
        leaves = lost;
        writes = inl (keeps_same w.contents);
        reader = failed;
        writer = refl;
      })

  -- the input did not open, or the size of its data was not filled in
  pub unheard_by_fault : ((input : List ℕ) → r.remaining ≡ Some input → IsUnsized input) → (g : FormatFault) →
      Known r.remaining r'.remaining (λ input rest. HasFault input g × LosesFront input rest) →
      r'.failures ≡ r.failures → IsRun n q r r' w w (Err (Wav g))
  unheard_by_fault unsized g has counted = record {
    runs = λ input known. inl ((has.at input known).2.0, unsized input known, keeps_same w.contents);
    accepts = λ input s rest known wav. absurd (not_both input s rest g wav (has.at input known).2.0);
    foresees = λ input f size rest e known o sized why. absurd (sized (unsized input known f size rest o));
    refuses = λ input f known h allowed. inl (ap Wav (one_fault input g f (has.at input known).2.0 h));
    devices = record {
      faults = tt;
      leaves = record { at = λ input known. let y = has.at input known in (y.0, y.1, inl y.2) };
      writes = kept w.contents g;
      reader = counted;
      writer = refl;
    };
  }

  -- a file that did not open
  pub unopened : (e : WavFault) → AnswersOpening r.remaining r'.remaining (Err e) →
      r'.failures ≡ failures_after {X = Unit {0}} (Err e) r.failures → IsRun n q r r' w w (Err (of_wav e))
  unopened wav.OutOfMemory said counted = unheard_by_memory said counted
  unopened wav.Read said counted = unheard_by_reader said counted
  unopened (wav.Format g) said counted =
      unheard_by_fault (λ input known f size rest o. absurd ((said.at input known).2.0.opens_not f size rest o)) g
      (record { at = λ input known. let y = said.at input known in (y.0, y.1, (y.2.0.has, y.2.1)) }) counted
  unopened wav.Write said counted = absurd said

-- ---- there is no output for the stream info

-- the stream info of an input that was read as far as it takes to know it
pub record AnnouncedAt (a : StreamInfo) (input left : List ℕ) : Type 0 where
  pub reading : ContentInValue
  pub samples : List ℤ
  pub read : IsReadTo input reading samples left
  pub announces : Announces reading samples left a
  pub least : (reading.size ≢ 0xFFFFFFFF → reading.gone ≡ 0) × (reading.size ≡ 0xFFFFFFFF → left ≡ [])

pub some_same : {X : Type 0} (x y : X) → Some x ≡ Some y → x ≡ y
some_same x y e = cc

pub some_no_none : {X : Type 0} (x : X) → Some x ≡ None → ⊥
some_no_none x e = cc

module _ (n : Netlist Kit ℤ) (q : List ℕ) (r r' : ReaderState) (w : WriterState) (a : StreamInfo)
    (at : Known r.remaining r'.remaining (AnnouncedAt a)) (counted : r'.failures ≡ r.failures)
    (sounds : (input : List ℕ) (s : Sound) (rest : List ℕ) → r.remaining ≡ Some input → IsWav input s rest →
    info_of s ≡ a)
    (sizes : (input : List ℕ) (f : Format) (size : ℕ) (rest : List ℕ) → r.remaining ≡ Some input →
    Opens input f size rest →
    size ≢ 0xFFFFFFFF → size_info f size ≡ a) where
  stands : Known r.remaining r'.remaining ReadsAnnounced
  stands = record {
    at = λ input known. let y = at.at input known in
        (y.0, y.1, (y.2.reading, y.2.samples, y.2.read, y.2.least));
  }

  module _ (g : Fault) (why : info_fault (io_rates_of n q) a ≡ Some g)
      (no_fault : (input : List ℕ) (f : FormatFault) → r.remaining ≡ Some input → HasFault input f →
      IsAllowed (io_rates_of n q) input → ⊥) where
    has : (input : List ℕ) → r.remaining ≡ Some input → HasOutputFault n q input g
    has input known =
        let y = at.at input known in
        record {
          reading = y.2.reading;
          samples = y.2.samples;
          rest = y.0;
          info = a;
          read = y.2.read;
          announces = y.2.announces;
          fault = why;
        }

    accepts_it : (input : List ℕ) (s : Sound) (rest : List ℕ) → r.remaining ≡ Some input → IsWav input s rest →
        Refuses (output_fault (io_rates_of n q) s) (Err g)
    accepts_it input s rest known is =
        subst (λ o. Refuses o (Err g)) (sym (ap (info_fault (io_rates_of n q)) (sounds input s rest known is)
        ∙ why)) (inl refl)

    foresees_it : (input : List ℕ) (f : Format) (size : ℕ) (rest : List ℕ) (e : Fault) → r.remaining ≡ Some input →
        Opens input f size rest → size ≢ 0xFFFFFFFF →
        info_fault (io_rates_of n q) (size_info f size) ≡ Some e → Refuses (Some e) (Err g)
    foresees_it input f size rest e known o sized is =
        inl (some_same g e (sym why ∙ (sym (ap (info_fault (io_rates_of n q))
        (sizes input f size rest known o sized)) ∙ is)))

    refuses_it : (input : List ℕ) (f : FormatFault) → r.remaining ≡ Some input → HasFault input f →
        IsAllowed (io_rates_of n q) input → Refuses (Some (Wav f)) (Err g)
    refuses_it input f known has allowed = absurd (no_fault input f known has allowed)

    abbrev Refused : Fault → Type 0
    Refused e = g ≡ e → IsRun n q r r' w w (Err e)

    pub refused : IsRun n q r r' w w (Err g)
    refused = go (fault_of_announced (io_rates_of n q) a g why)
      where
        run : (e : Fault) → g ≡ e → ((input : List ℕ) → r.remaining ≡ Some input → HasOutputFault n q input e →
            Runs n q input w.contents w.contents (Err e)) → Handles {X = Unit {0}} r r' w w (Err e) →
            IsRun n q r r' w w (Err g)
        run e same runs devices =
            subst (λ (f : Fault). IsRun n q r r' w w (Err f)) (sym same)
            (record {
              runs = λ input known. runs input known (subst (HasOutputFault n q input) same (has input known));
              accepts = λ input s rest known is. subst (λ (f : Fault). Refuses (output_fault (io_rates_of n q) s)
                  (Err f)) same (accepts_it input s rest known is);
              foresees = λ input f size rest h known o sized is. subst (λ (y : Fault). Refuses (Some h) (Err y)) same
                  (foresees_it input f size rest h known o sized is);
              refuses = λ input f known has allowed. subst (λ (y : Fault). Refuses (Some (Wav f)) (Err y)) same
                  (refuses_it input f known has allowed);
              devices = devices;
            })

        go : IsOfOutput g → IsRun n q r r' w w (Err g)
        go (inl same) = run ChannelsMissing same (λ input known h. (h, keeps_same w.contents))
            (record { faults = tt; leaves = stands; writes = keeps_same w.contents; reader = counted; writer = refl })
        go (inr (inl same)) = run RateNotWhole same (λ input known h. (h, keeps_same w.contents))
            (record { faults = tt; leaves = stands; writes = keeps_same w.contents; reader = counted; writer = refl })
        go (inr (inr (f, same))) =
            run (Wav f) same (λ input known h. inr (inl (h, keeps_same w.contents)))
            (record {
              faults = tt;
              leaves = record { at = λ input known. let y = stands.at input known in (y.0, y.1, inr y.2) };
              writes = kept w.contents f;
              reader = counted;
              writer = refl;
            })

-- ---- a text was written, or a front of one

-- the file that a text begins
pub record Begins (text : List ℕ) : Type 0 where
  pub file : List ℕ
  pub more : List ℕ
  pub canonical : IsCanonical file
  pub whole : file ≡ text ++ more

front_of : (before after : Option (List ℕ)) (text : List ℕ) (b : Begins text) → AppendsFront before after text →
    AppendsFront before after b.file
front_of before after text b f = record {
  front = f.front;
  rest = f.rest ++ b.more;
  whole = b.whole ∙ (ap (λ z. z ++ b.more) f.whole ∙ append_assoc f.front f.rest b.more);
  written = f.written;
}

all_of : (before after : Option (List ℕ)) (text : List ℕ) (b : Begins text) → Appends before after text →
    AppendsFront before after b.file
all_of before after text b a = record { front = text; rest = b.more; whole = b.whole; written = a }

module _ (n : Netlist Kit ℤ) (q : List ℕ) (r r' : ReaderState) (w w' : WriterState) (text : List ℕ)
    (is : (input : List ℕ) → r.remaining ≡ Some input → IsText n q input text) (begins : Begins text) where
  pub writer_failed : AppendsFront w.contents w'.contents text → Known r.remaining r'.remaining ReadsInto →
      r'.failures ≡ r.failures → w'.failures ≡ one_more w.failures →
      IsRun n q r r' w w' (Err Write)
  writer_failed written stands counted failed =
      from_outside n q r r' w w' Write (inr (inr refl)) (λ input known. (text, is input known, written)) (record {
        faults = tt;
        leaves = stands;
        writes = (begins.file, begins.canonical, front_of w.contents w'.contents text begins written);
        reader = counted;
        writer = failed;
      })

  some_written : Appends w.contents w'.contents text → WritesSome w.contents w'.contents
  some_written written = inr (begins.file, begins.canonical, all_of w.contents w'.contents text begins written)

  pub memory_failed : Appends w.contents w'.contents text → Known r.remaining r'.remaining LosesFront →
      r'.failures ≡ r.failures → w'.failures ≡ w.failures →
      IsRun n q r r' w w' (Err OutOfMemory)
  memory_failed written lost counted fine =
      from_outside n q r r' w w' OutOfMemory (inl refl) (λ input known. inr (text, is input known, written))
      (record { faults = tt; leaves = lost; writes = some_written written; reader = counted; writer = fine })

  pub reader_failed : Appends w.contents w'.contents text → Known r.remaining r'.remaining LosesFront →
      r'.failures ≡ one_more r.failures → w'.failures ≡ w.failures →
      IsRun n q r r' w w' (Err Read)
  reader_failed written lost failed fine =
      from_outside n q r r' w w' Read (inr (inl refl)) (λ input known. inr (text, is input known, written))
      (record { faults = tt; leaves = lost; writes = some_written written; reader = failed; writer = fine })

  -- the content is cut off
  pub content_cut : (g : FormatFault) → g ≡ Truncated → Appends w.contents w'.contents text →
      Known r.remaining r'.remaining (λ input rest. HasFault input g × LosesFront input rest) →
      ((input : List ℕ) → r.remaining ≡ Some input → IsAllowed (io_rates_of n q) input) → r'.failures ≡ r.failures →
      w'.failures ≡ w.failures →
      IsRun n q r r' w w' (Err (Wav g))
  content_cut g cut written has allowed counted fine = record {
    runs = λ input known. inr (inr ((has.at input known).2.0, (text, is input known, written)));
    accepts = λ input s rest known wav. absurd (not_both input s rest g wav (has.at input known).2.0);
    foresees = λ input f size rest e known o sized why. absurd
        (some_no_none e (sym why ∙ allowed input known f size rest o sized));
    refuses = λ input f known h allowed. inl (ap Wav (one_fault input g f (has.at input known).2.0 h));
    devices = record {
      faults = tt;
      leaves = record { at = λ input known. let y = has.at input known in (y.0, y.1, inl y.2) };
      writes = subst (λ (f : FormatFault). WritesFile {X = Unit {0}} w.contents w'.contents (Err (Wav f))) (sym cut)
          (some_written written);
      reader = counted;
      writer = fine;
    };
  }
