-- A content that is read on.
use Rattle.std.proofs.Common.{◌≡◌, ◌≢◌, inl, inr, ℕ, ◌+◌, ◌*◌, ◌≤◌, ℤ, List, [], ◌++◌, length, Result, Ok, Err}
use Rattle.std.proofs.Common.{MatchResult, ◌∷◌, refl, sym, ap, ◌∙◌, subst, arith}
use Rattle.std.specs.Prelude.{IsErrAnd}
use Rattle.std.proofs.lemmas.List.{length-append}
use Rattle.sdf_wav.specs.Device.{Known, LosesFront, ReaderState, failures_after, one_more}
use Rattle.sdf_wav.specs.Fault.{HasFault}
use Rattle.sdf_wav.specs.PiecesIn.{ContentInValue, AnswersBy, IsPiece, IsReadTo, IsSizedFault, next_at}
use Rattle.sdf_wav.specs.declared.fault.FormatFault.{FormatFault}
use Rattle.sdf_wav.specs.declared.fault.WavFault.{WavFault}
use Rattle.sdf_wav.specs.declared.fault.WavFault.TheVariants as wav
use Rattle.sdf_faults.specs.declared.fault.Fault.{Fault}
use Rattle.sdf_faults.specs.Faults.{of_wav}
use Rattle.sdf_process.specs.Stages.{ReadsContent}
use Rattle.sdf_process.specs.Sources.{ReadsBy, ReadsMore}
use Rattle.sdf_process.proofs.Outcomes.{lost_twice}

module _ (c now : ContentInValue) (before : List ℤ)
    (here : now ≡ record c { gone = c.gone + 2 * length before }) (frames : ℕ)
    (r r1 r2 : ReaderState) (reads : ReadsBy c before r.remaining r1.remaining)
    (counted : r1.failures ≡ r.failures) where
  both_lost : Known r1.remaining r2.remaining LosesFront → Known r.remaining r2.remaining LosesFront
  both_lost lost = record {
    at = λ bytes known. let y = reads.at bytes known in let z = lost.at y.0 y.1 in
        (z.0, z.1, lost_twice bytes y.0 z.0 y.2.1 z.2);
  }

  stood_there : (input bytes left : List ℕ) → IsReadTo input (record c { gone = c.gone + 2 * length before }) before
      left → IsReadTo input now before left
  stood_there input bytes left is = subst (λ (y : ContentInValue). IsReadTo input y before left) (sym here) is

  -- it failed
  pub more_failed : {Y : Type 0} (e : WavFault) (x : Result Y Fault) (P : Y → Type 0) →
      ((input : List ℕ) (d : ContentInValue) (first : List ℤ) (bytes : List ℕ) (many : ℕ) (f : FormatFault) →
      IsReadTo input d first bytes → next_at d many bytes ≡ Err f → HasFault input f) →
      AnswersBy {X = Unit {0}} {Y = List ℤ} (λ x. []) r1.remaining r2.remaining (next_at now frames) (Err e) →
      r2.failures ≡ failures_after {X = Unit {0}} (Err e) r1.failures → IsSizedFault e →
      IsErrAnd x (λ f. f ≡ of_wav e) →
      MatchResult x P (λ f. ReadsContent c r r2 (Err f))
  more_failed wav.OutOfMemory (Err f) P falls said same cut is = inl (is, both_lost said, same ∙ counted)
  more_failed wav.Read (Err f) P falls said same cut is = inr (inl (is, both_lost said, same ∙ ap one_more counted))
  more_failed (wav.Format g) (Err f) P falls said same cut is = inr (inr (
    g,
    is,
    record {
      at = λ bytes known. let y = reads.at bytes known in let z = said.at y.0 y.1 in (
        z.0,
        z.1,
        (
          (λ input q. falls input now before y.0 frames g (stood_there input bytes y.0 (y.2.0 input q))
              z.2.0),
          lost_twice bytes y.0 z.0 y.2.1 z.2.1,
        ),
      );
    },
    same ∙ counted,
    λ known. cut,
  ))
  more_failed wav.Write (Err f) P falls said same cut is = absurd said
  more_failed e (Ok y) P falls said same cut is = absurd is

  -- some more was read
  pub more_read : ((input : List ℕ) (d : ContentInValue) (first : List ℤ) (bytes : List ℕ) (many : ℕ) (samples : List ℤ)
      (rest : List ℕ) → IsReadTo input d first bytes
      → next_at d many bytes ≡ Ok (samples, rest) →
      IsReadTo input (record d { gone = d.gone + 2 * length samples }) (first ++ samples) rest) →
      (samples kept all : List ℤ) → Known r1.remaining r2.remaining
      (λ input left. (next_at now frames input ≡ Ok (samples, left))
      × LosesFront input left) → r2.failures ≡ r1.failures → IsPiece now frames (length samples) →
      now.size ≢ 0xFFFFFFFF →
      now.gone + 2 * (frames * now.channels) ≤ now.size → (last : ContentInValue) →
      last ≡ record now { gone = now.gone + 2 * length samples } → all ≡ kept ++ samples →
      ReadsMore c before frames kept r r2 last (Ok all)
  more_read on samples kept all said same piece sized enough last goes joined = (
    samples,
    joined,
    count ∙ ap (λ (y : ContentInValue). frames * y.channels) here,
    record {
      at = λ bytes known. let y = reads.at bytes known in let z = said.at y.0 y.1 in (
        z.0,
        z.1,
        (
          (λ input q. subst (λ (d : ContentInValue). IsReadTo input d (before ++ samples) z.0) there
              (on input now before y.0 frames samples z.0 (stood_there input bytes y.0 (y.2.0 input q)) z.2.0)),
          lost_twice bytes y.0 z.0 y.2.1 z.2.1,
        ),
      );
    },
    goes ∙ there,
    same ∙ counted,
  )
    where
      count : length samples ≡ frames * now.channels
      count = omega (arith, piece.sized sized, enough)

      there : record now { gone = now.gone + 2 * length samples } ≡
          record c { gone = c.gone + 2 * length (before ++ samples) }
      there = ap (λ (y : ContentInValue). record y { gone = y.gone + 2 * length samples }) here
          ∙ ap (λ (k : ℕ). record c { gone = k }) (let z : c.gone + 2 * length before + 2 * length samples ≡
          c.gone + 2 * length (before ++ samples) = omega (arith, length-append before samples) in z)

pub none_kept : (kept : List ℤ) → length kept ≡ 0 → kept ≡ []
none_kept [] none = refl
none_kept (x ∷ kept) none = absurd (omega arith)
