-- Frames that are written some at a time.
use Rattle.std.proofs.Common.{◌≡◌, ℕ, zero, suc, ◌+◌, ◌-◌, ◌*◌, ◌/◌, ◌%◌, ◌≤◌, ℤ, List, [], ◌++◌, Option, Some, None}
use Rattle.std.proofs.Common.{append-nil, Result, Ok, Err, sym, ap, ◌∙◌, subst, arith, append_assoc}
use Rattle.std.specs.Prelude.{IsErrAnd}
use Rattle.std.specs.List.{range_with_len}
use Rattle.std.specs.Io.KnownBytes.{Appends, Keeps}
use Rattle.std.proofs.Math.Nat.{mul-div_cancel, mul-le-mul_right, mul-mod_left}
use Rattle.std.proofs.lemmas.List.Concat.{flat_map-cons}
use Rattle.sdf_wav.specs.Canonical.{sample_bytes}
use Rattle.sdf_wav.specs.Device.{WriterState, failures_after, one_more, ReaderState}
use Rattle.sdf_wav.specs.PiecesOut.{ContentOutValue, Puts}
use Rattle.sdf_wav.specs.declared.fault.WavFault.{WavFault}
use Rattle.sdf_wav.specs.declared.fault.WavFault.TheVariants as wav
use Rattle.sdf_faults.specs.declared.fault.Fault.{Fault}
use Rattle.sdf_faults.specs.Faults.{of_wav}
use Rattle.sdf_process.specs.Output.{frame, interleaved_from}
use Rattle.sdf_process.specs.Stages.{PutsBytes, RunsOn}
use Rattle.sdf_process.proofs.Outcomes.{front_join}
use Rattle.sdf_process.proofs.Texts.{bytes_append}
use Rattle.sdf_wav.specs.PiecesIn.{ContentInValue}
use Rattle.sdf_actor.specs.Nets.{Netlist}
use Rattle.sdf_kit.specs.declared.kit.Kit.{Kit}
use Rattle.sdf_process.specs.Run.{IsRun}

-- frames from two places on, one behind the other
pub frames_joined : (xs : List (List ℤ)) (a n m : ℕ) →
    interleaved_from a n xs ++ interleaved_from (a + n) m xs ≡ interleaved_from a (n + m) xs
frames_joined xs a zero m =
    let here : a + zero ≡ a = omega arith in
    let all : m ≡ zero + m = omega arith in
    ap (λ (k : ℕ). interleaved_from k m xs) here ∙ ap (λ (k : ℕ). interleaved_from a k xs) all
frames_joined xs a (suc n) m =
    let past : a + suc n ≡ a + 1 + n = omega arith in
    let all : suc (n + m) ≡ suc n + m = omega arith in
    let next : interleaved_from (a + suc n) m xs ≡ interleaved_from (a + 1 + n) m xs =
    ap (λ (k : ℕ). interleaved_from k m xs) past in
    let end : interleaved_from a (suc (n + m)) xs ≡ interleaved_from a (suc n + m) xs =
    ap (λ (k : ℕ). interleaved_from a k xs) all in
    ap (λ (l : List ℤ). l ++ interleaved_from (a + suc n) m xs) (flat_map-cons (frame xs) a (range_with_len (a + 1) n))
    ∙ (append_assoc (frame xs a) (interleaved_from (a + 1) n xs) (interleaved_from (a + suc n) m xs)
    ∙ (ap (λ (l : List ℤ). frame xs a ++ (interleaved_from (a + 1) n xs ++ l)) next
    ∙ (ap (λ (l : List ℤ). frame xs a ++ l) (frames_joined xs (a + 1) n m)
    ∙ (sym (flat_map-cons (frame xs) a (range_with_len (a + 1) (n + m))) ∙ end))))

module _ (w w1 w2 : WriterState) (xs here rest all : List ℤ)
    (split : xs ++ (here ++ rest) ≡ all) (before : Appends w.contents w1.contents (sample_bytes xs))
    (counted : w1.failures ≡ w.failures) where
  -- the writer failed among the samples here
  pub put_stopped : {X : Type 0} (e : WavFault) (r : Result X Fault) →
      Puts {X = Unit {0}} w1.contents w2.contents (sample_bytes here) (Err e) →
      w2.failures ≡ failures_after {X = Unit {0}} (Err e) w1.failures →
      IsErrAnd r (λ f. f ≡ of_wav e) → PutsBytes w w2 (sample_bytes all) r
  put_stopped wav.Write (Err f) puts failed is =
      let f = front_join w.contents w1.contents w2.contents (sample_bytes xs) (sample_bytes here) before puts in
      let more = sample_bytes rest in
      let bytes : sample_bytes xs ++ sample_bytes here ++ more ≡ sample_bytes all =
      append_assoc (sample_bytes xs) (sample_bytes here) more
      ∙ (ap (λ (l : List ℕ). sample_bytes xs ++ l) (sym (bytes_append here rest))
      ∙ (sym (bytes_append xs (here ++ rest)) ∙ ap sample_bytes split)) in (
        is,
        record {
          front = f.front;
          rest = f.rest ++ more;
          whole = sym bytes ∙ (ap (λ (l : List ℕ). l ++ more) f.whole ∙ append_assoc f.front f.rest more);
          written = f.written;
        },
        failed ∙ ap one_more counted,
      )
  put_stopped (wav.Format g) (Err f) puts failed is = absurd puts
  put_stopped wav.OutOfMemory (Err f) puts failed is = absurd puts
  put_stopped wav.Read (Err f) puts failed is = absurd puts
  put_stopped e (Ok x) puts failed is = absurd is

-- whole frames of n channels
pub whole_frames : (n k samples channels : ℕ) → samples ≡ n * k → channels ≡ k → samples % channels ≡ 0
whole_frames n k samples channels is same = ap (λ (z : ℕ). z % channels) (is ∙ ap (λ (z : ℕ). n * z) (sym same))
    ∙ mul-mod_left n channels

pub fewer_missing : (n k m samples channels : ℕ) → samples ≡ n * k → channels ≡ k → n ≤ m → samples ≤ m * channels
fewer_missing n k m samples channels is same less =
    subst (λ (z : ℕ). samples ≤ m * z) (sym same) (subst (λ (z : ℕ). z ≤ m * k) (sym is) (mul-le-mul_right k less))

-- what is owed behind so many frames
pub owed_on : (o p : ContentOutValue) (at end k samples : ℕ) → p ≡ record o { missing = o.missing - at } →
    samples ≡ (end - at) * k → o.channels ≡ k → 1 ≤ k → at ≤ end →
    record p { missing = p.missing - samples / p.channels } ≡ record o { missing = o.missing - end }
owed_on o p at end k samples is count same some less =
    let here : samples / o.channels ≡ end - at = ap (λ (z : ℕ). samples / z) same
    ∙ (ap (λ (z : ℕ). z / k) count ∙ mul-div_cancel (end - at) some) in
    let left : o.missing - at - samples / o.channels ≡ o.missing - end =
    ap (λ (z : ℕ). o.missing - at - z) here ∙ (let e : o.missing - at - (end - at) ≡ o.missing - end =
    omega arith in e) in
    ap (λ (z : ContentOutValue). record z { missing = z.missing - samples / z.channels }) is
    ∙ ap (λ (m : ℕ). record o { missing = m }) left

-- ---- what the last stage wrote

pub appends_none : (a b : Option (List ℕ)) → Keeps a b → Appends a b []
appends_none None b p = tt
appends_none (Some x) None p = absurd p
appends_none (Some x) (Some y) p = p ∙ sym (append-nil x)

-- a failed run
pub run_fails : (P : Result (Unit {0}) Fault → Type 0) (f : Fault) (r : Result (Unit {0}) Fault) →
    IsErrAnd r (λ e. e ≡ f) → P (Err f) → P r
run_fails P f (Err e) is p = subst (λ (z : Fault). P (Err z)) (sym is) p
run_fails P f (Ok x) is p = absurd is

-- the stages behind an opening failed
pub stage_fails : {n : Netlist Kit ℤ} {q : List ℕ} {c : ContentInValue} {opened r' : ReaderState} {w w' : WriterState}
    (f : Fault) (result : Result (Unit {0}) Fault) → IsErrAnd result (λ e. e ≡ f) →
    RunsOn n q c opened r' w w' (Err f) → RunsOn n q c opened r' w w' result
stage_fails {n} {q} {c} {opened} {r'} {w} {w'} f result is runs = λ r o.
    run_fails (IsRun n q r r' w w') f result is (runs r o)
