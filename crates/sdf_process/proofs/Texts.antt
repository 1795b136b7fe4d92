-- The texts that a run writes begin a canonical file.
use Rattle.std.proofs.Common.{false, ◌≡◌, inl, inr, ℕ, ◌-◌, ◌*◌, ◌%◌, ◌≤◌, ◌<◌, ◌^◌, ℤ, pos, List, [], ◌++◌, length}
use Rattle.std.proofs.Common.{replicate, Some, None, refl, sym, ap, ◌∙◌, subst, arith, append_assoc, length-append}
use Rattle.std.proofs.Math.Nat.{mul-mod_left, mul-le-mul_left, mul-le-mul_right}
use Rattle.std.proofs.lemmas.List.{length-replicate}
use Rattle.sdf_actor.specs.Nets.{Netlist}
use Rattle.sdf_kit.specs.declared.kit.Kit.{Kit}
use Rattle.sdf_wav.specs.Sound.{Sound}
use Rattle.sdf_wav.specs.Canonical.{header, sample_bytes, write_fault, IsCanonical}
use Rattle.sdf_wav.specs.PiecesOut.{file_header, ContentOutValue}
use Rattle.sdf_wav.proofs.Theorems.{files_are_canonical, puts_join}
use Rattle.sdf_process.specs.declared.io_rates.StreamInfo.{StreamInfo}
use Rattle.sdf_process.specs.declared.io_rates.IoRates.{IoRates}
use Rattle.sdf_process.specs.declared.io_rates.OutputSize.{OutputSize}
use Rattle.sdf_process.specs.Output.{io_rates_of, interleaved, output_header, rate_for, AreIoRates, IsOutputSize}
use Rattle.sdf_process.specs.Output.{info_fault}
use Rattle.sdf_process.specs.Run.{AreFrames}
use Rattle.sdf_process.proofs.Refusals.{Begins}
use Rattle.sdf_process.proofs.Sounds.{length-interleaved, size_fits}
use Rattle.sdf_faults.specs.declared.fault.Fault.{Fault}

pub bytes_append : (xs ys : List ℤ) → sample_bytes (xs ++ ys) ≡ sample_bytes xs ++ sample_bytes ys
bytes_append xs ys = sym (puts_join (Some []) (Some (sample_bytes xs)) (Some (sample_bytes xs ++ sample_bytes ys))
    xs ys refl refl)

-- the header that is written is that of the output of a sound with this stream info
pub header_is : (x : IoRates) (a : StreamInfo) (e : OutputSize) → IsOutputSize x a e →
    file_header e.rate x.outputs (e.periods * x.made) ≡ output_header x a
header_is x a e is = ap (λ (r : ℕ). file_header r x.outputs (e.periods * x.made)) is.rate
    ∙ ap (λ (p : ℕ). file_header (rate_for x a.rate) x.outputs (p * x.made)) is.periods

module _ (x : IoRates) (a : StreamInfo) (e : OutputSize) (limits : AreIoRates x)
    (is : IsOutputSize x a e) where
  abbrev frames : ℕ
  frames = e.periods * x.made

  -- so many samples are a file behind its header
  file_of : (samples : List ℤ) → length samples ≡ frames * x.outputs →
      IsCanonical (file_header e.rate x.outputs frames ++ sample_bytes samples)
  file_of samples long =
      let s : Sound = record { rate = e.rate; channels = x.outputs; samples = samples } in
      let fits : write_fault s ≡ None = size_fits e.rate x.outputs (length samples) is.few_bytes_a_second
      (subst (λ (k : ℕ). 2 * k ≤ 4294967259) (sym long) is.few_bytes) in
      let whole : length samples % x.outputs ≡ 0 = ap (λ (k : ℕ). k % x.outputs) long ∙ mul-mod_left frames x.outputs in
      let small : e.rate < 2 ^ 32 = rate_small e.rate x.outputs limits.one_output is.few_bytes_a_second in
      subst (λ (k : ℕ). IsCanonical (header e.rate x.outputs (2 * k) ++ sample_bytes samples)) long
      (files_are_canonical s is.some_rate small limits.one_output limits.few_outputs whole fits)
    where
      rate_small : (r o : ℕ) → 1 ≤ o → r * (2 * o) ≤ 4294967295 → r < 2 ^ 32
      rate_small r o one few = let more : r * 2 ≤ r * (2 * o) = mul-le-mul_left r (omega arith) in omega arith

  -- and fewer begin one
  begins_of : (samples : List ℤ) → length samples ≤ frames * x.outputs →
      Begins (output_header x a ++ sample_bytes samples)
  begins_of samples few =
      let zeros = replicate (frames * x.outputs - length samples) (pos 0) in
      let long : length (samples ++ zeros) ≡ frames * x.outputs =
      omega (arith, length-append samples zeros, length-replicate (frames * x.outputs - length samples) (pos 0)) in
      record {
        file = file_header e.rate x.outputs frames ++ sample_bytes (samples ++ zeros);
        more = sample_bytes zeros;
        canonical = file_of (samples ++ zeros) long;
        whole = ap (λ (h : List ℕ). h ++ sample_bytes (samples ++ zeros)) (header_is x a e is)
            ∙ (ap (λ (b : List ℕ). output_header x a ++ b) (bytes_append samples zeros)
            ∙ sym (append_assoc (output_header x a) (sample_bytes samples) (sample_bytes zeros)));
      }

  -- all of them
  pub whole_file : (samples : List ℤ) → length samples ≡ frames * x.outputs →
      IsCanonical (output_header x a ++ sample_bytes samples)
  whole_file samples long = subst (λ (h : List ℕ). IsCanonical (h ++ sample_bytes samples)) (header_is x a e is)
      (file_of samples long)

-- the frames of some periods behind the header
pub text_begins : (n : Netlist Kit ℤ) (q : List ℕ) (a : StreamInfo) (e : OutputSize) →
    AreIoRates (io_rates_of n q) → IsOutputSize (io_rates_of n q) a e →
    (s : Sound) (periods : ℕ) (bytes : List ℕ) → periods ≤ e.periods → AreFrames n q s periods bytes →
    Begins (output_header (io_rates_of n q) a ++ bytes)
text_begins n q a e limits is s periods bytes few (inl (none, no_bytes)) =
    subst (λ (b : List ℕ). Begins (output_header (io_rates_of n q) a ++ b)) (sym no_bytes)
    (begins_of (io_rates_of n q) a e limits is [] (omega arith))
text_begins n q a e limits is s periods bytes few (inr (lists, made, same)) =
    let x = io_rates_of n q in
    let frames = interleaved (periods * x.made) lists in
    let long : length frames ≡ periods * x.made * x.outputs =
    length-interleaved (periods * x.made) lists ∙ ap (λ (k : ℕ). periods * x.made * k) made.count in
    let fewer : periods * x.made * x.outputs ≤ e.periods * x.made * x.outputs =
    mul-le-mul_right x.outputs (mul-le-mul_right x.made few) in
    subst (λ (b : List ℕ). Begins (output_header x a ++ b)) (sym same)
    (begins_of x a e limits is frames (subst (λ (k : ℕ). k ≤ e.periods * x.made * x.outputs) (sym long) fewer))

-- ---- what is said of I/O rates that are the net's

pub output_size_as : {x y : IoRates} {a b : StreamInfo} {e : OutputSize} → x ≡ y → a ≡ b → IsOutputSize x a e →
    IsOutputSize y b e
output_size_as {x} {y} {a} {b} {e} same told is =
    subst (λ (z : IoRates). IsOutputSize z b e) same (subst (λ (z : StreamInfo). IsOutputSize x z e) told is)

pub fault_as : {x y : IoRates} {a b : StreamInfo} {f : Fault} → x ≡ y → a ≡ b → info_fault x a ≡ Some f →
    info_fault y b ≡ Some f
fault_as {x} {y} {a} {b} {f} same told is =
    subst (λ (z : IoRates). info_fault z b ≡ Some f) same
    (subst (λ (z : StreamInfo). info_fault x z ≡ Some f) told is)

pub owed_as : {x y : IoRates} {o : ContentOutValue} (e : OutputSize) → x ≡ y →
    o ≡ record { channels = x.outputs; missing = e.periods * x.made; spent = false } →
    o ≡ record { channels = y.outputs; missing = e.periods * y.made; spent = false }
owed_as e same is =
    is ∙ ap (λ (z : IoRates). record { channels = z.outputs; missing = e.periods * z.made; spent = false }) same

pub header_as : {x y : IoRates} (e : OutputSize) → x ≡ y →
    file_header e.rate x.outputs (e.periods * x.made) ≡ file_header e.rate y.outputs (e.periods * y.made)
header_as e same = ap (λ (z : IoRates). file_header e.rate z.outputs (e.periods * z.made)) same
