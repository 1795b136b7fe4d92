-- What the runners are given of a sound, and the frames of what they make.
use Rattle.std.proofs.Common.{◌≡◌, ◌⊎◌, inl, inr, ℕ, zero, suc, ◌+◌, ◌*◌, ◌≤◌, ◌<◌, ℤ, pos, List, [], ◌∷◌, ◌++◌, length}
use Rattle.std.proofs.Common.{map, take, get_or, refl, sym, ap, ◌∙◌, arith}
use Rattle.std.specs.Int.{w16, saturate_signed}
use Rattle.std.specs.List.{flat_map, range_with_len}
use Rattle.std.proofs.Math.Nat.{mul-le-mul_right}
use Rattle.std.proofs.lemmas.Bool.{cases_lt}
use Rattle.std.proofs.lemmas.List.{get_or-take, get_or_past}
use Rattle.std.proofs.lemmas.List.Concat.{flat_map-cons}
use Rattle.std.proofs.lemmas.List.FromFn.{length-map-range_with_len, get_or-map-range_with_len, take-map-range_with_len}
use Rattle.sdf_actor.specs.Nets.{Netlist}
use Rattle.sdf_kit.specs.declared.kit.Kit.{Kit}
use Rattle.sdf_queues.specs.RunResults.{HasInputs, IsRunFault}
use Rattle.sdf_queues.specs.Laws.{Begin}
use Rattle.sdf_queues.specs.declared.fault.RunFault.{RunFault}
use Rattle.sdf_queues.specs.declared.fault.RunFault.TheVariants as run
use Rattle.sdf_wav.specs.Sound.{Sound}
use Rattle.sdf_process.specs.declared.io_rates.IoRates.{IoRates}
use Rattle.sdf_process.specs.Output.{io_rates_of, sample, channel_samples, lists_to, frame, interleaved}

-- ---- what the runners are given

-- each input list has the samples of so many periods
list_at : (periods : ℕ) (x : IoRates) (s : Sound) (e : ℕ) → e < x.inputs →
    get_or (lists_to periods x s) e [] ≡ channel_samples s (periods * x.taken) e
list_at periods x s e here = get_or-map-range_with_len (channel_samples s (periods * x.taken)) 0 x.inputs e e []
    here (omega arith)

count_of : (periods : ℕ) (x : IoRates) (s : Sound) → length (lists_to periods x s) ≡ x.inputs
count_of periods x s = length-map-range_with_len (channel_samples s (periods * x.taken)) 0 x.inputs

pub list_length : (periods : ℕ) (x : IoRates) (s : Sound) (e : ℕ) → e < length (lists_to periods x s) →
    length (get_or (lists_to periods x s) e []) ≡ periods * x.taken
list_length periods x s e here =
    ap length (list_at periods x s e (omega (arith, here, count_of periods x s)))
    ∙ length-map-range_with_len (sample s e) 0 (periods * x.taken)

pub are_inputs : (n : Netlist Kit ℤ) (q : List ℕ) (s : Sound) (periods : ℕ) →
    HasInputs n q periods (lists_to periods (io_rates_of n q) s)
are_inputs n q s periods = record {
  count = count_of periods (io_rates_of n q) s;
  even = λ e here. list_length periods (io_rates_of n q) s e here
      ∙ sym (list_length periods (io_rates_of n q) s 0 (omega (arith, here)));
  enough = λ e here. omega (arith, list_length periods (io_rates_of n q) s e here);
}

-- those of fewer periods begin those of more
pub begin : (few many : ℕ) (x : IoRates) (s : Sound) → few ≤ many → Begin (lists_to few x s) (lists_to many x s)
begin few many x s less e = go (cases_lt e x.inputs)
  where
    go : (e < x.inputs) ⊎ (x.inputs ≤ e) → get_or (lists_to few x s) e [] ≡
        take (length (get_or (lists_to few x s) e [])) (get_or (lists_to many x s) e [])
    go (inl here) =
        let long : length (get_or (lists_to few x s) e []) ≡ few * x.taken =
        list_length few x s e (omega (arith, here, count_of few x s)) in
        list_at few x s e here
        ∙ (sym (take-map-range_with_len (sample s e) 0 (many * x.taken) (few * x.taken) (mul-le-mul_right x.taken less))
        ∙ (ap (take (few * x.taken)) (sym (list_at many x s e here))
        ∙ ap (λ k. take k (get_or (lists_to many x s) e [])) (sym long)))
    go (inr past) =
        let none : get_or (lists_to few x s) e [] ≡ [] =
        get_or_past (lists_to few x s) e [] (omega (arith, past, count_of few x s)) in
        none ∙ ap (λ k. take k (get_or (lists_to many x s) e []))
        (let z : 0 ≡ length (get_or (lists_to few x s) e []) = sym (ap length none) in z)

-- so the runners fail by memory alone
pub run_fault_by : (n : Netlist Kit ℤ) (q : List ℕ) (periods : ℕ) (inputs : List (List ℤ)) (e : RunFault) →
    HasInputs n q periods inputs → IsRunFault n q periods inputs e → e ≡ run.OutOfMemory
run_fault_by n q periods inputs run.OutOfMemory given why = refl
run_fault_by n q periods inputs run.InputLength given why = absurd (why given)
run_fault_by n q periods inputs run.NotHomed given why = absurd why
run_fault_by n q periods inputs run.Patience given why = absurd why
run_fault_by n q periods inputs run.NoWorker given why = absurd why
run_fault_by n q periods inputs run.SessionFailed given why = absurd why

-- ---- what is made of their lists

frame_cut : (xs : List (List ℤ)) (n i : ℕ) → i < n → frame (map (take n) xs) i ≡ frame xs i
frame_cut [] n i h = refl
frame_cut (x ∷ xs) n i h =
    ap (λ v. saturate_signed w16 v ∷ frame (map (take n) xs) i) (get_or-take n x i (pos 0) h)
    ∙ ap (λ vs. saturate_signed w16 (get_or x i (pos 0)) ∷ vs) (frame_cut xs n i h)

frames_cut : (xs : List (List ℤ)) (n a m : ℕ) → a + m ≤ n →
    flat_map (frame (map (take n) xs)) (range_with_len a m) ≡ flat_map (frame xs) (range_with_len a m)
frames_cut xs n a zero h = refl
frames_cut xs n a (suc m) h =
    flat_map-cons (frame (map (take n) xs)) a (range_with_len (a + 1) m)
    ∙ (ap (λ ys. ys ++ flat_map (frame (map (take n) xs)) (range_with_len (a + 1) m)) (frame_cut xs n a (omega arith))
    ∙ (ap (λ ys. frame xs a ++ ys) (frames_cut xs n (a + 1) m (omega arith))
    ∙ sym (flat_map-cons (frame xs) a (range_with_len (a + 1) m))))

-- frames past the cut are not looked at
pub interleaved_cut : (xs : List (List ℤ)) (n : ℕ) → interleaved n (map (take n) xs) ≡ interleaved n xs
interleaved_cut xs n = frames_cut xs n 0 n (omega arith)
