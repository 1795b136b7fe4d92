-- The frames that parts make, one behind the other, are those of the piece.
use Rattle.std.proofs.Common.{◌≡◌, inl, inr, ◌⊎◌, ℕ, zero, suc, ◌+◌, ◌-◌, ◌*◌, ◌≤◌, ◌<◌, ℤ, List, [], ◌∷◌, ◌++◌, length}
use Rattle.std.proofs.Common.{map, get_or, take, drop, Vec, refl, sym, ap, ◌∙◌, subst, arith, length-append}
use Rattle.std.specs.List.{between, range_with_len}
use Rattle.std.proofs.Math.Nat.{mul-le-mul_right, zero-mul}
use Rattle.std.proofs.lemmas.Bool.{cases_lt}
use Rattle.std.proofs.lemmas.List.{get_or_append_left, get_or-append-add, map-append}
use Rattle.std.proofs.lemmas.List.FromFn.{length-map-range_with_len, take-map-range_with_len}
use Rattle.sdf_actor.specs.declared.net_state.NetState.{NetState}
use Rattle.sdf_actor.specs.Nets.{Netlist}
use Rattle.sdf_actor.specs.NetStates.{AreJoined}
use Rattle.sdf_actor.specs.Wires.{lists as items_of}
use Rattle.sdf_queues.specs.RunResults.{periods_of as firings}
use Rattle.sdf_queues.specs.Feeds.{GoesOnBy, HasRun}
use Rattle.sdf_queues.specs.Periods.{HasPeriod}
use Rattle.sdf_kit.specs.declared.kit.Kit.{Kit}
use Rattle.sdf_kit.specs.Kit.{kit_steps}
use Rattle.sdf_sched.specs.Period.{Schedule}
use Rattle.sdf_parallel.specs.Cuts.{cut, join}
use Rattle.sdf_parallel.specs.Parts.{GoesOnInParts, HasParts, read_by}
use Rattle.sdf_parallel.specs.Parts.{none as no_part, more as one_part}
use Rattle.sdf_parallel.proofs.Theorems.{joined_is, joined_long}
use Rattle.sdf_wav.specs.Sound.{Sound}
use Rattle.sdf_process.specs.declared.io_rates.IoRates.{IoRates}
use Rattle.sdf_process.specs.Output.{io_rates_of, channel_samples_from, in_turn, interleaved, lists_from, lists_to}
use Rattle.sdf_process.specs.Output.{sample}
use Rattle.sdf_process.specs.Streams.{AreWhole}
use Rattle.sdf_process.proofs.Played.{AllLong, frames_on_join, from_at, lists_full, lists_joined, made_long}
use Rattle.sdf_process.proofs.InTurn.{in_turn_more}
use Rattle.sdf_process.proofs.Pieced.{outputs_of}
use Rattle.sdf_process.proofs.Rendering.{are_inputs}
use Rattle.sdf_process.proofs.Sounds.{length-interleaved}

-- ---- what a part reads

drop_range : {X : Type 0} (f : ℕ → X) (a n i : ℕ) → i ≤ n →
    drop i (map f (range_with_len a n)) ≡ map f (range_with_len (a + i) (n - i))
drop_range f a n zero h =
    let here : a ≡ a + zero = omega arith in
    let all : n ≡ n - zero = omega arith in
    ap (λ (k : ℕ). map f (range_with_len k n)) here ∙ ap (λ (k : ℕ). map f (range_with_len (a + zero) k)) all
drop_range f a zero (suc i) h = absurd (omega arith)
drop_range f a (suc n) (suc i) h =
    let here : a + 1 + i ≡ a + suc i = omega arith in
    let all : n - i ≡ suc n - suc i = omega arith in
    drop_range f (a + 1) n i (omega arith)
    ∙ (ap (λ (k : ℕ). map f (range_with_len k (n - i))) here
    ∙ ap (λ (k : ℕ). map f (range_with_len (a + suc i) k)) all)

between_range : {X : Type 0} (f : ℕ → X) (a n i j : ℕ) → i ≤ j → j ≤ n →
    between i j (map f (range_with_len a n)) ≡ map f (range_with_len (a + i) (j - i))
between_range f a n i j h g =
    ap (take (j - i)) (drop_range f a n i (omega arith))
    ∙ take-map-range_with_len f (a + i) (n - i) (j - i) (omega arith)

cut_map : (f g : ℕ → List ℤ) (i j a n : ℕ) → ((e : ℕ) → between i j (f e) ≡ g e) →
    cut i j (map f (range_with_len a n)) ≡ map g (range_with_len a n)
cut_map f g i j a zero same = refl
cut_map f g i j a (suc n) same =
    ap (λ (x : List ℤ). x ∷ cut i j (map f (range_with_len (a + 1) n))) (same a)
    ∙ ap (λ (l : List (List ℤ)). g a ∷ l) (cut_map f g i j (a + 1) n same)

-- some samples of the lists of a piece, of each channel
pub cut_is : (at many : ℕ) (x : IoRates) (s : Sound) (from to : ℕ) → from ≤ to → to ≤ many * x.taken →
    cut from to (lists_from at many x s) ≡
    map (channel_samples_from s (at * x.taken + from) (to - from)) (range_with_len 0 x.inputs)
cut_is at many x s from to order within =
    cut_map (channel_samples_from s (at * x.taken) (many * x.taken))
    (channel_samples_from s (at * x.taken + from) (to - from)) from to 0 x.inputs
    (λ e. between_range (sample s e) (at * x.taken) (many * x.taken) from to order within)

pub first_cut : (many : ℕ) (x : IoRates) (s : Sound) (from to : ℕ) → from ≤ to → to ≤ many * x.taken →
    cut from to (lists_from 0 many x s) ≡ map (channel_samples_from s from (to - from)) (range_with_len 0 x.inputs)
first_cut many x s from to order within =
    cut_is 0 many x s from to order within
    ∙ ap (λ (k : ℕ). map (channel_samples_from s k (to - from)) (range_with_len 0 x.inputs))
    (let z : 0 * x.taken + from ≡ from = omega arith in z)

-- it reads no further than the piece goes
pub within_piece : (at many : ℕ) (x : IoRates) (s : Sound) (to : ℕ) → 0 < x.inputs →
    ((e : ℕ) → e < length (lists_from at many x s) → to ≤ length (get_or (lists_from at many x s) e [])) →
    to ≤ many * x.taken
within_piece at many x s to some within =
    let there : 0 < length (lists_from at many x s) = omega (
      arith,
      some,
      length-map-range_with_len (channel_samples_from s (at * x.taken) (many * x.taken)) 0 x.inputs,
    ) in
    omega (arith, within 0 there, from_at at many x s 0 there)

-- ---- what it makes

-- lists of whole frames, of which the first n frames of some lists stand one behind the other
pub record AreFramed (outputs n : ℕ) (on made : List (List ℤ)) : Type 0 where
  pub frames : in_turn made ≡ interleaved n on
  pub whole : (i : ℕ) → i < length made → (k : ℕ) × (length (get_or made i []) ≡ k * outputs)
  pub long : AllLong n on
  pub count : length on ≡ outputs

whole_more : (outputs : ℕ) (xs : List (List ℤ)) (y : List ℤ) →
    ((i : ℕ) → i < length xs → (k : ℕ) × (length (get_or xs i []) ≡ k * outputs)) →
    (k : ℕ) × (length y ≡ k * outputs) →
    (i : ℕ) → i < length (xs ++ y ∷ []) → (k : ℕ) × (length (get_or (xs ++ y ∷ []) i []) ≡ k * outputs)
whole_more outputs xs y each (k, is) i l = go (cases_lt i (length xs))
  where
    go : (i < length xs) ⊎ (length xs ≤ i) → (k : ℕ) × (length (get_or (xs ++ y ∷ []) i []) ≡ k * outputs)
    go (inl before) =
        let there = each i before in
        (there.0, ap length (get_or_append_left xs (y ∷ []) [] i before) ∙ there.1)
    go (inr past) =
        let here : length xs + 0 ≡ i = omega (arith, l, length-append xs (y ∷ [])) in
        let at : get_or (xs ++ y ∷ []) i [] ≡ y = ap (λ (e : ℕ). get_or (xs ++ y ∷ []) e []) (sym here)
        ∙ get_or-append-add xs (y ∷ []) 0 [] in
        (k, ap length at ∙ is)

module _ (n : Netlist Kit ℤ) (p : Schedule)
    (has : HasPeriod kit_steps n p) (s : Sound) (at many : ℕ) (made : List (List ℤ)) (rest : NetState ℤ (List ℤ))
    (run : HasRun kit_steps n (lists_to at (io_rates_of n p.repetitions) s) (firings p.repetitions at) made rest)
    (input : Sound) (given : lists_from at many (io_rates_of n p.repetitions) s ≡
    lists_from 0 many (io_rates_of n p.repetitions) input) where
  abbrev q : List ℕ
  q = p.repetitions

  abbrev x : IoRates
  x = io_rates_of n p.repetitions

  abbrev inputs : List (List ℤ)
  inputs = lists_from at many x s

  front_is : (k : ℕ) → k ≤ many → read_by n q inputs 0 k ≡ lists_from at k x s
  front_is k l =
      let none : 0 * x.taken ≡ 0 = zero-mul x.taken in
      let here : at * x.taken + 0 * x.taken ≡ at * x.taken = omega (arith, none) in
      let size : k * x.taken - 0 * x.taken ≡ k * x.taken = omega (arith, none) in
      cut_is at many x s (0 * x.taken) (k * x.taken) (omega (arith, none)) (mul-le-mul_right x.taken l)
      ∙ (ap (λ (i : ℕ). map (channel_samples_from s i (k * x.taken - 0 * x.taken)) (range_with_len 0 x.inputs)) here
      ∙ ap (λ (i : ℕ). map (channel_samples_from s (at * x.taken) i) (range_with_len 0 x.inputs)) size)

  -- lists by which the run goes on hold the samples of their periods
  on_long : (k : ℕ) → k ≤ many → (on : List (List ℤ)) (last : NetState ℤ (List ℤ)) →
      GoesOnBy kit_steps n q rest k (read_by n q inputs 0 k) on last → AllLong (k * x.made) on
  on_long k l on last goes e h =
      let count : length made ≡ length on = run.count ∙ sym goes.count in
      let first = made_long kit_steps n p has at (lists_to at x s) made (are_inputs n q s at)
      (outputs_of n (lists_to at x s) (firings q at) made rest run) in
      let joins : AreJoined (lists_to at x s) (read_by n q inputs 0 k) (lists_to (at + k) x s) =
      subst (λ (ys : List (List ℤ)). AreJoined (lists_to at x s) ys (lists_to (at + k) x s)) (sym (front_is k l))
      (lists_joined at k x s) in
      let both = goes.runs at (lists_to at x s) (lists_to (at + k) x s) made (join made on) (are_inputs n q s at)
      (lists_full n q at s) run joins (joined_is made on (omega (arith, count))) (joined_long made on) in
      let all = made_long kit_steps n p has (at + k) (lists_to (at + k) x s) (join made on)
      (are_inputs n q s (at + k))
      (outputs_of n (lists_to (at + k) x s) (firings q (at + k)) (join made on) last both) in
      let each : length (get_or (join made on) e []) ≡ length (get_or made e []) + length (get_or on e []) =
      ap length (joined_is made on (omega (arith, count)) e) ∙ length-append (get_or made e []) (get_or on e []) in
      let whole = all e (omega (arith, h, count, joined_long made on)) in
      let front = first e (omega (arith, h, count)) in
      let split : (at + k) * x.made ≡ at * x.made + k * x.made = omega arith in
      omega (arith, each, whole, front, split)

  pub framed : {Z : Type 0} (to : ℕ) (on : List (List ℤ)) (ms : List (Vec ℤ Z)) → to ≤ many →
      HasParts kit_steps n q inputs (λ periods outputs m. m.items ≡ interleaved (periods * x.made) outputs) rest to on
      ms → AreFramed x.outputs (to * x.made) on (items_of ms)
  framed to on ms l (no_part blank long empty) = record {
    frames = ap (λ (k : ℕ). interleaved k blank) (sym (zero-mul x.made));
    whole = λ i less. absurd (omega arith);
    long = λ e h. ap length (empty e) ∙ sym (zero-mul x.made);
    count = long;
  }
  framed to on ms l (one_part from to' before own parts m last done order count becomes goes) =
      let prev = framed from before parts (omega (arith, l, order)) done in
      let more : ℕ = (to' - from) * x.made in
      let all : from * x.made + more ≡ to' * x.made =
      (let z : from * x.made + more ≡ (from + (to' - from)) * x.made = omega arith in z)
      ∙ ap (λ (k : ℕ). k * x.made) (let z : from + (to' - from) ≡ to' = omega (arith, order) in z) in
      let items : items_of (parts ++ m ∷ []) ≡ items_of parts ++ m.items ∷ [] =
      map-append (λ (v : Vec ℤ _). v.items) parts (m ∷ []) in
      let same : length before ≡ length own = prev.count ∙ sym count in
      subst (AreFramed x.outputs (to' * x.made) (join before own)) (sym items) (record {
        frames = in_turn_more (items_of parts) m.items
            ∙ (ap (λ (ys : List ℤ). ys ++ m.items) prev.frames
            ∙ (ap (λ (ys : List ℤ). interleaved (from * x.made) before ++ ys) becomes
            ∙ (sym (frames_on_join (from * x.made) more before own prev.long same)
            ∙ ap (λ (k : ℕ). interleaved k (join before own)) all)));
        whole = whole_more x.outputs (items_of parts) m.items prev.whole (
          more,
          ap length becomes ∙ (length-interleaved more own ∙ ap (λ (k : ℕ). more * k) count),
        );
        long = on_long to' l (join before own) last goes;
        count = joined_long before own ∙ prev.count;
      })

  -- so are those of a run in parts
  pub record IsInParts {Z : Type 0} (ms : List (Vec ℤ Z)) (last : NetState ℤ (List ℤ)) : Type 0 where
    pub outputs : List (List ℤ)
    pub goes : GoesOnBy kit_steps n q rest many (lists_from 0 many x input) outputs last
    pub frames : in_turn (items_of ms) ≡ interleaved (many * x.made) outputs
    pub whole : AreWhole x.outputs (many * x.made) (items_of ms)

  pub in_parts : {Z : Type 0} (y : IoRates) → y ≡ x → (ms : List (Vec ℤ Z)) (last : NetState ℤ (List ℤ)) →
      GoesOnInParts kit_steps n q (lists_from 0 many y input)
      (λ periods outputs m. m.items ≡ interleaved (periods * y.made) outputs) rest many ms last → IsInParts ms last
  in_parts {Z} y same ms last goes =
      let own = subst (λ (z : IoRates). GoesOnInParts kit_steps n q (lists_from 0 many z input)
      (λ periods outputs (m : Vec ℤ Z). m.items ≡ interleaved (periods * z.made) outputs) rest many ms
      last) same goes in
      let parts = subst (λ (l : List (List ℤ)). HasParts kit_steps n q l
      (λ periods outputs (m : Vec ℤ Z). m.items ≡ interleaved (periods * x.made) outputs) rest many own.outputs ms)
      (sym given) own.parts in
      let f = framed many own.outputs ms (omega arith) parts in
      record {
        outputs = own.outputs;
        goes = own.goes;
        frames = f.frames;
        whole = record {
          each = f.whole;
          all = ap length f.frames ∙ (length-interleaved (many * x.made) own.outputs
              ∙ ap (λ (z : ℕ). many * x.made * z) f.count);
        };
      }
