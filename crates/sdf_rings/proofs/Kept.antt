-- What each run of the machine keeps of its lists.
use Rattle.std.proofs.Common.{◌≡◌, ℕ, ◌+◌, ◌-◌, ◌≤◌, ◌<◌, List, [], ◌∷◌, ◌++◌, get_or, length, take, drop, cond, eqb}
use Rattle.std.proofs.Common.{Bool, true, false, refl, sym, ap, ◌∙◌, subst, arith, add-zero, add-one}
use Rattle.std.specs.List.{between}
use Rattle.std.proofs.lemmas.List.{take-take, length-take-le, append_cancel_left, take-append-drop}
use Rattle.std.proofs.lemmas.Slice.{between_is}
use Rattle.std.proofs.lemmas.Bool.{eqb-true}
use Rattle.sdf_actor.specs.Steps.{Steps}
use Rattle.sdf_actor.specs.Histories.{Wiring, Answers, taken, put, taken_before, IsHistory, IsWired, spread}
use Rattle.sdf_actor.specs.Nets.{Netlist, wiring, answers, IsNet}
use Rattle.sdf_actor.proofs.Theorems.{nets_are_wired, put_is_dealt, taken_stays}
use Rattle.sdf_rings.specs.Machine.{Machine, Event, Take, Put, block, at_start, happens, CanPut, IsAllowed, IsRun}
use Rattle.sdf_rings.specs.Machine.{after}
use Rattle.sdf_rings.proofs.Counts.{IsCounted, count_one, count_start}

-- what each run keeps, where R is the history
pub record Keeps {A : Type 0} (f : Wiring A) (k cap : ℕ → ℕ) (R : ℕ → List A) (m : Machine A) : Type 0 where
  pub counts : IsCounted f k cap m
  pub lists : (c : ℕ) → c < f.rates.channels → m.lists c ≡
      take (f.rates.initial c + f.rates.produced c (m.gave c)) (R c)

-- a beginning is a shorter one and the part after it
take_on : {X : Type 0} (xs : List X) (i j : ℕ) → i ≤ j → take j xs ≡ take i xs ++ between i j xs
take_on xs i j h =
    sym (take-append-drop i (take j xs)) ∙
    (ap (λ ys. ys ++ drop i (take j xs)) (take-take i j xs h) ∙ ap (λ ys. take i xs ++ ys) (sym (between_is xs i j)))

-- where the blocks of one firing more agree, the last one does
pub last_agrees : {A : Type 0} (f : Wiring A) (V W : ℕ → List A) (a i : ℕ) →
    taken_before f V a i ≡ taken_before f W a i →
    taken_before f V a (i + 1) ≡ taken_before f W a (i + 1) → taken f V a i ≡ taken f W a i
last_agrees f V W a i past next = ap (λ b. get_or b 0 [])
    (append_cancel_left (taken_before f V a i) (taken f V a i ∷ []) (taken f W a i ∷ []) same)
  where
    more : taken_before f V a i ++ taken f V a i ∷ [] ≡ taken_before f W a i ++ taken f W a i ∷ []
    more = rw add-one at next

    same : taken_before f V a i ++ taken f V a i ∷ [] ≡ taken_before f V a i ++ taken f W a i ∷ []
    same = more ∙ ap (λ b. b ++ taken f W a i ∷ []) (sym past)

module _ {A S T : Type 0} (s : Steps A S T) (n : Netlist A T) (good : IsNet s n)
    (inputs : List (List T)) (k cap : ℕ → ℕ) (R : ℕ → List T)
    (r : IsHistory (wiring s n) (answers s n inputs) k R) where
  abbrev f : Wiring T
  f = wiring s n

  abbrev x : Answers T
  x = answers s n inputs

  wired : IsWired (wiring s n)
  wired = nets_are_wired s n good

  pub long : (m : Machine T) → Keeps f k cap R m → (c : ℕ) → c < f.rates.channels →
      length (m.lists c) ≡ f.rates.initial c + f.rates.produced c (m.gave c)
  long m keep c l =
      let rise : f.rates.produced c (m.gave c) ≤ f.rates.produced c (k (f.rates.source c)) =
      wired.sound.produced_rises c (m.gave c) (k (f.rates.source c)) (keep.counts.gave_in c l) in
      ap length (keep.lists c l) ∙ length-take-le (f.rates.initial c + f.rates.produced c (m.gave c)) (R c)
      (omega (arith, r.lengths c l))

  pub begins : (m : Machine T) → Keeps f k cap R m → (c : ℕ) → c < f.rates.channels →
      m.lists c ≡ take (length (m.lists c)) (R c)
  begins m keep c l = keep.lists c l ∙ ap (λ j. take j (R c)) (sym (long m keep c l))

  put_lists : (m : Machine T) → Keeps f k cap R m → (c : ℕ) → CanPut f k cap m c →
      m.lists c ++ block f x m.lists (m.gave c) c ≡ take (f.rates.initial c + f.rates.produced c (m.gave c + 1)) (R c)
  put_lists m keep c h =
      let a : ℕ = f.rates.source c in
      let i : ℕ = m.gave c in
      let known : a < f.rates.actors = wired.sound.source_in c h.known in
      let within : (d : ℕ) → d < f.rates.channels → f.rates.target d ≡ a →
      f.rates.consumed d (i + 1) ≤ length (m.lists d) =
      (λ d l e. let rise : f.rates.consumed d (i + 1) ≤ f.rates.consumed d (m.took d) =
      wired.sound.consumed_rises d (i + 1) (m.took d) (h.taken d l e) in
      omega (arith, keep.counts.enough d l, long m keep d l)) in
      let before : (d : ℕ) → d < f.rates.channels → f.rates.target d ≡ a → f.rates.consumed d i ≤ length (m.lists d) =
      (λ d l e. let rise : f.rates.consumed d i ≤ f.rates.consumed d (i + 1) =
      wired.sound.consumed_rises d i (i + 1) (omega arith) in omega (arith, within d l e)) in
      let past : taken_before f m.lists a i ≡ taken_before f R a i =
      taken_stays s n m.lists R a i good known before (begins m keep) in
      let next : taken_before f m.lists a (i + 1) ≡ taken_before f R a (i + 1) =
      taken_stays s n m.lists R a (i + 1) good known within (begins m keep) in
      let now : taken f m.lists a i ≡ taken f R a i = last_agrees f m.lists R a i past next in
      let step : put f R a i ≡ x a (taken_before f R a i) (taken f R a i) = r.steps a i known h.left in
      let whole : x a (taken_before f m.lists a i) (taken f m.lists a i) ≡ put f R a i =
      ap (λ b. x a b (taken f m.lists a i)) past ∙ (ap (x a (taken_before f R a i)) now ∙ sym step) in
      let size : ℕ → ℕ = λ d. f.rates.produced d (i + 1) - f.rates.produced d i in
      let far : (d : ℕ) → d < f.rates.channels → f.rates.source d ≡ a →
      f.rates.initial d + f.rates.produced d (i + 1) ≤ length (R d) =
      (λ d l e.
      let in_k : i + 1 ≤ k (f.rates.source d) = subst (λ b. i + 1 ≤ k b) (sym e)
      (let g : i + 1 ≤ k a = omega (arith, h.left) in g) in
      let rise : f.rates.produced d (i + 1) ≤ f.rates.produced d (k (f.rates.source d)) =
      wired.sound.produced_rises d (i + 1) (k (f.rates.source d)) in_k in
      omega (arith, r.lengths d l)) in
      let dealt : spread size (f.outs a) (put f R a i) c ≡
      between (f.rates.initial c + f.rates.produced c i) (f.rates.initial c + f.rates.produced c (i + 1)) (R c) =
      put_is_dealt s n R c i good h.known far in
      let piece : block f x m.lists i c ≡ between (f.rates.initial c + f.rates.produced c i)
      (f.rates.initial c + f.rates.produced c (i + 1)) (R c) =
      ap (λ b. spread size (f.outs a) b c) whole ∙ dealt in
      let rise : f.rates.produced c i ≤ f.rates.produced c (i + 1) =
      wired.sound.produced_rises c i (i + 1) (omega arith) in
      let on = take_on (R c) (f.rates.initial c + f.rates.produced c i) (f.rates.initial c + f.rates.produced c (i + 1))
      (omega arith) in
      let old : m.lists c ≡ take (f.rates.initial c + f.rates.produced c i) (R c) = keep.lists c h.known in
      ap (λ ys. ys ++ block f x m.lists i c) old ∙ (ap
      (λ ys. take (f.rates.initial c + f.rates.produced c i) (R c) ++ ys) piece ∙ sym on)

  new_lists : (m : Machine T) → Keeps f k cap R m → (c d : ℕ) → CanPut f k cap m c → d < f.rates.channels → (t : Bool) →
      eqb c d ≡ t →
      cond t (m.lists d ++ block f x m.lists (m.gave d) d) (m.lists d) ≡
      take (f.rates.initial d + f.rates.produced d (cond t (m.gave d + 1) (m.gave d))) (R d)
  new_lists m keep c d h l true t = put_lists m keep d (subst (CanPut f k cap m) (eqb-true c d t) h)
  new_lists m keep c d h l false t = keep.lists d l

  pub keeps_one : (m : Machine T) → Keeps f k cap R m → (e : Event) → IsAllowed f k cap m e →
      Keeps f k cap R (happens f x m e)
  keeps_one m keep (Take c) h = record {
    counts = count_one f wired.sound x k cap m keep.counts (Take c) h;
    lists = keep.lists;
  }
  keeps_one m keep (Put c) h = record {
    counts = count_one f wired.sound x k cap m keep.counts (Put c) h;
    lists = λ d l. new_lists m keep c d h l (eqb c d) refl;
  }

  pub keeps_run : (m : Machine T) (es : List Event) → Keeps f k cap R m → IsRun f x k cap m es →
      Keeps f k cap R (after f x m es)
  keeps_run m [] keep run = keep
  keeps_run m (e ∷ es) keep run = keeps_run (happens f x m e) es (keeps_one m keep e run.0) run.1

  pub keeps_start : ((c : ℕ) → c < f.rates.channels → f.rates.initial c ≤ cap c) → Keeps f k cap R (at_start f)
  keeps_start fits = record {
    counts = count_start f wired.sound x k cap fits;
    lists = λ c l. rw (wired.sound.produced_none, add-zero) (sym (r.begins c l));
  }
