-- What parts of input lists are.
use Rattle.std.proofs.Common.{◌≡◌, ℕ, ◌+◌, ◌-◌, ◌*◌, ◌≤◌, ◌<◌, List, [], ◌++◌, length, get_or, take, drop, sym, ap}
use Rattle.std.proofs.Common.{◌∙◌, arith, refl, ⊎_elim}
use Rattle.std.specs.List.{between}
use Rattle.std.proofs.Math.Nat.{mul-le-mul_right}
use Rattle.std.proofs.lemmas.Bool.{cases_lt}
use Rattle.std.proofs.lemmas.List.{get_or-map, get_or_past, length-map, length-take, length-drop, nil_from_length}
use Rattle.std.proofs.lemmas.List.{drop-drop}
use Rattle.std.proofs.Common.{take-add, add-mul, Result, Ok, Err, IsErrAnd}
use Rattle.std.specs.Prelude.{MatchResult}
use Rattle.std.proofs.lemmas.List.Edits.{length-between}
use Rattle.sdf_actor.specs.declared.sides.Lists.TheVariants.{Inputs}
use Rattle.sdf_actor.specs.Nets.{Netlist}
use Rattle.sdf_actor.specs.NetStates.{AreJoined}
use Rattle.sdf_actor.specs.Sides.{period_samples}
use Rattle.sdf_queues.specs.RunResults.{HasInputs, IsRunFault}
use Rattle.sdf_queues.specs.Feeds.{AreFull}
use Rattle.sdf_queues.specs.declared.fault.RunFault.{RunFault}
use Rattle.sdf_queues.specs.declared.fault.RunFault.TheVariants.{OutOfMemory, InputLength, NotHomed, Patience, NoWorker}
use Rattle.sdf_queues.specs.declared.fault.RunFault.TheVariants.{SessionFailed}
use Rattle.sdf_parallel.specs.Cuts.{cut}
use Rattle.sdf_parallel.specs.Parts.{read_by}

none_between : {T : Type 0} (i j : ℕ) (xs : List T) → xs ≡ [] → between i j xs ≡ []
none_between i j xs none = nil_from_length (between i j xs)
    (omega (arith, length-take (j - i) (drop i xs), length-drop i xs, ap length none))

-- a part of each list
pub cut_at : {T : Type 0} (i j : ℕ) (inputs : List (List T)) (e : ℕ) →
    get_or (cut i j inputs) e [] ≡ between i j (get_or inputs e [])
cut_at i j inputs e = ⊎_elim (λ l. get_or-map (between i j) inputs e [] [] l) past (cases_lt e (length inputs))
  where
    past : length inputs ≤ e → get_or (cut i j inputs) e [] ≡ between i j (get_or inputs e [])
    past l = get_or_past (cut i j inputs) e [] (omega (arith, length-map inputs (between i j))) ∙
        sym (none_between i j (get_or inputs e []) (get_or_past inputs e [] l))

between_on : {T : Type 0} (xs : List T) (i j k : ℕ) → i ≤ j → j ≤ k → between i k xs ≡ between i j xs ++ between j k xs
between_on xs i j k h g =
    let size : k - i ≡ (j - i) + (k - j) = omega arith in
    let place : i + (j - i) ≡ j = omega arith in
    ap (λ n. take n (drop i xs)) size ∙
    (take-add (j - i) (k - j) (drop i xs) ∙
    ap (λ ys. take (j - i) (drop i xs) ++ take (k - j) ys)
    (drop-drop (j - i) i xs ∙ ap (λ n. drop n xs) place))

module _ {A T : Type 0} (n : Netlist A T) (q : List ℕ) (inputs : List (List T)) where
  abbrev u : ℕ
  u = period_samples n.nodes Inputs q

  -- parts of the lists, one behind the other
  pub reads_join : (from mid to : ℕ) → from ≤ mid → mid ≤ to →
      AreJoined (read_by n q inputs from mid) (read_by n q inputs mid to) (read_by n q inputs from to)
  reads_join from mid to h g e =
      let first = cut_at (from * u) (mid * u) inputs e in
      let last = cut_at (mid * u) (to * u) inputs e in
      cut_at (from * u) (to * u) inputs e ∙
      (between_on (get_or inputs e []) (from * u) (mid * u) (to * u) (mul-le-mul_right u h) (mul-le-mul_right u g) ∙
      sym (λ κ. first κ ++ last κ))

  pub reads_many : (from to : ℕ) → length (read_by n q inputs from to) ≡ length inputs
  reads_many from to = length-map inputs (between (from * u) (to * u))

  module _ (periods : ℕ) (given : HasInputs n q periods inputs) (full : AreFull n q periods inputs) (from to : ℕ)
      (order : from ≤ to) (within : to ≤ periods) where
    pub reaches : (e : ℕ) → e < length inputs → to * u ≤ length (get_or inputs e [])
    reaches e l = omega (arith, full e l, mul-le-mul_right u within)

    size : to * u - from * u ≡ (to - from) * u
    size =
        let all : to * u ≡ from * u + (to - from) * u =
        ap (λ k. k * u) (let z : to ≡ from + (to - from) = omega arith in z) ∙ add-mul from (to - from) u in
        omega arith

    long : (e : ℕ) → e < length inputs → length (get_or (read_by n q inputs from to) e []) ≡ (to - from) * u
    long e l =
        ap length (cut_at (from * u) (to * u) inputs e) ∙
        (length-between (get_or inputs e []) (from * u) (to * u) (reaches e l) ∙ size)

    pub are_full : AreFull n q (to - from) (read_by n q inputs from to)
    are_full e l = long e (omega (arith, reads_many from to))

    pub are_given : HasInputs n q (to - from) (read_by n q inputs from to)
    are_given = record {
      count = reads_many from to ∙ given.count;
      even = λ e l. omega (
        arith,
        long e (omega (arith, reads_many from to)),
        long 0
            (omega (arith, reads_many from to)),
      );
      enough = λ e l. omega (arith, long e (omega (arith, reads_many from to)));
    }

    -- a run on them has no fault but one of memory
    pub only_memory : (fault : RunFault) → IsRunFault n q (to - from) (read_by n q inputs from to) fault →
        fault ≡ OutOfMemory
    only_memory OutOfMemory why = refl
    only_memory InputLength why = absurd (why are_given)
    only_memory NotHomed why = absurd why
    only_memory Patience why = absurd why
    only_memory NoWorker why = absurd why
    only_memory SessionFailed why = absurd why

-- an answer that hands a fault of memory on
pub refused : {X : Type 0} (r : Result X RunFault) (P : X → Type 0) (e : RunFault) → e ≡ OutOfMemory →
    IsErrAnd r (λ f. f ≡ e) → MatchResult r P (λ f. f ≡ OutOfMemory)
refused (Err f) P e is from = from ∙ is
refused (Ok x) P e is from = absurd from

-- what holds of a result's parts
pub matched : {X E : Type 0} (P Q : X → Type 0) (F : E → Type 0) → ((x : X) → P x → Q x) → (r : Result X E) →
    MatchResult r P F → MatchResult r Q F
matched P Q F ok (Ok x) h = ok x h
matched P Q F ok (Err e) h = h
