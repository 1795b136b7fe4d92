-- A net that was started late leaves what the run from the start leaves.
use Rattle.std.proofs.Common.{◌≡◌, ℕ, zero, suc, ◌+◌, ◌-◌, ◌*◌, ◌%◌, ◌≤◌, ◌<◌, List, [], ◌++◌, length, map, get_or}
use Rattle.std.proofs.Common.{Some, refl, sym, ap, ◌∙◌, subst, arith, add-one}
use Rattle.std.specs.List.{between, sum_by, range_with_len}
use Rattle.std.proofs.Math.Nat.{mul-add, add-mul-mod_self_right}
use Rattle.std.proofs.lemmas.List.{drop_at, length-append}
use Rattle.std.proofs.lemmas.List.Sums.{sum_by-cons}
use Rattle.sdf_graph.specs.Rates.{sum_to}
use Rattle.sdf_graph.specs.Periods.{Divides}
use Rattle.sdf_actor.specs.declared.node.Node.{Node}
use Rattle.sdf_actor.specs.declared.node.Node.TheVariants.{Source, Sink, Inner}
use Rattle.sdf_actor.specs.declared.net_state.NetState.{NetState}
use Rattle.sdf_actor.specs.Histories.{IsWired, taken_before, size_in}
use Rattle.sdf_actor.specs.Nets.{Netlist, node, wiring, answers, answer_of, inputs_of, consumed_at, cycle_of}
use Rattle.sdf_actor.specs.Nets.{to_port, IsNet}
use Rattle.sdf_actor.specs.NetStates.{Leaves, state_left}
use Rattle.sdf_actor.specs.Steps.{Steps, phase, total_in, state_after}
use Rattle.sdf_actor.proofs.Theorems.{nets_are_wired, ports_have_channels, between_past}
use Rattle.sdf_warm_up.specs.Laws.{StartsLate, StatesAgree}
use Rattle.sdf_warm_up.specs.Warm.{AreTaken, Forgets, NodeForgets}
use Rattle.sdf_warm_up.proofs.Counting.{length_taken_before, length_blocks, blocks}
use Rattle.sdf_warm_up.proofs.Late.{AreSized, AnswersForget, IsLate, held_same, all_short, all_long}
use Rattle.sdf_warm_up.proofs.Late.{all_short_sized, all_long_sized}

sum_to_one : (f : ℕ → ℕ) (i : ℕ) → sum_to f (i + 1) - sum_to f i ≡ f i
sum_to_one f i = rw add-one (omega arith)

sum_by_along : (g h f : ℕ → ℕ) (many : ℕ) → ((p : ℕ) → p < many → g (f p) ≡ h p) → (from : ℕ) (rest : ℕ) →
    from + rest ≡ many →
    sum_by g (map f (range_with_len from rest)) ≡ sum_by h (range_with_len from rest)
sum_by_along g h f many same from zero e = refl
sum_by_along g h f many same from (suc rest) e =
    let here : g (f from) ≡ h from = same from (omega arith) in
    let more = sum_by_along g h f many same (from + 1) rest (omega arith) in
    sum_by-cons g (f from) (map f (range_with_len (from + 1) rest)) ∙
    (ap (λ m. m + sum_by g (map f (range_with_len (from + 1) rest))) here ∙
    (ap (λ m. h from + m) more ∙ sym (sum_by-cons h from (range_with_len (from + 1) rest))))

-- what a firing of an actor of a net takes in all
size_is : {A S T : Type 0} (s : Steps A S T) (n : Netlist A T) → IsNet s n →
    (a i : ℕ) → a < length n.nodes → (x : A) → node n a ≡ Inner x →
    size_in (wiring s n) a i ≡ total_in s x (phase s x i)
size_is s n good a i l x is =
    sum_by_along (λ c. (wiring s n).rates.consumed c (i + 1) - (wiring s n).rates.consumed c i)
    (λ p. consumed_at s (node n a) p (i + 1) - consumed_at s (node n a) p i) (to_port n a) (inputs_of s (node n a))
    (λ p h. let at = (ports_have_channels s n a p good l).0 h in
    λ κ. consumed_at s (node n (at.0 κ)) (at.1 κ) (i + 1) - consumed_at s (node n (at.0 κ)) (at.1 κ) i)
    0 (inputs_of s (node n a)) (omega arith) ∙
    (ap (λ y. sum_by (λ p. consumed_at s y p (i + 1) - consumed_at s y p i) (range_with_len 0 (inputs_of s y))) is ∙
    ap (λ f. sum_by f (range_with_len 0 (s.inputs x))) (λ κ p. sum_to_one (λ j. s.take x p (phase s x j)) i κ))

-- after whole cycles more the phase is the same
phases : {A S T : Type 0} (s : Steps A S T) (x : A) (whole i j : ℕ) → Divides (s.cycle x) whole → j ≡ i + whole →
    phase s x i ≡ phase s x j
phases s x whole i j cycles e =
    sym (ap (λ n. n % s.cycle x) (let z : j ≡ i + cycles.0 * s.cycle x = omega (arith, cycles.1) in z)
    ∙ add-mul-mod_self_right i cycles.0 (s.cycle x))

module _ {A S T : Type 0} {s : Steps A S T} {n : Netlist A T} {first later all : List (List T)}
    {k m memory since : ℕ → ℕ} {w : List ℕ} {V U : ℕ → List T}
    (h : StartsLate s n first later all k m memory since w V U) where
  here : IsWired (wiring s n)
  here = nets_are_wired s n h.net

  module _ (a : ℕ) (known : a < length n.nodes) (x : A) (is : node n a ≡ Inner x) where
    cycles : Divides (s.cycle x) (k a)
    cycles = subst (λ y. Divides (cycle_of s y) (k a)) is (h.whole.cycles a known)

    forgets : Forgets s x (memory a)
    forgets = subst (λ y. NodeForgets s y (memory a)) is (h.warm.forgets a known)

    are_taken : (past : List (List T)) → AreSized (wiring s n) a past → AreTaken s x past
    are_taken past sized i l = sized i l ∙ size_is s n h.net a i known x is

    -- the state after blocks of which the last ones are the same
    state_same : (before over more : List (List T)) → length before ≡ since a → length over ≡ k a + since a →
        memory a ≤ length more → AreSized (wiring s n) a (before ++ more) → AreSized (wiring s n) a (over ++ more) →
        state_after s x (before ++ more) ≡ state_after s x (over ++ more)
    state_same before over more e f g sized also =
        forgets before over more (phases s x (k a) (length before) (length over) cycles (omega arith)) g
        (are_taken (before ++ more) sized) (are_taken (over ++ more) also)

  forget : AnswersForget (wiring s n) (answers s n all) (answers s n later) k since memory
  forget a before over more now known e f g sized also = go (node n a) refl
    where
      many : length (over ++ more) ≡ length (before ++ more) + k a
      many = omega (arith, length-append before more, length-append over more)

      go : (x : Node A) → node n a ≡ x → answer_of s later x (before ++ more) now ≡ answer_of s all x (over ++ more) now
      go (Source ext block) is =
          let read : length (get_or first ext []) ≡ block * k a = h.read a ext block known is in
          let i : ℕ = length (before ++ more) in
          let from : block * length (over ++ more) ≡ block * i + block * k a =
          ap (λ j. block * j) many ∙ mul-add block i (k a) in
          let to : block * (length (over ++ more) + 1) ≡ block * (i + 1) + block * k a =
          ap (λ j. block * j) (let z : length (over ++ more) + 1 ≡ i + 1 + k a = omega (arith, many) in z) ∙
          mul-add block (i + 1) (k a) in
          sym ((λ κ. between (from κ) (to κ) (h.joined ext κ)) ∙
          (between_past (get_or first ext [] ++ get_or later ext []) (block * k a) (block * i) (block * (i + 1)) ∙
          ap (between (block * i) (block * (i + 1)))
          (drop_at (get_or first ext []) (get_or later ext []) (block * k a) read)))
      go (Sink ext block) is = refl
      go (Inner x) is =
          let turn = phases s x (k a) (length (before ++ more)) (length (over ++ more))
          (cycles a known x is) many in
          let state = state_same a known x is before over more e f g sized also in
          λ κ. s.puts x (turn κ) (state κ) now

  late : IsLate (wiring s n) (answers s n all) (answers s n later) k m since memory w V U
  late = record {
    wired = here;
    period = h.whole.period;
    long = h.long;
    short = h.short;
    takes = h.warm.takes;
    forget = forget;
    order = h.order;
    counts = h.counts;
  }

  module _ (rest : NetState T S) (left : Leaves s n m U rest) where
    states : (a : ℕ) → a < length n.nodes → (x : Node A) → node n a ≡ x →
        state_left s x (taken_before (wiring s n) U a (m a)) ≡
        state_left s x (taken_before (wiring s n) V a (k a + m a))
    states a l (Source ext block) is = refl
    states a l (Sink ext block) is = refl
    states a l (Inner x) is =
        let g : since a ≤ m a = omega (arith, h.warm.within a l) in
        let f = wiring s n in
        let before : List (List T) = taken_before f U a (since a) in
        let over : List (List T) = taken_before f V a (k a + since a) in
        let more : List (List T) = blocks f U a (since a) (m a - since a) in
        let in_short : taken_before f U a (m a) ≡ before ++ more = all_short late a l g in
        let in_long : taken_before f V a (k a + m a) ≡ over ++ more = all_long late a l g in
        let same : state_after s x (before ++ more) ≡ state_after s x (over ++ more) =
        state_same a l x is before over more (length_taken_before f U a (since a))
        (length_taken_before f V a (k a + since a))
        (omega (arith, length_blocks f U a (since a) (m a - since a), h.warm.within a l))
        (all_short_sized late a l g) (all_long_sized late a l g) in
        ap Some (ap (state_after s x) in_short ∙ (same ∙ ap (state_after s x) (sym in_long)))

    pub leaves : Leaves s n (λ a. k a + m a) V rest
    leaves = record {
      nodes = left.nodes;
      states = λ a l. left.states a l ∙ states a l (node n a) refl;
      channels = left.channels;
      held = λ c l. left.held c l ∙
          held_same late c l (omega (arith, h.warm.within ((wiring s n).rates.target c) (here.sound.target_in c l)));
    }

pub states_agree : {A S T : Type 0} (s : Steps A S T) → StatesAgree s
states_agree s n first later all k m memory since w V U rest h left =
    leaves h rest left
