-- What an actor puts has its length also from the state that a history left it in.
use Rattle.std.proofs.Common.{◌≡◌, ℕ, ◌+◌, ◌-◌, ◌≤◌, ◌<◌, List, [], ◌++◌, length, get_or, None, refl, sym, ap, ◌∙◌}
use Rattle.std.proofs.Common.{subst, inl, inr, ◌⊎◌, arith}
use Rattle.std.specs.List.{sum_by, range_with_len}
use Rattle.std.proofs.lemmas.Bool.{cases_lt}
use Rattle.std.proofs.lemmas.List.{get_or_append_left, get_or-append_right, length-append}
use Rattle.sdf_graph.specs.Periods.{Divides}
use Rattle.sdf_actor.specs.declared.node.Node.{Node}
use Rattle.sdf_actor.specs.declared.node.Node.TheVariants.{Source, Sink, Inner}
use Rattle.sdf_actor.specs.declared.net_state.NetState.{NetState}
use Rattle.sdf_actor.specs.Resumed.{steps_from, BeginsIn, MayBegin}
use Rattle.sdf_actor.specs.Histories.{taken_before}
use Rattle.sdf_actor.specs.Nets.{Netlist, node, wiring, inputs_of, consumed_at, cycle_of, IsNet}
use Rattle.sdf_actor.specs.NetStates.{AreWhole, state_left, IsNetState}
use Rattle.sdf_actor.specs.Steps.{Steps, phase, total_in, total_out, state_after, PutsFit}
use Rattle.sdf_actor.proofs.Agree.{length_taken_before}
use Rattle.sdf_actor.proofs.Continuing.{phases, state_on}
use Rattle.sdf_actor.proofs.Exists.{blocks_long}
use Rattle.sdf_actor.proofs.Netlists.{wired, size_in_is, sum_to_one}

module _ {A S T : Type 0} (s : Steps A S T) (x : A) (fits : PutsFit s x) (before : List (List T))
    (whole : Divides (s.cycle x) (length before))
    (sized : (i : ℕ) → i < length before → length (get_or before i []) ≡ total_in s x (phase s x i)) where
  abbrev state : S
  state = state_after s x before

  same : BeginsIn s (steps_from s state) x state x
  same = record {
    inputs = refl;
    outputs = refl;
    cycle = refl;
    take = refl;
    put = refl;
    start = refl;
    next = refl;
    puts = refl;
  }

  turn : (j : ℕ) → phase s x (length before + j) ≡ phase s x j
  turn j = phases same (length before) whole j

  all_sized : (past : List (List T)) → ((i : ℕ) → i < length past →
      length (get_or past i []) ≡ total_in s x (phase s x i)) →
      (i : ℕ) → i < length (before ++ past) → length (get_or (before ++ past) i []) ≡ total_in s x (phase s x i)
  all_sized past each i h = go (cases_lt i (length before))
    where
      go : (i < length before) ⊎ (length before ≤ i) →
          length (get_or (before ++ past) i []) ≡ total_in s x (phase s x i)
      go (inl low) = ap length (get_or_append_left before past [] i low) ∙ sized i low
      go (inr high) =
          let at : length before + (i - length before) ≡ i = omega arith in
          ap length (get_or-append_right before past (length before) i [] refl high) ∙
          (each (i - length before) (omega (arith, length-append before past)) ∙
          ap (total_in s x) (sym (turn (i - length before)) ∙ ap (phase s x) at))

  pub fits_on : PutsFit (steps_from s (state_after s x before)) x
  fits_on past now each size =
      let at : phase s x (length (before ++ past)) ≡ phase s x (length past) =
      ap (phase s x) (length-append before past) ∙ turn (length past) in
      let reached : state_after s x (before ++ past) ≡ state_after (steps_from s state) x past =
      state_on same (length before) whole before past refl refl in
      (λ κ. length (s.puts x (sym at κ) (sym reached κ) now)) ∙
      (fits (before ++ past) now (all_sized past each) (size ∙ ap (total_in s x) (sym at)) ∙
      ap (total_out s x) at)

-- so it is in a net after whole periods
module _ {A S T : Type 0} {s : Steps A S T} {n : Netlist A T} (good : IsNet s n) {inputs : List (List T)} {k : ℕ → ℕ}
    (whole : AreWhole s n k) {rest : NetState T S} (is : IsNetState s n inputs k rest) (fits : (x : A) → PutsFit s x)
    (a : ℕ) (known : a < length n.nodes) where
  open is use {history, is as r, left}

  abbrev taken : List (List T)
  taken = taken_before (wiring s n) history a (k a)

  -- the blocks that an actor took have their lengths
  blocks : (x : A) → node n a ≡ Inner x → (i : ℕ) → i < k a → length (get_or taken i []) ≡ total_in s x (phase s x i)
  blocks x e i h =
      blocks_long (wired s n good) history a (k a) known
      (λ c l t.
      let own : (wiring s n).rates.consumed c (k ((wiring s n).rates.target c)) ≡
      (wiring s n).rates.consumed c (k a) = ap (λ b. (wiring s n).rates.consumed c (k b)) t in
      omega (arith, r.lengths c l, r.enough c l, own))
      (k a) (omega arith) i h ∙
      (size_in_is s n good a i known ∙
      (ap (λ y. sum_by (λ p. consumed_at s y p (i + 1) - consumed_at s y p i) (range_with_len 0 (inputs_of s y))) e ∙
      ap (λ f. sum_by f (range_with_len 0 (s.inputs x))) (λ κ p. sum_to_one (λ j. s.take x p (phase s x j)) i κ)))

  -- so each node may begin there
  pub may_begin : MayBegin s (get_or rest.states.items a None) (node n a)
  may_begin = go (node n a) refl
    where
      go : (x : Node A) → node n a ≡ x → MayBegin s (get_or rest.states.items a None) x
      go (Source ext block) e = tt
      go (Sink ext block) e = tt
      go (Inner x) e =
          let long : length taken ≡ k a = length_taken_before (wiring s n) history a (k a) in (
            state_after s x taken,
            left.states a known ∙ ap (λ y. state_left s y taken) e,
            fits_on s x (fits x) taken
                (subst (Divides (s.cycle x)) (sym long)
                (subst (λ y. Divides (cycle_of s y) (k a)) e (whole.cycles a known)))
                (λ i h. blocks x e i (omega (arith, long, h))),
          )
