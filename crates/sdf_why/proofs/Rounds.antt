-- Loops of a graph, and what is left if actors are taken away that nothing feeds.
use Rattle.std.proofs.Common.{◌≡◌, ◌<◌, ◌≤◌, ◌+◌, ◌⊎◌, inl, inr, ℕ, List, [], ◌∷◌, ◌++◌, length, set, Bool, true, false}
use Rattle.std.proofs.Common.{Option, Some, None, cond, refl, sym, ap, ◌∙◌, subst, arith, length-append}
use Rattle.std.specs.Prelude.{option_and_then, MatchOption, find, is_some}
use Rattle.std.specs.List.{range_with_len}
use Rattle.std.proofs.Common.{zero, suc, ◌-◌}
use Rattle.std.specs.Option.{option_map_or}
use Rattle.std.proofs.lemmas.Bool.{cases_eq, cases_lt, false≢true}
use Rattle.std.proofs.Common.{All, reverse}
use Rattle.std.proofs.lemmas.List.{get_or-set_same, get_or-set_other, get_or_past, reverse-append}
use Rattle.std.proofs.lemmas.List.Elements.{All-nil, All-cons, All-head, All-tail, All-append}
use Rattle.std.proofs.lemmas.Option.{none-some, slice_get_past}
use Rattle.sdf_graph.specs.Rates.{GraphValue, channel}
use Rattle.sdf_why.specs.declared.cycle.Halt.{Halt}
use Rattle.sdf_why.specs.Cycles.{short_at, HasNoCycle, IsChain, IsCycle, none_waits, ends}
use Rattle.sdf_graph.specs.Marks.{is_marked}
use Rattle.sdf_why.specs.Loops.{AreFed, AreTargets, Feeds, HoldsLoops, IsFedBy, IsLoop, IsUnfed, LeadBack}

some_same : (a b : ℕ) → Some a ≡ Some b → a ≡ b
some_same a b same = ap (λ (o : Option ℕ). option_map_or (λ (x : ℕ). x) o 0) same

-- what is found does
found_some : (p : ℕ → Bool) (xs : List ℕ) (a : ℕ) → find p xs ≡ Some a → p a ≡ true
found_some p [] a is = absurd (none-some a is)
found_some p (x ∷ xs) a is = go (p x) refl (found_some p xs a)
  where
    go : (b : Bool) → p x ≡ b → (find p xs ≡ Some a → p a ≡ true) → p a ≡ true
    go true same rest =
        subst (λ y. p y ≡ true) (some_same x a (sym (ap (λ b. cond b (Some x) (find p xs)) same) ∙ is)) same
    go false same rest = rest (sym (ap (λ b. cond b (Some x) (find p xs)) same) ∙ is)

-- where nothing is found, nothing does
found_none : (p : ℕ → Bool) (from n a : ℕ) → find p (range_with_len from n) ≡ None → a < n → p (from + a) ≡ true → ⊥
found_none p from zero a none within is = absurd (omega (arith, within))
found_none p from (suc n) a none within is = go (p from) refl (found_none p (from + 1) n)
  where
    go : (b : Bool) → p from ≡ b →
        ((i : ℕ) → find p (range_with_len (from + 1) n) ≡ None → i < n → p (from + 1 + i) ≡ true → ⊥) → ⊥
    go true same more = none-some from
        (sym none ∙ ap (λ b. cond b (Some from) (find p (range_with_len (from + 1) n))) same)
    go false same more = next (cases_eq a 0)
      where
        rest : find p (range_with_len (from + 1) n) ≡ None
        rest = sym (ap (λ b. cond b (Some from) (find p (range_with_len (from + 1) n))) same) ∙ none

        next : (a ≡ 0) ⊎ (a ≡ 0 → ⊥) → ⊥
        next (inl first) = false≢true (sym same ∙ subst (λ x. p x ≡ true) (omega (arith, first)) is)
        next (inr later) = more (a - 1) rest (omega (arith, within, later))
            (subst (λ x. p x ≡ true) (omega (arith, later)) is)

short_within : (halts : List Halt) (a c : ℕ) → short_at halts a ≡ Some c → a < length halts
short_within halts a c told = go (cases_lt a (length halts))
  where
    go : (a < length halts) ⊎ (length halts ≤ a) → a < length halts
    go (inl known) = known
    go (inr past) = absurd (none-some c
        (sym (ap (option_and_then (λ (h : Halt). h.short)) (slice_get_past halts a past)) ∙ told))

some_is : (o : Option ℕ) → is_some o ≡ true → (c : ℕ) × (o ≡ Some c)
some_is None is = absurd (false≢true is)
some_is (Some c) is = (c, refl)

module _ (g : GraphValue) where
  -- one more channel at the end of a walk back
  back_more : (a : ℕ) (cs : List ℕ) (b c : ℕ) → LeadBack g a cs b → c < length g.channels → (channel g c).to ≡ b →
      LeadBack g a (cs ++ c ∷ []) (channel g c).from
  back_more a [] b c same known into = (known, into ∙ sym same, refl)
  back_more a (d ∷ cs) b c back known into = (back.0, back.1, back_more (channel g d).from cs b c back.2 known into)

  -- an actor of a loop is fed by one of a loop
  loop_fed : (kept : List Bool) (a : ℕ) (cs : List ℕ) → HoldsLoops g kept → 0 < length cs → LeadBack g a cs a →
      (c : ℕ) × Feeds g kept a c
  loop_fed kept a [] holds some back = absurd (omega (arith, some))
  loop_fed kept a (c ∷ cs) holds some back = (
    c,
    record {
      known = back.0;
      into = back.1;
      source = holds (channel g c).from (cs ++ c ∷ []) (omega (arith, length-append cs (c ∷ [])))
          (back_more (channel g c).from cs a c back.2 back.0 back.1);
    },
  )

  -- so none is taken away
  pub loops_stay : (kept : List Bool) (a : ℕ) → HoldsLoops g kept → IsUnfed g kept a →
      HoldsLoops g (set kept a false)
  loops_stay kept a holds unfed b cs some back = go (cases_eq b a)
    where
      go : (b ≡ a) ⊎ (b ≡ a → ⊥) → is_marked (set kept a false) b ≡ true
      go (inl same) =
          let fed = loop_fed kept b cs holds some back in
          absurd (unfed.none fed.0 (subst (λ x. Feeds g kept x fed.0) same fed.1))
      go (inr other) = get_or-set_other kept a b false false other ∙ holds b cs some back

  -- a channel leads to each actor of a loop
  pub targets_hold : (kept : List Bool) → AreTargets g (length g.channels) kept → HoldsLoops g kept
  targets_hold kept all a [] some back = absurd (omega (arith, some))
  targets_hold kept all a (c ∷ cs) some back = subst (λ x. is_marked kept x ≡ true) back.1 (all c back.0)

  -- one more channel
  pub target_more : (kept : List Bool) (n : ℕ) → AreTargets g n kept → (channel g n).to < length kept →
      AreTargets g (n + 1) (set kept (channel g n).to true)
  target_more kept n all within c less = go (cases_eq (channel g c).to (channel g n).to)
    where
      go : ((channel g c).to ≡ (channel g n).to) ⊎ ((channel g c).to ≡ (channel g n).to → ⊥) →
          is_marked (set kept (channel g n).to true) (channel g c).to ≡ true
      go (inl same) = subst (λ x. is_marked (set kept (channel g n).to true) x ≡ true) (sym same)
          (get_or-set_same kept (channel g n).to true false within)
      go (inr other) = get_or-set_other kept (channel g n).to (channel g c).to true false other
          ∙ all c (before (cases_lt c n))
        where
          before : (c < n) ⊎ (n ≤ c) → c < n
          before (inl known) = known
          before (inr past) = absurd (other (ap (λ i. (channel g i).to) (omega (arith, less, past))))

  -- the channels of a loop are there, in any order
  back_known : (a : ℕ) (cs : List ℕ) (b : ℕ) → LeadBack g a cs b → All (λ c. c < length g.channels) cs
  back_known a [] b same = All-nil (λ c. c < length g.channels)
  back_known a (c ∷ cs) b back =
      All-cons (λ c. c < length g.channels) c cs back.0 (back_known (channel g c).from cs b back.2)

  turned : (P : ℕ → Type 0) (xs : List ℕ) → All P xs → All P (reverse xs)
  turned P [] all = all
  turned P (x ∷ xs) all = subst (All P) (sym (reverse-append (x ∷ []) xs)) (All-append P (reverse xs) (x ∷ [])
      (turned P xs (All-tail P x xs all)) (All-cons P x [] (All-head P x xs all) (All-nil P)))

  pub loop_known : (cs : List ℕ) → IsLoop g cs → All (λ c. c < length g.channels) (reverse cs)
  loop_known cs loop =
      turned (λ c. c < length g.channels) cs (back_known loop.actor cs loop.actor loop.round)

  module _ (halts : List Halt) where
    -- a chain of actors that wait leads back
    chain_back : (a : ℕ) (cs : List ℕ) (b : ℕ) → IsChain g halts a cs b → LeadBack g a cs b
    chain_back a [] b same = same
    chain_back a (c ∷ cs) b chain = (
      chain.1.known,
      chain.1.into,
      subst (λ m. LeadBack g m cs b) (sym chain.1.source) (chain_back chain.0 cs b chain.2),
    )

    pub cycle_loops : (cs : List ℕ) → IsCycle g halts cs → IsLoop g cs
    cycle_loops cs cycle = record {
      actor = cycle.actor;
      some = cycle.some;
      round = chain_back cycle.actor cs cycle.actor cycle.round;
    }

    -- all of the kept ones, and nothing else, are told what feeds them
    pub fed_all : (kept : List Bool) → length halts ≡ length kept →
        ((a : ℕ) → a < length kept → IsFedBy g kept a (short_at halts a)) → AreFed g kept halts
    fed_all kept all fed a = go (cases_lt a (length kept))
      where
        go : (a < length kept) ⊎ (length kept ≤ a) → IsFedBy g kept a (short_at halts a)
        go (inl within) = fed a within
        go (inr past) = record {
          yes = λ is. absurd (false≢true (sym (get_or_past kept a false past) ∙ is));
          no = λ _. ap (option_and_then (λ (h : Halt). h.short)) (slice_get_past halts a (omega (arith, past, all)));
        }

    -- a kept actor waits for a channel that feeds it
    waits_kept : (kept : List Bool) (a : ℕ) → ((b : ℕ) → IsUnfed g kept b → ⊥) → AreFed g kept halts →
        is_marked kept a ≡ true → (c : ℕ) × (short_at halts a ≡ Some c) × Feeds g kept a c
    waits_kept kept a none fed is = go (short_at halts a) refl
      where
        told : (o : Option ℕ) → short_at halts a ≡ o → MatchOption o ((c : ℕ) → Feeds g kept a c → ⊥) (Feeds g kept a)
        told o same = subst (λ x. MatchOption x ((c : ℕ) → Feeds g kept a c → ⊥) (Feeds g kept a)) same ((fed a).yes is)

        go : (o : Option ℕ) → short_at halts a ≡ o → (c : ℕ) × (short_at halts a ≡ Some c) × Feeds g kept a c
        go None same = absurd (none a (record { kept_yet = is; none = told None same }))
        go (Some c) same = (c, same, told (Some c) same)

    -- what waits is kept
    kept_waits : (kept : List Bool) (a c : ℕ) → AreFed g kept halts → short_at halts a ≡ Some c →
        is_marked kept a ≡ true
    kept_waits kept a c fed waits = go (is_marked kept a) refl
      where
        go : (b : Bool) → is_marked kept a ≡ b → is_marked kept a ≡ true
        go true same = same
        go false same = absurd (none-some c (sym ((fed a).no same) ∙ waits))

    -- and so is what it waits for
    chain_kept : (kept : List Bool) (a : ℕ) (cs : List ℕ) (b : ℕ) → ((x : ℕ) → IsUnfed g kept x → ⊥) →
        AreFed g kept halts → is_marked kept a ≡ true → IsChain g halts a cs b → is_marked kept b ≡ true
    chain_kept kept a [] b none fed is same = subst (λ x. is_marked kept x ≡ true) same is
    chain_kept kept a (c ∷ cs) b none fed is chain =
        let feeds = waits_kept kept a none fed is in
        let same : feeds.0 ≡ c = some_same feeds.0 c (sym feeds.1 ∙ chain.1.told) in
        let source : is_marked kept (channel g c).from ≡ true =
        subst (λ x. is_marked kept (channel g x).from ≡ true) same feeds.2.source in
        chain_kept kept chain.0 cs b none fed (subst (λ x. is_marked kept x ≡ true) chain.1.source source) chain.2

    -- where the walk ends, there is no loop
    pub no_loop : (kept : List Bool) → HoldsLoops g kept → ((a : ℕ) → IsUnfed g kept a → ⊥) → AreFed g kept halts →
        HasNoCycle g halts → (cs : List ℕ) → IsLoop g cs → ⊥
    no_loop kept holds none fed (none_waits nobody) cs loop =
        let feeds = waits_kept kept loop.actor none fed (holds loop.actor cs loop.some loop.round) in
        found_none (λ a. is_some (short_at halts a)) 0 (length halts) loop.actor nobody
        (short_within halts loop.actor feeds.0 feeds.1)
        (subst (λ x. is_some (short_at halts x) ≡ true) (omega arith) (ap is_some feeds.1))
    no_loop kept holds none fed (ends a chain b first way stops) cs loop =
        let waits : is_some (short_at halts a) ≡ true =
        found_some (λ x. is_some (short_at halts x)) (range_with_len 0 (length halts)) a first in
        let here = some_is (short_at halts a) waits in
        let is = chain_kept kept a chain b none fed (kept_waits kept a here.0 fed here.1) way in
        let feeds = waits_kept kept b none fed is in
        stops feeds.0 (channel g feeds.0).from (record {
          known = feeds.2.known;
          into = feeds.2.into;
          told = feeds.1;
          source = refl;
        })
