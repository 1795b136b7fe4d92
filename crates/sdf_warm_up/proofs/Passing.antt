-- What a pass over the channels does to the firings from which actors are looked at.
use Rattle.std.proofs.Common.{◌≡◌, ◌≢◌, ℕ, ◌+◌, ◌≤◌, ◌<◌, List, ◌∷◌, length, sym, subst, ap}
use Rattle.std.proofs.Common.{◌∙◌, ◌⊎◌, inl, inr, ⊎_elim, arith}
use Rattle.std.specs.Prelude.{slice_index}
use Rattle.std.proofs.lemmas.Bool.{cases_lt, cases_eq}
use Rattle.std.proofs.lemmas.List.{get_or-set_same, get_or-set_other}
use Rattle.sdf_graph.specs.Rates.{GraphValue, ChannelValue, rates, channel, rate_at, sum_to}
use Rattle.sdf_graph.proofs.Theorems.{sums_rise}
use Rattle.sdf_warm_up.specs.declared.warm_up.TheConstants.{MAX_FIRINGS}
use Rattle.sdf_warm_up.specs.declared.warm_up.Move.{Move}
use Rattle.sdf_warm_up.specs.declared.warm_up.Move.TheVariants.{Stays, MovesOn, TooFar}
use Rattle.sdf_warm_up.specs.WarmUps.{cold, IsLate, AreEarly, NoneIsLate, AreFar, on, EndsWalk, AreBehind, IsMovedOn}
use Rattle.sdf_warm_up.specs.WarmUps.{IsPass}

-- the first i channels have been looked at. A walk of n channels ends at the source of each other one that is not late,
-- and a longer one at theirs
pub record ArePassed (g : GraphValue) (memory : ℕ → ℕ) (since : List ℕ) (n i : ℕ) : Type 0 where
  pub past : (c : ℕ) → c < i →
      IsLate (channel g c) memory (slice_index since) ⊎ EndsWalk (rates g) (n + 1) (channel g c).from
  pub next : (c : ℕ) → i ≤ c → c < length g.channels →
      IsLate (channel g c) memory (slice_index since) ⊎ EndsWalk (rates g) n (channel g c).from

module _ (g : GraphValue) (memory : ℕ → ℕ) where
  cold_rises : (e : ChannelValue) (f h : ℕ → ℕ) → f e.from ≤ h e.from → cold e memory f ≤ cold e memory h
  cold_rises e f h l =
      let more = sums_rise (rate_at e.put) (f e.from + memory e.from) (h e.from + memory e.from) (omega arith) in
      omega (arith, more)

  -- a channel that is late with one that is too far has no late firing that is near
  pub none_is_late : (old : List ℕ) (c : ℕ) → c < length g.channels → (channel g c).from < g.actors →
      (channel g c).to < g.actors → AreEarly g memory old →
      AreFar (channel g c).take (cold (channel g c) memory (slice_index old)) → NoneIsLate g memory MAX_FIRINGS
  none_is_late old c known from to early far since late small =
      let e = channel g c in
      let more = cold_rises e (slice_index old) since (early since late e.from from) in
      let beyond = far (since e.to) (omega (arith, more, late c known)) in
      omega (arith, beyond, small e.to to)

  module _ (i : ℕ) (known : i < length g.channels) (from : (channel g i).from < g.actors) (old new : List ℕ)
      (on_list : (channel g i).to < length old) (moved : IsMovedOn (channel g i) memory old new) where
    edge : ChannelValue
    edge = channel g i

    at : slice_index new (channel g i).to ≡ moved.firing
    at = ap (λ xs. slice_index xs (channel g i).to) moved.is
        ∙ get_or-set_same old (channel g i).to moved.firing 0 on_list

    other : (a : ℕ) → a ≢ (channel g i).to → slice_index new a ≡ slice_index old a
    other a apart = ap (λ xs. slice_index xs a) moved.is ∙ get_or-set_other old (channel g i).to a moved.firing 0 apart

    rise : (a : ℕ) → slice_index old a ≤ slice_index new a
    rise a = ⊎_elim
        (λ same. let here : slice_index new a ≡ moved.firing = ap (slice_index new) same ∙ at in
        let before : slice_index old a ≡ slice_index old (channel g i).to = ap (slice_index old) same in
        omega (arith, here, before, moved.later))
        (λ apart. omega (arith, other a apart))
        (cases_eq a (channel g i).to)

    pub early_on : AreEarly g memory old → AreEarly g memory new
    early_on early since late a within = ⊎_elim
        (λ same. let here : slice_index new a ≡ moved.firing = ap (slice_index new) same ∙ at in
        let more = cold_rises (channel g i) (slice_index old) since (early since late (channel g i).from from) in
        let first = moved.first (since (channel g i).to) (omega (arith, more, late i known)) in
        let there : since a ≡ since (channel g i).to = ap since same in
        omega (arith, here, first, there))
        (λ apart. omega (arith, other a apart, early since late a within))
        (cases_eq a (channel g i).to)

    -- a channel that comes from another actor stays late
    stays_late : (c : ℕ) → (channel g c).from ≢ (channel g i).to → IsLate (channel g c) memory (slice_index old) →
        IsLate (channel g c) memory (slice_index new)
    stays_late c apart late =
        let put : sum_to (rate_at (channel g c).put) (slice_index new (channel g c).from + memory (channel g c).from)
        ≡ sum_to (rate_at (channel g c).put) (slice_index old (channel g c).from + memory (channel g c).from) =
        ap (λ n. sum_to (rate_at (channel g c).put) (n + memory (channel g c).from)) (other (channel g c).from apart) in
        let more = sums_rise (rate_at (channel g c).take) (slice_index old (channel g c).to)
        (slice_index new (channel g c).to) (rise (channel g c).to) in
        omega (arith, put, more, late)

    now_late : (channel g i).from ≢ (channel g i).to → IsLate (channel g i) memory (slice_index new)
    now_late apart =
        let put : sum_to (rate_at (channel g i).put) (slice_index new (channel g i).from + memory (channel g i).from)
        ≡ sum_to (rate_at (channel g i).put) (slice_index old (channel g i).from + memory (channel g i).from) =
        ap (λ n. sum_to (rate_at (channel g i).put) (n + memory (channel g i).from)) (other (channel g i).from apart) in
        let taken : sum_to (rate_at (channel g i).take) (slice_index new (channel g i).to)
        ≡ sum_to (rate_at (channel g i).take) moved.firing = ap (sum_to (rate_at (channel g i).take)) at in
        omega (arith, put, taken, moved.late)

    module _ (n : ℕ) (passed : ArePassed g memory old n i) where
      -- the channel was not late, so that a walk goes over it
      pub walk : EndsWalk (rates g) (n + 1) (channel g i).to
      walk = ⊎_elim
          (λ late. let again = moved.first (slice_index old (channel g i).to) late in
          absurd (omega (arith, again, moved.later)))
          (λ w. record {
            past = (channel g i).from ∷ w.past;
            long = omega (arith, w.long);
            walk = on i w.past known w.walk;
          })
          (passed.next i (omega arith) known)

      walk_from : (m c : ℕ) → m ≤ n + 1 → (channel g c).from ≡ (channel g i).to →
          EndsWalk (rates g) m (channel g c).from
      walk_from m c few same =
          subst (EndsWalk (rates g) m) (sym same)
          (record { past = walk.past; long = omega (arith, walk.long); walk = walk.walk })

      kept : (m c : ℕ) → m ≤ n + 1 →
          IsLate (channel g c) memory (slice_index old) ⊎ EndsWalk (rates g) m (channel g c).from →
          IsLate (channel g c) memory (slice_index new) ⊎ EndsWalk (rates g) m (channel g c).from
      kept m c few (inr w) = inr w
      kept m c few (inl late) = ⊎_elim
          (λ same. inr (walk_from m c few same))
          (λ apart. inl (stays_late c apart late))
          (cases_eq (channel g c).from (channel g i).to)

      this : IsLate (channel g i) memory (slice_index new) ⊎ EndsWalk (rates g) (n + 1) (channel g i).from
      this = ⊎_elim
          (λ same. inr (walk_from (n + 1) i (omega arith) same))
          (λ apart. inl (now_late apart))
          (cases_eq (channel g i).from (channel g i).to)

      pub pass_moved : ArePassed g memory new n (i + 1)
      pass_moved = record {
        past = λ c l. ⊎_elim
            (λ below. kept (n + 1) c (omega arith) (passed.past c below))
            (λ above. subst (λ b. IsLate (channel g b) memory (slice_index new)
            ⊎ EndsWalk (rates g) (n + 1) (channel g b).from) (let e : i ≡ c = omega arith in e) this)
            (cases_lt c i);
        next = λ c l within. kept n c (omega arith) (passed.next c (omega arith) within);
      }

  -- a channel that is late is passed by
  pub pass_late : (since : List ℕ) (n i : ℕ) → IsLate (channel g i) memory (slice_index since) →
      ArePassed g memory since n i → ArePassed g memory since n (i + 1)
  pass_late since n i late passed = record {
    past = λ c l. ⊎_elim
        (λ below. passed.past c below)
        (λ above. inl (subst (λ b. IsLate (channel g b) memory (slice_index since))
        (let e : i ≡ c = omega arith in e) late))
        (cases_lt c i);
    next = λ c l within. passed.next c (omega arith) within;
  }

-- what is known once the first i channels have been looked at
abbrev pub IsSoFar : GraphValue → (ℕ → ℕ) → List ℕ → List ℕ → ℕ → Move → Type 0
IsSoFar g memory old new i Stays = (c : ℕ) → c < i → IsLate (channel g c) memory (slice_index new)
IsSoFar g memory old new i MovesOn =
    (n : ℕ) → AreBehind g memory old n → (a : ℕ) × EndsWalk (rates g) (n + 1) a
IsSoFar g memory old new i TooFar = ⊥

pub record IsPassing (g : GraphValue) (memory : ℕ → ℕ) (old new : List ℕ) (i : ℕ) (moves : Move) : Type 0 where
  pub early : AreEarly g memory new
  pub passed : (n : ℕ) → AreBehind g memory old n → ArePassed g memory new n i
  pub so_far : IsSoFar g memory old new i moves

-- so it is after a channel that is late
so_far_late : (g : GraphValue) (memory : ℕ → ℕ) (old new : List ℕ) (i : ℕ) (moves : Move) →
    IsLate (channel g i) memory (slice_index new) → IsSoFar g memory old new i moves →
    IsSoFar g memory old new (i + 1) moves
so_far_late g memory old new i Stays late before = λ c l. ⊎_elim
    (λ below. before c below)
    (λ above. subst (λ b. IsLate (channel g b) memory (slice_index new)) (let e : i ≡ c = omega arith in e) late)
    (cases_lt c i)
so_far_late g memory old new i MovesOn late before = before
so_far_late g memory old new i TooFar late before = before

pub passes_late : (g : GraphValue) (memory : ℕ → ℕ) (old new : List ℕ) (i : ℕ) (moves : Move) →
    IsLate (channel g i) memory (slice_index new) → IsPassing g memory old new i moves →
    IsPassing g memory old new (i + 1) moves
passes_late g memory old new i moves late before = record {
  early = before.early;
  passed = λ n behind. pass_late g memory new n i late (before.passed n behind);
  so_far = so_far_late g memory old new i moves late before.so_far;
}

-- and after one whose target is moved on
pub passes_moved : (g : GraphValue) (memory : ℕ → ℕ) (old now new : List ℕ) (i : ℕ) (moves : Move) →
    i < length g.channels → (channel g i).from < g.actors → (channel g i).to < length now →
    IsMovedOn (channel g i) memory now new → IsPassing g memory old now i moves →
    IsPassing g memory old new (i + 1) MovesOn
passes_moved g memory old now new i moves known from to moved before = record {
  early = early_on g memory i known from now new to moved before.early;
  passed = λ n behind. pass_moved g memory i known from now new to moved n (before.passed n behind);
  so_far = λ n behind. (
    (channel g i).to,
    walk g memory i known from now new to moved n (before.passed n behind),
  );
}

-- and at the end
pub is_pass : (g : GraphValue) (memory : ℕ → ℕ) (old new : List ℕ) (i : ℕ) (moves : Move) → i ≡ length g.channels →
    IsPassing g memory old new i moves → IsPass g memory old new moves
is_pass g memory old new i Stays all p = λ c l. p.so_far c (omega arith)
is_pass g memory old new i MovesOn all p =
    λ n behind. ((λ c l. (p.passed n behind).past c (omega arith)), p.so_far n behind)
is_pass g memory old new i TooFar all p = absurd p.so_far
