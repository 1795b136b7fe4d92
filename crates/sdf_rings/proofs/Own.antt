-- A channel from an actor to itself has its samples and its room when its turn comes.
use Rattle.std.proofs.Common.{◌≡◌, ℕ, ◌+◌, ◌≤◌, ◌<◌, ◌⊎◌, inl, inr, List, get_or, take, cond, eqb, sym, ap, ◌∙◌, refl}
use Rattle.std.proofs.Common.{arith}
use Rattle.std.proofs.lemmas.Bool.{cases_eq, eq-eqb, ne_eqb, cond-true, cond-false}
use Rattle.sdf_graph.specs.Rates.{Rates, IsSound}
use Rattle.sdf_graph.specs.Sequences.{times, IsEnabled}
use Rattle.sdf_graph.proofs.Theorems.{fronts_count_within, last_counts_more}
use Rattle.sdf_prec.specs.Next.{IsNext, HasRoom}
use Rattle.sdf_prec.proofs.Theorems.{next_may_fire, some_is_next}
use Rattle.sdf_actor.specs.Steps.{Steps}
use Rattle.sdf_actor.specs.Nets.{wiring}
use Rattle.sdf_actor.proofs.Theorems.{nets_are_wired}
use Rattle.sdf_rings.specs.MachineLaws.{firings, capacity, OwnNeverWaits}
use Rattle.sdf_rings.proofs.Plans.{IsSequence, plan_sequence, sequence_of}

module _ (r : Rates) (k cap : ℕ → ℕ) (w : List ℕ) (sound : IsSound r) (seq : IsSequence r k cap w) (c i : ℕ)
    (l : c < r.channels) (own : r.source c ≡ r.target c)
    (left : i < times w (r.target c)) where
  -- the counts at which all is done but the firings of the channel's actor from i on
  abbrev all_but : ℕ → ℕ
  all_but a = cond (eqb (r.target c) a) i (times w a)

  at_own : all_but (r.target c) ≡ i
  at_own = cond-true (eqb (r.target c) (r.target c)) i (times w (r.target c)) (eq-eqb (r.target c) (r.target c) refl)

  at_others : (a : ℕ) → (r.target c ≡ a → ⊥) → all_but a ≡ times w a
  at_others a ne = cond-false (eqb (r.target c) a) i (times w a) (ne_eqb (r.target c) a ne)

  found : (p : ℕ) × IsNext all_but w p
  found = some_is_next all_but w (r.target c) (omega (arith, at_own))

  -- the next firing there is that of the channel's actor
  is_own : r.target c ≡ get_or w found.0 0
  is_own = go (cases_eq (r.target c) (get_or w found.0 0))
    where
      go : (r.target c ≡ get_or w found.0 0) ⊎ (r.target c ≡ get_or w found.0 0 → ⊥) → r.target c ≡ get_or w found.0 0
      go (inl e) = e
      go (inr ne) =
          let more : times (take (found.0 + 1) w) (get_or w found.0 0) ≡
          times (take found.0 w) (get_or w found.0 0) + 1 =
          last_counts_more w found.0 (get_or w found.0 0) found.1.within refl in
          absurd (omega (
            arith,
            at_others (get_or w found.0 0) ne,
            found.1.left,
            fronts_count_within w (found.0 + 1) (get_or w found.0 0),
          ))

  fires : (all_but (get_or w found.0 0) ≡ times (take found.0 w) (get_or w found.0 0))
      × IsEnabled r all_but (get_or w found.0 0) × HasRoom r cap all_but (get_or w found.0 0)
  fires = next_may_fire r all_but cap w found.0 sound seq.admissible
      (λ j h d m. omega (arith, seq.room j h d m)) found.1

  pub samples : r.consumed c (i + 1) ≤ r.initial c + r.produced c i
  samples =
      let ready = fires.1 c l is_own in
      let taken : r.consumed c (all_but (r.target c) + 1) ≡ r.consumed c (i + 1) =
      ap (λ n. r.consumed c (n + 1)) at_own in
      let put : r.produced c (all_but (r.source c)) ≡ r.produced c i = ap (r.produced c) (ap all_but own ∙ at_own) in
      omega arith

  pub room : r.initial c + r.produced c (i + 1) ≤ cap c + r.consumed c (i + 1)
  room =
      let here : all_but (get_or w found.0 0) ≡ i = ap all_but (sym is_own) ∙ at_own in
      let enough = fires.2 c l (own ∙ is_own) in
      let put : r.produced c (all_but (get_or w found.0 0) + 1) ≡ r.produced c (i + 1) =
      ap (λ n. r.produced c (n + 1)) here in
      let counted : cond (eqb (r.target c) (get_or w found.0 0)) (all_but (get_or w found.0 0) + 1)
      (all_but (r.target c)) ≡ i + 1 =
      cond-true (eqb (r.target c) (get_or w found.0 0)) (all_but (get_or w found.0 0) + 1) (all_but (r.target c))
      (eq-eqb (r.target c) (get_or w found.0 0) is_own) ∙ ap (λ n. n + 1) here in
      let taken = ap (r.consumed c) counted in
      omega (arith, enough, put, taken)

pub own_never_waits : {A S T : Type 0} (s : Steps A S T) → OwnNeverWaits s
own_never_waits s n p b m c plan l own =
    let r = (wiring s n).rates in
    let sound = (nets_are_wired s n plan.net).sound in
    let seq = plan_sequence s n p b plan in
    let count : times (sequence_of p b) (r.target c) ≡ firings p b (r.target c) =
    seq.counts (r.target c) (sound.target_in c l) in
    let same : firings p b (r.source c) ≡ firings p b (r.target c) = ap (firings p b) own in (
      λ left h.
          let here = samples r (firings p b) (capacity p) (sequence_of p b) sound seq c
          (m.took c) l own (omega arith) in
          let rise : r.produced c (m.took c) ≤ r.produced c (m.gave c) =
          sound.produced_rises c (m.took c) (m.gave c) h in
          omega arith,
      λ left h.
          let here = room r (firings p b) (capacity p) (sequence_of p b) sound seq c (m.gave c)
          l own (omega arith) in
          let rise : r.consumed c (m.gave c + 1) ≤ r.consumed c (m.took c) =
          sound.consumed_rises c (m.gave c + 1) (m.took c) (omega arith) in
          omega arith,
    )
