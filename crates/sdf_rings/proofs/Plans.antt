-- What a plan says of the firings of all its blocks.
use Rattle.std.proofs.Common.{◌≡◌, ℕ, zero, suc, ◌+◌, ◌≤◌, ◌<◌, ◌⊎◌, inl, inr, List, get_or, length, take, sym, ap}
use Rattle.std.proofs.Common.{◌∙◌, subst, arith, add-one}
use Rattle.std.proofs.lemmas.Bool.{cases_eq}
use Rattle.std.proofs.lemmas.List.{take_all}
use Rattle.sdf_graph.specs.Rates.{Rates, IsAlike, IsSound}
use Rattle.sdf_graph.specs.Sequences.{times, tokens, IsAdmissible, repeated}
use Rattle.sdf_graph.proofs.Theorems.{alike_sequences, last_counts_more, others_count_same}
use Rattle.sdf_prec.specs.Blocks.{block}
use Rattle.sdf_prec.specs.Laws.{AreBlocks}
use Rattle.sdf_prec.proofs.Theorems.{tables_repeat}
use Rattle.sdf_actor.specs.Steps.{Steps}
use Rattle.sdf_actor.specs.Nets.{Netlist, wiring}
use Rattle.sdf_rings.specs.MachineLaws.{MachinePlan, IsMachinePlan, firings, capacity}

-- a sequence of firings that fires each actor a k a times, and what it needs
pub record IsSequence (r : Rates) (k cap : ℕ → ℕ) (w : List ℕ) : Type 0 where
  pub admissible : IsAdmissible r w
  pub counts : (a : ℕ) → a < r.actors → times w a ≡ k a
  -- at each place no channel is above its capacity
  pub room : (i : ℕ) → i ≤ length w → (c : ℕ) → c < r.channels →
      r.initial c + r.produced c (times (take i w) (r.source c)) ≤ cap c + r.consumed c (times (take i w) (r.target c))

abbrev pub sequence_of : MachinePlan → ℕ → List ℕ
sequence_of p b = repeated b p.table.order

tokens_alike : (r t : Rates) (k : ℕ → ℕ) (c : ℕ) → IsAlike r t → c < r.channels → tokens r k c ≡ tokens t k c
tokens_alike r t k c alike l =
    let initial : r.initial c ≡ t.initial c = alike.initial c l in
    let put : r.produced c (k (r.source c)) ≡ t.produced c (k (t.source c)) =
    alike.produced c (k (r.source c)) l ∙ ap (λ a. t.produced c (k a)) (alike.source c l) in
    let taken : r.consumed c (k (r.target c)) ≡ t.consumed c (k (t.target c)) =
    alike.consumed c (k (r.target c)) l ∙ ap (λ a. t.consumed c (k a)) (alike.target c l) in
    omega arith

pub plan_sequence : {A S T : Type 0} (s : Steps A S T) (n : Netlist A T) (p : MachinePlan) (b : ℕ) →
    IsMachinePlan s n p →
    IsSequence (wiring s n).rates (firings p b) (capacity p) (sequence_of p b)
plan_sequence s n p b plan =
    let all : AreBlocks p.rates (λ a. get_or (block p.blocking p.period) a 0) p.table b =
    tables_repeat p.rates p.period p.blocking p.width p.table b plan.sound plan.period plan.table in
    record {
      admissible = alike_sequences p.rates (wiring s n).rates (sequence_of p b) plan.alike all.admissible;
      counts = λ a l. all.counts a (subst (λ m. a < m) (sym plan.alike.actors) l);
      room = λ i h c l.
          let known : c < p.rates.channels = subst (λ m. c < m) (sym plan.alike.channels) l in
          omega (
            arith,
            all.within i h c known,
            tokens_alike p.rates (wiring s n).rates
                (times (take i (sequence_of p b))) c plan.alike known,
          );
    }

-- so it is where all is done
pub room_all : (r : Rates) (k cap : ℕ → ℕ) (w : List ℕ) → IsSound r → IsSequence r k cap w → (c : ℕ) → c < r.channels →
    r.initial c + r.produced c (k (r.source c)) ≤ cap c + r.consumed c (k (r.target c))
room_all r k cap w sound is c l =
    let whole : take (length w) w ≡ w = take_all (length w) w (omega arith) in
    let end : r.initial c + r.produced c (times w (r.source c)) ≤ cap c + r.consumed c (times w (r.target c)) =
    subst (λ v. r.initial c + r.produced c (times v (r.source c)) ≤ cap c + r.consumed c (times v (r.target c))) whole
    (is.room (length w) (omega arith) c l) in
    let put : r.produced c (times w (r.source c)) ≡ r.produced c (k (r.source c)) =
    ap (r.produced c) (is.counts (r.source c) (sound.source_in c l)) in
    let taken : r.consumed c (times w (r.target c)) ≡ r.consumed c (k (r.target c)) =
    ap (r.consumed c) (is.counts (r.target c) (sound.target_in c l)) in
    omega arith

-- and no channel begins above its capacity
pub room_first : (r : Rates) (k cap : ℕ → ℕ) (w : List ℕ) → IsSound r → IsSequence r k cap w → (c : ℕ) →
    c < r.channels → r.initial c ≤ cap c
room_first r k cap w sound is c l = omega (
  arith,
  is.room 0 (omega arith) c l,
  sound.produced_none c,
  sound.consumed_none c,
)

-- in an admissible sequence no more is taken than was put
module _ (r : Rates) (w : List ℕ) (sound : IsSound r)
    (adm : IsAdmissible r w) (c : ℕ) (l : c < r.channels) where
  enough_to : (i : ℕ) → i ≤ length w → r.consumed c (times (take i w) (r.target c)) ≤
      r.initial c + r.produced c (times (take i w) (r.source c))
  enough_to zero h = omega (arith, sound.consumed_none c)
  enough_to (suc i) h = rw add-one at (go (enough_to i (omega arith)) (cases_eq (get_or w i 0) (r.target c))
      (rises (cases_eq (get_or w i 0) (r.source c))))
    where
      rises : (get_or w i 0 ≡ r.source c) ⊎ (get_or w i 0 ≡ r.source c → ⊥) →
          r.produced c (times (take i w) (r.source c)) ≤ r.produced c (times (take (i + 1) w) (r.source c))
      rises (inl e) = sound.produced_rises c (times (take i w) (r.source c)) (times (take (i + 1) w) (r.source c))
          (omega (arith, last_counts_more w i (r.source c) h e))
      rises (inr ne) = sound.produced_rises c (times (take i w) (r.source c)) (times (take (i + 1) w) (r.source c))
          (omega (arith, others_count_same w i (r.source c) h ne))

      go : r.consumed c (times (take i w) (r.target c)) ≤ r.initial c + r.produced c (times (take i w) (r.source c)) →
          (get_or w i 0 ≡ r.target c) ⊎ (get_or w i 0 ≡ r.target c → ⊥) →
          r.produced c (times (take i w) (r.source c)) ≤ r.produced c (times (take (i + 1) w) (r.source c)) →
          r.consumed c (times (take (i + 1) w) (r.target c)) ≤
          r.initial c + r.produced c (times (take (i + 1) w) (r.source c))
      go before (inl e) rise =
          let ready : r.consumed c (times (take i w) (r.target c) + 1) ≤
          r.initial c + r.produced c (times (take i w) (r.source c)) = (adm i h).1 c l (sym e) in
          let is : r.consumed c (times (take (i + 1) w) (r.target c)) ≡
          r.consumed c (times (take i w) (r.target c) + 1) =
          ap (r.consumed c) (last_counts_more w i (r.target c) h e) in
          omega arith
      go before (inr ne) rise =
          let is : r.consumed c (times (take (i + 1) w) (r.target c)) ≡ r.consumed c (times (take i w) (r.target c)) =
          ap (r.consumed c) (others_count_same w i (r.target c) h ne) in
          omega arith

pub enough_all : (r : Rates) (k cap : ℕ → ℕ) (w : List ℕ) → IsSound r →
    IsSequence r k cap w → (c : ℕ) → c < r.channels →
    r.consumed c (k (r.target c)) ≤ r.initial c + r.produced c (k (r.source c))
enough_all r k cap w sound is c l =
    let whole : take (length w) w ≡ w = take_all (length w) w (omega arith) in
    let end : r.consumed c (times w (r.target c)) ≤ r.initial c + r.produced c (times w (r.source c)) =
    subst (λ v. r.consumed c (times v (r.target c)) ≤ r.initial c + r.produced c (times v (r.source c))) whole
    (enough_to r w sound is.admissible c l (length w) (omega arith)) in
    let put : r.produced c (times w (r.source c)) ≡ r.produced c (k (r.source c)) =
    ap (r.produced c) (is.counts (r.source c) (sound.source_in c l)) in
    let taken : r.consumed c (times w (r.target c)) ≡ r.consumed c (k (r.target c)) =
    ap (r.consumed c) (is.counts (r.target c) (sound.target_in c l)) in
    omega arith
