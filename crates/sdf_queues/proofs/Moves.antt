-- A firing takes what stands on the channels from one history to the next.
use Rattle.std.proofs.Common.{◌≡◌, ℕ, zero, suc, ◌+◌, ◌-◌, ◌≤◌, ◌<◌, List, [], ◌∷◌, ◌++◌, length, get_or, take, drop}
use Rattle.std.proofs.Common.{cond, eqb, refl, sym, ap, ◌∙◌, subst, inl, inr, ◌⊎◌, arith, add-one}
use Rattle.std.specs.List.{between, flat_map}
use Rattle.std.proofs.lemmas.List.{drop-append-le, drop-drop, take_at, take-take, length_push, get_or_default}
use Rattle.std.proofs.lemmas.Bool.{cases_eq, eq-eqb, ne_eqb}
use Rattle.std.proofs.lemmas.Slice.{between_is}
use Rattle.sdf_graph.specs.Rates.{Rates}
use Rattle.sdf_graph.specs.Sequences.{IsEnabled}
use Rattle.sdf_actor.specs.Steps.{Steps}
use Rattle.sdf_actor.specs.Histories.{Wiring, taken, taken_before, IsWired, spread}
use Rattle.sdf_actor.specs.Nets.{wiring, answers}
use Rattle.sdf_actor.specs.Laws.{HistoryGrowsByFiring, after_firing}
use Rattle.sdf_actor.proofs.Theorems.{nets_are_wired, taken_stays}
use Rattle.sdf_queues.specs.Blocks.{at_ports}
use Rattle.sdf_queues.specs.Laws.{BlocksAreCounted, NodesTakeTheirs, PlansFit, BlocksStand, FiringsMoveOn}
use Rattle.sdf_queues.proofs.Routes.{spread_same, ins_once, ins_all, at_ins, sum_taken, sum_put}

-- pieces that are the same, joined
flat_map_same : {X : Type 0} (f g : ℕ → List X) (cs : List ℕ) →
    ((n : ℕ) → n < length cs → f (get_or cs n 0) ≡ g (get_or cs n 0)) → flat_map f cs ≡ flat_map g cs
flat_map_same f g [] h = refl
flat_map_same f g (c ∷ cs) h =
    let e : f c ≡ g c = h 0 (omega arith) in
    let r : flat_map f cs ≡ flat_map g cs = flat_map_same f g cs (λ n l. h (suc n) (omega arith)) in
    cc

-- one block a firing
length_taken_before : {A : Type 0} (f : Wiring A) (V : ℕ → List A) (a i : ℕ) → length (taken_before f V a i) ≡ i
length_taken_before f V a zero = refl
length_taken_before f V a (suc i) = length_push (taken_before f V a i) (taken f V a i)
    ∙ (ap (λ n. n + 1) (length_taken_before f V a i) ∙ add-one i)

pub blocks_are_counted : {A S T : Type 0} (s : Steps A S T) → BlocksAreCounted s
blocks_are_counted s n V a i = length_taken_before (wiring s n) V a i

-- an enabled actor takes what has come
enabled_within : (r : Rates) (k : ℕ → ℕ) (a : ℕ) → IsEnabled r k a → (c : ℕ) → c < r.channels → r.target c ≡ a →
    r.consumed c (k a + 1) ≤ r.initial c + r.produced c (k (r.source c))
enabled_within r k a on c l e = subst (λ n. r.consumed c (n + 1) ≤ r.initial c + r.produced c (k (r.source c)))
    (ap k e) (on c l e)

-- what a node's next firing takes stays where the channels go on
taken_kept : {A : Type 0} (f : Wiring A) (V W : ℕ → List A) (a i : ℕ) →
    ((n : ℕ) → n < length (f.ins a) → (V (get_or (f.ins a) n 0) ≡
    take (length (V (get_or (f.ins a) n 0))) (W (get_or (f.ins a) n 0)))
    × (f.rates.consumed (get_or (f.ins a) n 0) (i + 1) ≤ length (V (get_or (f.ins a) n 0)))) →
    taken f V a i ≡ taken f W a i
taken_kept f V W a i on =
    flat_map_same (λ c. between (f.rates.consumed c i) (f.rates.consumed c (i + 1)) (V c))
    (λ c. between (f.rates.consumed c i) (f.rates.consumed c (i + 1)) (W c)) (f.ins a)
    (λ n l.
    let c : ℕ = get_or (f.ins a) n 0 in
    let at : ℕ = f.rates.consumed c i in
    let end : ℕ = f.rates.consumed c (i + 1) in
    let is = on n l in
    between_is (V c) at end ∙ (ap (λ xs. drop at (take end xs)) is.0
    ∙ (ap (drop at) (take-take end (length (V c)) (W c) is.1) ∙ sym (between_is (W c) at end))))

module _ {A S T : Type 0} (s : Steps A S T) where
  pub nodes_take_theirs : NodesTakeTheirs s
  nodes_take_theirs n a c good known l = (
    λ e. let at = ins_all good a c known l e in
        (at.0, at.1, get_or_default ((wiring s n).ins a) at.0 c 0 at.1 ∙ at.2),
    λ many. at_ins good a many c known l,
  )

  pub plans_fit : PlansFit s
  plans_fit n a i takes puts good known plan = record {
    ins_are = record {
      known = λ p l. ((nets_are_wired s n good).ins_are a p known l).0;
      sized = plan.takes_all;
      once = λ p q. ins_once good a p q known;
    };
    outs_are = record {
      known = λ p l. ((nets_are_wired s n good).outs_are a p known l).0;
      sized = plan.puts_all;
      once = λ p q. (nets_are_wired s n good).outs_once a p q known;
    };
    taken = sum_taken good known plan;
    put = sum_put good known plan;
  }

  pub blocks_stand : BlocksStand s
  blocks_stand n k a V takes puts queue good known plan stands =
      flat_map_same (λ c. take (get_or takes c 0) (queue c))
      (λ c. between ((wiring s n).rates.consumed c (k a)) ((wiring s n).rates.consumed c (k a + 1)) (V c))
      ((wiring s n).ins a)
      (λ i l.
      let c : ℕ = get_or ((wiring s n).ins a) i 0 in
      let is = (nets_are_wired s n good).ins_are a i known l in
      let size : get_or takes c 0 ≡ (wiring s n).rates.consumed c (k a + 1) - (wiring s n).rates.consumed c (k a) =
      omega (arith, plan.taken c is.0 is.1) in
      let own : k ((wiring s n).rates.target c) ≡ k a = ap k is.1 in
      ap (λ m. take m (queue c)) size ∙
      ap (take ((wiring s n).rates.consumed c (k a + 1) - (wiring s n).rates.consumed c (k a)))
      (stands c is.0 ∙ ap (λ i. drop ((wiring s n).rates.consumed c i) (V c)) own))

  -- the names on the left are those of FiringsMoveOn, which gives their types
  pub firings_move_on : HistoryGrowsByFiring s → FiringsMoveOn s
  firings_move_on grows n inputs k m a V takes puts queue good known on one others reach r plan stands = record {
    is = grows n inputs k m a V good known on one others reach r;
    left = left;
    own = took_own;
    others = took_other;
    ahead = takes_ahead;
  }
    where
      wire_is : IsWired (wiring s n)
      wire_is = nets_are_wired s n good

      W : ℕ → List T
      W = after_firing s n inputs k V a

      now : List T
      now = answers s n inputs a (taken_before (wiring s n) V a (k a)) (taken (wiring s n) V a (k a))

      kept : (c : ℕ) → V c ≡ take (length (V c)) (W c)
      kept c = sym (take_at (V c) (spread (λ d. (wiring s n).rates.produced d (k a + 1)
          - (wiring s n).rates.produced d (k a)) ((wiring s n).outs a) now c) (length (V c)) refl)

      -- the answer is dealt out by the sizes
      dealt : (c : ℕ) → spread (λ d. get_or puts d 0) ((wiring s n).outs a) now c ≡
          spread (λ d. (wiring s n).rates.produced d (k a + 1) - (wiring s n).rates.produced d (k a))
          ((wiring s n).outs a) now c
      dealt c =
          spread_same (λ d. get_or puts d 0) (λ d. (wiring s n).rates.produced d (k a + 1)
          - (wiring s n).rates.produced d (k a)) ((wiring s n).outs a) now c
          (λ p q. let is = wire_is.outs_are a p known q in
          omega (arith, plan.put (get_or ((wiring s n).outs a) p 0) is.0 is.1))

      -- what is dropped of a channel goes on from what was consumed to what is
      goes : (c : ℕ) → c < length n.wires →
          (wiring s n).rates.consumed c (k ((wiring s n).rates.target c))
          + at_ports ((wiring s n).ins a) (get_or takes c 0) c ≡
          (wiring s n).rates.consumed c (m ((wiring s n).rates.target c))
      goes c l = go (cases_eq a ((wiring s n).rates.target c))
        where
          at : at_ports ((wiring s n).ins a) (get_or takes c 0) c ≡
              cond (eqb ((wiring s n).rates.target c) a) (get_or takes c 0) 0
          at = at_ins good a (get_or takes c 0) c known l

          go : (a ≡ (wiring s n).rates.target c) ⊎ (a ≡ (wiring s n).rates.target c → ⊥) →
              (wiring s n).rates.consumed c (k ((wiring s n).rates.target c))
              + at_ports ((wiring s n).ins a) (get_or takes c 0) c ≡
              (wiring s n).rates.consumed c (m ((wiring s n).rates.target c))
          go (inl e) =
              let size : at_ports ((wiring s n).ins a) (get_or takes c 0) c ≡ get_or takes c 0 =
              at ∙ ap (λ t. cond t (get_or takes c 0) 0) (eq-eqb ((wiring s n).rates.target c) a (sym e)) in
              let own : (wiring s n).rates.consumed c (k ((wiring s n).rates.target c)) ≡
              (wiring s n).rates.consumed c (k a) = ap (λ d. (wiring s n).rates.consumed c (k d)) (sym e) in
              let then : (wiring s n).rates.consumed c (m ((wiring s n).rates.target c)) ≡
              (wiring s n).rates.consumed c (k a + 1) =
              ap (λ d. (wiring s n).rates.consumed c (m d)) (sym e) ∙ ap ((wiring s n).rates.consumed c) one in
              omega (arith, size, own, then, plan.taken c l (sym e))
          go (inr ne) =
              let size : at_ports ((wiring s n).ins a) (get_or takes c 0) c ≡ 0 =
              at ∙ ap (λ t. cond t (get_or takes c 0) 0) (ne_eqb ((wiring s n).rates.target c) a (λ e. ne (sym e))) in
              let then : (wiring s n).rates.consumed c (m ((wiring s n).rates.target c)) ≡
              (wiring s n).rates.consumed c (k ((wiring s n).rates.target c)) =
              ap ((wiring s n).rates.consumed c) (others ((wiring s n).rates.target c) ne) in
              omega (arith, size, then)

      -- all of it has come
      come : (c : ℕ) → c < length n.wires → (wiring s n).rates.consumed c
          (m ((wiring s n).rates.target c)) ≤ length (V c)
      come c l = go (cases_eq a ((wiring s n).rates.target c))
        where
          go : (a ≡ (wiring s n).rates.target c) ⊎ (a ≡ (wiring s n).rates.target c → ⊥) →
              (wiring s n).rates.consumed c (m ((wiring s n).rates.target c)) ≤ length (V c)
          go (inl e) =
              let then : (wiring s n).rates.consumed c (m ((wiring s n).rates.target c)) ≡
              (wiring s n).rates.consumed c (k a + 1) =
              ap (λ d. (wiring s n).rates.consumed c (m d)) (sym e) ∙ ap ((wiring s n).rates.consumed c) one in
              omega (arith, then, enabled_within (wiring s n).rates k a on c l (sym e), r.lengths c l)
          go (inr ne) =
              let then : (wiring s n).rates.consumed c (m ((wiring s n).rates.target c)) ≡
              (wiring s n).rates.consumed c (k ((wiring s n).rates.target c)) =
              ap ((wiring s n).rates.consumed c) (others ((wiring s n).rates.target c) ne) in
              omega (arith, then, r.lengths c l, r.enough c l)

      left : (c : ℕ) → c < length n.wires →
          drop (at_ports ((wiring s n).ins a) (get_or takes c 0) c) (queue c)
          ++ spread (λ d. get_or puts d 0) ((wiring s n).outs a) now c ≡
          drop ((wiring s n).rates.consumed c (m ((wiring s n).rates.target c))) (W c)
      left c l =
          let more : List T = spread (λ d. (wiring s n).rates.produced d (k a + 1)
          - (wiring s n).rates.produced d (k a))
          ((wiring s n).outs a) now c in
          let many : ℕ = at_ports ((wiring s n).ins a) (get_or takes c 0) c in
          ap (λ ys. drop many (queue c) ++ ys) (dealt c) ∙
          (ap (λ q. drop many q ++ more) (stands c l) ∙ (ap (λ q. q ++ more)
          (drop-drop many ((wiring s n).rates.consumed c (k ((wiring s n).rates.target c))) (V c)) ∙
          (ap (λ i. drop i (V c) ++ more) (goes c l) ∙ sym
          (drop-append-le ((wiring s n).rates.consumed c (m ((wiring s n).rates.target c))) (V c)
          more (come c l)))))

      -- the blocks taken then
      took_own : taken_before (wiring s n) W a (m a) ≡
          taken_before (wiring s n) V a (k a) ++ taken (wiring s n) V a (k a) ∷ []
      took_own =
          let count : m a ≡ suc (k a) = omega arith in
          ap (taken_before (wiring s n) W a) count ∙
          sym (taken_stays s n V W a (suc (k a)) good known
          (λ c l e. subst (λ i. (wiring s n).rates.consumed c i ≤ length (V c))
          (ap m e ∙ count) (come c l)) (λ c l. kept c))

      took_other : (b : ℕ) → b < length n.nodes → (a ≡ b → ⊥) →
          taken_before (wiring s n) W b (m b) ≡ taken_before (wiring s n) V b (k b)
      took_other b in_range ne =
          ap (taken_before (wiring s n) W b) (others b ne) ∙
          sym (taken_stays s n V W b (k b) good in_range
          (λ c l e. subst (λ i. (wiring s n).rates.consumed c i ≤ length (V c))
          (ap m e ∙ others b ne) (come c l)) (λ c l. kept c))

      takes_ahead : (b : ℕ) → b < length n.nodes → (a ≡ b → ⊥) → IsEnabled (wiring s n).rates k b →
          taken (wiring s n) W b (m b) ≡ taken (wiring s n) V b (k b)
      takes_ahead b in_range ne able =
          ap (taken (wiring s n) W b) (others b ne) ∙
          sym (taken_kept (wiring s n) V W b (k b)
          (λ p l. let is = wire_is.ins_are b p in_range l in
          let c : ℕ = get_or ((wiring s n).ins b) p 0 in
          (kept c, omega (arith, enabled_within (wiring s n).rates k b able c is.0 is.1, r.lengths c is.0))))
