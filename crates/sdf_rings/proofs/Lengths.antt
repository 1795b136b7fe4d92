-- How many firings are left of a sequence that was dealt out.
use Rattle.std.proofs.Common.{◌≡◌, ℕ, zero, suc, ◌+◌, ◌-◌, ◌≤◌, ◌<◌, List, [], ◌∷◌, length, get_or, cond, eqb, refl, ap}
use Rattle.std.proofs.Common.{◌∙◌, arith, inl, inr}
use Rattle.std.proofs.Math.Dec.{eqb-suc-zero, eqb-zero-suc, eqb-suc-suc}
use Rattle.std.proofs.lemmas.Bool.{cases_lt}
use Rattle.std.proofs.lemmas.Bool.Decides.{eqb_tells}
use Rattle.std.proofs.lemmas.List.{length-map}
use Rattle.std.proofs.lemmas.List.Sums.{sum_by-cons}
use Rattle.sdf_graph.specs.Sequences.{times}
use Rattle.sdf_actor.specs.Steps.{Steps}
use Rattle.sdf_actor.specs.Nets.{Netlist}
use Rattle.sdf_rings.specs.declared.seat.ring_node.RingNode.{RingNode}
use Rattle.sdf_rings.specs.declared.seat.Seat.{Seat}
use Rattle.sdf_rings.specs.Seats.{times_between}
use Rattle.sdf_rings.specs.Rests.{ring_node_of, AreRings}
use Rattle.sdf_rings.specs.Asks.{dealt, IsPlanned}
use Rattle.sdf_rings.specs.Totals.{total_left}
use Rattle.sdf_rings.proofs.Dealt.{part, part_same, part_other}
use Rattle.sdf_rings.proofs.Looking.{vec_in}
use Rattle.sdf_rings.proofs.Syncs.{some}
use Rattle.sdf_rings.proofs.Times.{times_none}
use Rattle.sdf_rings.proofs.Totals.{total_some}

-- the sum of the first values
abbrev total : (ℕ → ℕ) → ℕ → ℕ
total f zero = 0
total f (suc m) = f 0 + total (λ i. f (suc i)) m

total_none : (m : ℕ) → total (λ i. 0) m ≡ 0
total_none zero = refl
total_none (suc m) = let rest = total_none m in omega (arith, rest)

total_within : (f g : ℕ → ℕ) (m : ℕ) → ((i : ℕ) → i < m → f i ≤ g i) → total f m ≤ total g m
total_within f g zero h = omega arith
total_within f g (suc m) h = let rest = total_within (λ i. f (suc i)) (λ i. g (suc i)) m
    (λ i l. h (suc i) (omega arith)) in omega (arith, rest, h 0 (omega arith))

total_both : (f g : ℕ → ℕ) (m : ℕ) → total (λ i. f i + g i) m ≡ total f m + total g m
total_both f g zero = omega arith
total_both f g (suc m) = let rest = total_both (λ i. f (suc i)) (λ i. g (suc i)) m in omega (arith, rest)

abbrev one_at : ℕ → ℕ → ℕ
one_at x i = cond (eqb x i) 1 0

total_one : (x m : ℕ) → total (one_at x) m ≤ 1
total_one x zero = omega arith
total_one zero (suc m) =
    let rest : total (λ i. one_at 0 (suc i)) m ≤ total (λ i. 0) m =
    total_within (λ i. one_at 0 (suc i)) (λ i. 0) m
    (λ i l. let none : one_at 0 (suc i) ≡ 0 = ap (λ t. cond t 1 0) (eqb-zero-suc i) in omega arith) in
    let first : one_at 0 0 ≡ 1 = refl in
    omega (arith, rest, total_none m, first)
total_one (suc x) (suc m) =
    let rest : total (λ i. one_at (suc x) (suc i)) m ≤ total (one_at x) m =
    total_within (λ i. one_at (suc x) (suc i)) (one_at x) m
    (λ i l. let same : one_at (suc x) (suc i) ≡ one_at x i = ap (λ t. cond t 1 0) (eqb-suc-suc x i) in
    omega arith) in
    let first : one_at (suc x) 0 ≡ 0 = ap (λ t. cond t 1 0) (eqb-suc-zero x) in
    omega (arith, rest, total_one x m, first)

-- the parts of a sequence have no more firings than it has
parts_within : (home : ℕ → ℕ) (w : List ℕ) (m : ℕ) → total (λ i. length (part home w i)) m ≤ length w
parts_within home [] m = let none = total_none m in omega (arith, none)
parts_within home (a ∷ w) m =
    let rest = parts_within home w m in
    let split : total (λ i. length (part home (a ∷ w) i)) m ≤
    total (λ i. one_at (home a) i + length (part home w i)) m =
    total_within (λ i. length (part home (a ∷ w) i)) (λ i. one_at (home a) i + length (part home w i)) m
    (λ i l. one_more i) in
    omega (arith, rest, split, total_both (one_at (home a)) (λ i. length (part home w i)) m, total_one (home a) m)
  where
    one_more : (i : ℕ) → length (part home (a ∷ w) i) ≤ one_at (home a) i + length (part home w i)
    one_more i = elim (eqb_tells (home a) i) as (λ _. length (part home (a ∷ w) i) ≤
        one_at (home a) i + length (part home w i)) [
          | inl h ↦ let same = ap (λ (xs : List ℕ). length xs) (part_same home a w i h.1) in
              let one : one_at (home a) i ≡ 1 = ap (λ t. cond t 1 0) h.0 in omega (arith, same, one)
          | inr h ↦ let same = ap (λ (xs : List ℕ). length xs) (part_other home a w i h.1) in omega (arith, same)
        ]

left_within : {A S T : Type 0} (seats : List (Seat A T S)) (f : ℕ → ℕ) →
    ((i : ℕ) (e : Seat A T S) → i < length seats → length (get_or seats i e).left - (get_or seats i e).next ≤ f i) →
    total_left seats ≤ total f (length seats)
left_within [] f h = omega arith
left_within (x ∷ xs) f h =
    let rest = left_within xs (λ i. f (suc i)) (λ i e l. h (suc i) e (omega arith)) in
    let first = sum_by-cons (λ z. length z.left - z.next) x xs in
    omega (arith, rest, first, h 0 x (omega arith))

module _ {A S T : Type 0} (s : Steps A S T) (n : Netlist A T) (inputs : List (List T)) (seats : List (Seat A T S))
    (places : List (ℕ × ℕ))
    (r : AreRings s (record { net = n; inputs = inputs; seats = seats; places = places })) (order : List ℕ)
    (cap : ℕ → ℕ) (plan : IsPlanned s n seats places order cap) where
  pub left_few : total_left seats ≤ length order
  left_few =
      let home : ℕ → ℕ = λ a. (get_or places a (0, 0)).0 in
      let all = left_within seats (λ i. length (part home order i)) (λ i e l.
      let is = ap (λ (xs : List ℕ). length xs) (plan.asks.lists i e l)
      ∙ length-map (dealt places order i) (λ a. (get_or places a (0, 0)).1) in
      omega (arith, is)) in
      omega (arith, all, parts_within home order (length seats))

  -- where nothing is done, what is asked is left
  pub left_some : (a : ℕ) → a < length n.nodes → ((e : Seat A T S) (d : RingNode A T S) →
      (ring_node_of n seats places e d a).done ≡ 0) → 0 < times order a → 0 < total_left seats
  left_some a l undone asked =
      let i : ℕ = (get_or places a (0, 0)).0 in
      let k : ℕ = (get_or places a (0, 0)).1 in
      let inside = r.placed.seat_in a l in
      let e = some seats i inside in
      let x = get_or seats i e in
      let d = some x.ring_nodes.items k (vec_in x.ring_nodes k (r.placed.ring_node_in a e l)) in
      let ok = r.each i e inside in
      elim (cases_lt x.next (length x.left)) as (λ _. 0 < total_left seats) [
        | inl h ↦ total_some seats i e inside h
        | inr h ↦
            let over : length x.left ≡ x.next = let f = ok.next_fits in omega arith in
            let c = ok.counts k d (r.placed.ring_node_in a e l) in
            let z : times_between k x.left x.next (length x.left) ≡ 0 =
            ap (times_between k x.left x.next) over ∙ times_none k x.left x.next in
            let is = plan.asks.asked a e d l in
            absurd (omega (arith, c, z, is, undone e d, asked))
      ]
