-- How many rows a table has, and how much its channels hold, at most.
use Rattle.std.proofs.Common.{◌≡◌, ℕ, ◌+◌, ◌*◌, ◌%◌, ◌≤◌, ◌<◌, List, [], ◌∷◌, length, get_or, take}
use Rattle.std.proofs.Common.{cond, eqb, sum, ap, ◌∙◌, arith, refl, Bool, true, false}
use Rattle.std.proofs.lemmas.List.{length-map, length-take}
use Rattle.std.proofs.lemmas.List.Sums.{sum_by-cons, sum_by_more}
use Rattle.sdf_limits.specs.declared.TheConstants.{MAX_INITIAL, MAX_RATE, MAX_BLOCK}
use Rattle.sdf_graph.specs.Rates.{Rates, GraphValue, IsShape, rates, rate_at, channel}
use Rattle.sdf_graph.specs.Sequences.{times, tokens, repeated}
use Rattle.sdf_graph.proofs.Theorems.{sums_are_small}
use Rattle.sdf_prec.specs.declared.firing.Firing.{Firing}
use Rattle.sdf_prec.specs.Tables.{TableValue, order}
use Rattle.sdf_prec.proofs.Theorems.{tables_count}
use Rattle.sdf_times.specs.Times.{IsBlockTable}
use Rattle.sdf_times.proofs.Cells.{rows_few}

module _ (r : Rates) (m : ℕ) (t : TableValue) (b : IsBlockTable r m t) where
  pub order_few : length t.order ≤ MAX_BLOCK
  order_few =
      let all : length (repeated 1 t.order) ≡ 1 * (b.periods * sum b.reps) =
      tables_count r b.reps b.periods m t 1 b.all b.table in
      let one : length (repeated 1 t.order) ≡ length t.order = refl in
      omega (arith, all, one, b.short)

  pub rows_small : length t.rows ≤ MAX_BLOCK
  rows_small =
      let few = rows_few t.rows b.table.some in
      let same : length t.order ≡ length (order t.rows) =
      ap (λ (xs : List ℕ). length xs) b.table.exact.order_is
      ∙ length-map (order t.rows) (λ (f : Firing). f.actor) in
      omega (arith, few, same, order_few)

one_small : (t : Bool) → cond t 1 0 ≤ 1
one_small true = omega arith
one_small false = omega arith

times_few : (w : List ℕ) (a : ℕ) → times w a ≤ length w
times_few [] a = omega arith
times_few (x ∷ w) a =
    let ih = times_few w a in
    let more : times (x ∷ w) a ≡ cond (eqb x a) 1 0 + times w a = sum_by-cons (λ b. cond (eqb b a) 1 0) x w in
    omega (arith, ih, more, one_small (eqb x a))

pub cap_small : (g : GraphValue) → IsShape g → (m : ℕ) (t : TableValue) →
    IsBlockTable (rates g) m t → (c : ℕ) → c < length g.channels →
    get_or t.caps c 0 ≤ MAX_INITIAL + MAX_RATE * MAX_BLOCK
cap_small g ok m t b c l =
    let most = b.table.exact.caps_each c l in
    let at = most.reached in
    let k : ℕ = times (take at.0 t.order) (channel g c).from in
    let few : k ≤ length (take at.0 t.order) = times_few (take at.0 t.order) (channel g c).from in
    let front : length (take at.0 t.order) ≤ length t.order = omega (arith, length-take at.0 t.order) in
    let made : (rates g).produced c k ≤ MAX_RATE * k =
    sums_are_small (rate_at (channel g c).put) MAX_RATE (λ i. (ok.put c l).small (i % length (channel g c).put)) k in
    let held : tokens (rates g) (times (take at.0 t.order)) c ≤ (rates g).initial c + (rates g).produced c k =
    omega arith in
    omega (arith, at.2, held, made, few, front, order_few (rates g) m t b, ok.initial_small c l)

pub sum_more : (xs : List ℕ) (i : ℕ) → i < length xs → sum (take (i + 1) xs) ≡ sum (take i xs) + get_or xs i 0
sum_more xs i l = sum_by_more (λ x. x) xs i 0 l
