-- The rows of a table as they come.
use Rattle.std.proofs.Common.{◌≡◌, ℕ, ◌+◌, ◌≤◌, ◌<◌, List, [], ◌∷◌, ◌++◌, length, map, get_or, take, cond, eqb, sym, ap}
use Rattle.std.proofs.Common.{◌∙◌, subst, arith, Option}
use Rattle.std.proofs.lemmas.List.{get_or-map, length-map, map-append, take_more, take_all, append-nil}
use Rattle.std.proofs.lemmas.List.Concat.{flat_map-append}
use Rattle.std.proofs.lemmas.List.Sums.{sum_by-append}
use Rattle.sdf_graph.specs.Rates.{Rates, IsSound, IsAlike}
use Rattle.sdf_graph.specs.Sequences.{times, IsEnabled}
use Rattle.sdf_prec.proofs.Theorems.{orders_are_admissible, rows_may_fire}
use Rattle.sdf_actor.specs.Steps.{Steps}
use Rattle.sdf_actor.specs.Nets.{Netlist, wiring}
use Rattle.sdf_prec.specs.declared.firing.Firing.{Firing}
use Rattle.sdf_prec.specs.Tables.{firing, firings, no_firing, row, order, sequence, IsValid}
use Rattle.sdf_rows.specs.Loading.{row_actors}
use Rattle.sdf_rows.specs.RowStates.{IsRow}
use Rattle.sdf_rows.specs.Blocks.{IsRound}

times_both : (v w : List ℕ) (a : ℕ) → times (v ++ w) a ≡ times v a + times w a
times_both v w a = sum_by-append (λ b. cond (eqb b a) 1 0) v w

-- a row's firings come to those of the rows before
pub row_counts : (rows : List (List (Option Firing))) (i a : ℕ) → i < length rows →
    times (sequence (take (i + 1) rows)) a ≡ times (sequence (take i rows)) a + times (row_actors (row rows i)) a
row_counts rows i a l =
    let last : List (List (Option Firing)) = row rows i ∷ [] in
    let parts : order (take (i + 1) rows) ≡ order (take i rows) ++ order last =
    ap order (take_more rows i [] l) ∙ flat_map-append firings (take i rows) last in
    let one : order last ≡ firings (row rows i) = append-nil (firings (row rows i)) in
    let all : sequence (take (i + 1) rows) ≡ sequence (take i rows) ++ row_actors (row rows i) =
    ap (map (λ (f : Firing). f.actor)) parts ∙ (map-append (λ (f : Firing). f.actor) (order (take i rows)) (order last)
    ∙ ap (λ fs. sequence (take i rows) ++ map (λ (f : Firing). f.actor) fs) one) in
    ap (λ w. times w a) all ∙ times_both (sequence (take i rows)) (row_actors (row rows i)) a

-- and all rows to the block
pub block_counts : (r : Rates) (n : ℕ → ℕ) (rows : List (List (Option Firing))) (i a : ℕ) →
    IsValid r n rows → length rows ≤ i → a < r.actors → times (sequence (take i rows)) a ≡ n a
block_counts r n rows i a valid h l = ap (λ xs. times (sequence xs) a) (take_all i rows h)
    ∙ (orders_are_admissible r n rows valid).1 a l

module _ {A S T : Type 0} {s : Steps A S T} {n : Netlist A T} {r : Rates} (alike : IsAlike r (wiring s n).rates)
    (sound : IsSound r) {many : ℕ → ℕ} {rows : List (List (Option Firing))} (valid : IsValid r many rows)
    {start : ℕ → ℕ} (round : IsRound s n start) (i : ℕ) (l : i < length rows) {k : ℕ → ℕ}
    (k_is : (a : ℕ) → k a ≡ start a + times (sequence (take i rows)) a) where
  abbrev fs : List Firing
  fs = firings (row rows i)

  abbrev t : ℕ → ℕ
  t = times (sequence (take i rows))

  long : length (row_actors (row rows i)) ≡ length fs
  long = length-map fs (λ (f : Firing). f.actor)

  actor_at : (p : ℕ) → p < length fs → get_or (row_actors (row rows i)) p 0 ≡ (firing fs p).actor
  actor_at p h = get_or-map (λ (f : Firing). f.actor) fs p no_firing 0 h

  on : (a : ℕ) → IsEnabled r t a → IsEnabled (wiring s n).rates k a
  on a at c h e =
      let known : c < r.channels = omega (arith, alike.channels, h) in
      let src : ℕ = (wiring s n).rates.source c in
      let tgt : ℕ = (wiring s n).rates.target c in
      let first : r.consumed c (t (r.target c) + 1) ≤ r.initial c + r.produced c (t (r.source c)) =
      at c known (alike.target c known ∙ e) in
      let taken : r.consumed c (t (r.target c) + 1) ≡ (wiring s n).rates.consumed c (t tgt + 1) =
      alike.consumed c (t (r.target c) + 1) known ∙ ap (λ b. (wiring s n).rates.consumed c (t b + 1))
      (alike.target c known) in
      let put : r.produced c (t (r.source c)) ≡ (wiring s n).rates.produced c (t src) =
      alike.produced c (t (r.source c)) known ∙ ap (λ b. (wiring s n).rates.produced c (t b))
      (alike.source c known) in
      let then : (wiring s n).rates.consumed c (k tgt + 1) ≡
      (wiring s n).rates.consumed c (start tgt) + (wiring s n).rates.consumed c (t tgt + 1) =
      ap ((wiring s n).rates.consumed c) (let x : k tgt + 1 ≡ start tgt + (t tgt + 1) = omega (arith, k_is tgt) in x)
      ∙ round.consumed c (t tgt + 1) h in
      let given : (wiring s n).rates.produced c (k src) ≡
      (wiring s n).rates.produced c (start src) + (wiring s n).rates.produced c (t src) =
      ap ((wiring s n).rates.produced c) (k_is src) ∙ round.produced c (t src) h in
      omega (arith, first, taken, put, then, given, round.balanced c h, alike.initial c known)

  -- the next row may be fired
  pub row_is : IsRow s n k (λ a. start a + many a) (row_actors (row rows i))
  row_is = record {
    known = λ p h. let is = (rows_may_fire r many rows i sound valid l).0 p (omega (arith, long)) in
        omega (arith, actor_at p (omega (arith, long)), is.0.0, alike.actors);
    apart = λ p m hp hm e.
        (rows_may_fire r many rows i sound valid l).1 p m (omega (arith, long)) (omega (arith, long))
        (sym (actor_at p (omega (arith, long))) ∙ (e ∙ actor_at m (omega (arith, long))));
    able = λ p h.
        let is = (rows_may_fire r many rows i sound valid l).0 p (omega (arith, long)) in
        subst (IsEnabled (wiring s n).rates k) (sym (actor_at p (omega (arith, long)))) (on (firing fs p).actor is.2);
    within = λ p h.
        let is = (rows_may_fire r many rows i sound valid l).0 p (omega (arith, long)) in
        subst (λ a. k a < start a + many a) (sym (actor_at p (omega (arith, long))))
        (omega (arith, k_is (firing fs p).actor, is.0.1, is.1));
  }
