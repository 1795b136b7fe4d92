-- What the cells of a table cost together: column by column, and actor by actor.
use Rattle.std.proofs.Common.{◌≡◌, ℕ, zero, suc, ◌+◌, ◌*◌, ◌≤◌, ◌<◌, ◌⊎◌, List, [], ◌∷◌, ◌++◌, length, get_or, map}
use Rattle.std.proofs.Common.{cond, eqb, inl, inr, sym, ap, ◌∙◌, arith, refl, Option, Some, None}
use Rattle.std.proofs.lemmas.Bool.{cases_eq, eq-eqb, ne_eqb}
use Rattle.std.proofs.lemmas.List.Sums.{sum_by-cons}
use Rattle.sdf_graph.specs.Rates.{Rates, sum_to}
use Rattle.sdf_graph.specs.Sequences.{times}
use Rattle.sdf_prec.specs.declared.firing.Firing.{Firing}
use Rattle.sdf_prec.specs.Tables.{firing, firings, row, cell, order, sequence, IsValid}
use Rattle.sdf_prec.proofs.Theorems.{orders_are_admissible}
use Rattle.sdf_times.specs.Times.{cost_in, load_of, work_of}

sum_same : (f g : ℕ → ℕ) (m : ℕ) → ((i : ℕ) → i < m → f i ≡ g i) → sum_to f m ≡ sum_to g m
sum_same f g zero same = refl
sum_same f g (suc m) same = let ih = sum_same f g m (λ i h. same i (omega arith)) in
    omega (arith, ih, same m (omega arith))

sum_both : (f g : ℕ → ℕ) (m : ℕ) → sum_to (λ i. f i + g i) m ≡ sum_to f m + sum_to g m
sum_both f g zero = omega arith
sum_both f g (suc m) = let ih = sum_both f g m in omega (arith, ih)

sum_none : (f : ℕ → ℕ) (m : ℕ) → ((i : ℕ) → i < m → f i ≡ 0) → sum_to f m ≡ 0
sum_none f zero none = refl
sum_none f (suc m) none = let ih = sum_none f m (λ i h. none i (omega arith)) in omega (arith, ih, none m (omega arith))

sum_front : (f : ℕ → ℕ) (m : ℕ) → sum_to f (suc m) ≡ f 0 + sum_to (λ i. f (suc i)) m
sum_front f zero = omega arith
sum_front f (suc m) = let ih = sum_front f m in omega (arith, ih)

abbrev only_at : ℕ → ℕ → ℕ → ℕ
only_at b x a = cond (eqb b a) x 0

only_here : (b x a : ℕ) → b ≡ a → only_at b x a ≡ x
only_here b x a e = ap (λ t. cond t x 0) (eq-eqb b a e)

only_there : (b x a : ℕ) → (b ≡ a → ⊥) → only_at b x a ≡ 0
only_there b x a ne = ap (λ t. cond t x 0) (ne_eqb b a ne)

sum_only_step : (b x m : ℕ) → b < suc m → (b < m → sum_to (only_at b x) m ≡ x) → (b ≡ m) ⊎ (b ≡ m → ⊥) →
    sum_to (only_at b x) (suc m) ≡ x
sum_only_step b x m l ih (inl e) =
    let none = sum_none (only_at b x) m (λ i h. only_there b x i (λ d. omega (arith, d, e, h))) in
    omega (arith, none, only_here b x m e)
sum_only_step b x m l ih (inr ne) = omega (arith, ih (omega arith), only_there b x m ne)

sum_only : (b x m : ℕ) → b < m → sum_to (only_at b x) m ≡ x
sum_only b x zero l = absurd (omega arith)
sum_only b x (suc m) l = sum_only_step b x m l (λ h. sum_only b x m h) (cases_eq b m)

module _ (cost : ℕ → ℕ) where
  -- what some firings cost together
  abbrev pub worth : List Firing → ℕ
  worth [] = 0
  worth (f ∷ fs) = cost f.actor + worth fs

  worth_append : (fs gs : List Firing) → worth (fs ++ gs) ≡ worth fs + worth gs
  worth_append [] gs = omega arith
  worth_append (f ∷ fs) gs = let ih = worth_append fs gs in omega (arith, ih)

  -- column by column
  cells_worth : (cells : List (Option Firing)) (width : ℕ) → length cells ≤ width →
      sum_to (λ j. cost_in cost (get_or cells j None)) width ≡ worth (firings cells)
  cells_worth [] width l = sum_none (λ j. cost_in cost (get_or [] j None)) width (λ i h. refl)
  cells_worth (x ∷ cells) zero l = absurd (omega arith)
  cells_worth (None ∷ cells) (suc width) l =
      let ih = cells_worth cells width (omega arith) in
      let front = sum_front (λ j. cost_in cost (get_or (None ∷ cells) j None)) width in
      omega (arith, ih, front)
  cells_worth (Some f ∷ cells) (suc width) l =
      let ih = cells_worth cells width (omega arith) in
      let front = sum_front (λ j. cost_in cost (get_or (Some f ∷ cells) j None)) width in
      omega (arith, ih, front)

  pub rows_worth : (rows : List (List (Option Firing))) (width : ℕ) →
      ((i : ℕ) → i < length rows → length (row rows i) ≤ width) → sum_to (load_of cost rows) width ≡ worth (order rows)
  rows_worth [] width wide = sum_none (load_of cost []) width (λ i h. refl)
  rows_worth (cells ∷ rows) width wide =
      let ih = rows_worth rows width (λ i h. wide (suc i) (omega arith)) in
      let first = cells_worth cells width (wide 0 (omega arith)) in
      let same = sum_same (load_of cost (cells ∷ rows)) (λ j. cost_in cost (get_or cells j None) + load_of cost rows j)
      width (λ j h. sum_front (λ i. cost_in cost (cell (cells ∷ rows) i j)) (length rows)) in
      let both = sum_both (λ j. cost_in cost (get_or cells j None)) (load_of cost rows) width in
      let joined = worth_append (firings cells) (order rows) in
      omega (arith, ih, first, same, both, joined)

  -- actor by actor
  one_more : (b a t : ℕ) → (b ≡ a) ⊎ (b ≡ a → ⊥) → (only_at b 1 a + t) * cost a ≡ only_at b (cost b) a + t * cost a
  one_more b a t (inl e) =
      let same : cost b ≡ cost a = ap cost e in
      let one : (only_at b 1 a + t) * cost a ≡ (1 + t) * cost a = ap (λ x. (x + t) * cost a) (only_here b 1 a e) in
      omega (arith, same, one, only_here b (cost b) a e, one_and (cost a) t)
    where
      one_and : (x t : ℕ) → (1 + t) * x ≡ x + t * x
      one_and x t = omega arith
  one_more b a t (inr ne) =
      let none : (only_at b 1 a + t) * cost a ≡ (0 + t) * cost a = ap (λ x. (x + t) * cost a) (only_there b 1 a ne) in
      let rest : (0 + t) * cost a ≡ t * cost a = ap (λ x. x * cost a) (let e : 0 + t ≡ t = omega arith in e) in
      omega (arith, none, rest, only_there b (cost b) a ne)

  actors_worth : (fs : List Firing) (m : ℕ) → ((p : ℕ) → p < length fs → (firing fs p).actor < m) →
      sum_to (λ a. times (map (λ f. f.actor) fs) a * cost a) m ≡ worth fs
  actors_worth [] m known = sum_none (λ a. times [] a * cost a) m (λ a h. omega arith)
  actors_worth (f ∷ fs) m known =
      let w = map (λ (f : Firing). f.actor) fs in
      let ih = actors_worth fs m (λ p h. known (suc p) (omega arith)) in
      let step = sum_same (λ a. times (f.actor ∷ w) a * cost a)
      (λ a. only_at f.actor (cost f.actor) a + times w a * cost a) m
      (λ a h. ap (λ t. t * cost a) (sum_by-cons (λ b. cond (eqb b a) 1 0) f.actor w)
      ∙ one_more f.actor a (times w a) (cases_eq f.actor a)) in
      let both = sum_both (only_at f.actor (cost f.actor)) (λ a. times w a * cost a) m in
      let one = sum_only f.actor (cost f.actor) m (known 0 (omega arith)) in
      omega (arith, ih, step, both, one)

  -- what the columns do together is the work of the block
  pub columns_do_work : (r : Rates) (n : ℕ → ℕ) (rows : List (List (Option Firing))) (width : ℕ) →
      IsValid r n rows →
      ((i : ℕ) → i < length rows → length (row rows i) ≤ width) →
      sum_to (load_of cost rows) width ≡ work_of r.actors n cost
  columns_do_work r n rows width v wide =
      let pass = orders_are_admissible r n rows v in
      let by_actor = actors_worth (order rows) r.actors (λ p h. (v.known p h).0) in
      let same = sum_same (λ a. times (sequence rows) a * cost a) (λ a. n a * cost a) r.actors
      (λ a h. ap (λ t. t * cost a) (pass.1 a h)) in
      rows_worth rows width wide ∙ (sym by_actor ∙ same)

  pub work_is : (r : Rates) (n : ℕ → ℕ) (rows : List (List (Option Firing))) → IsValid r n rows →
      worth (order rows) ≡ work_of r.actors n cost
  work_is r n rows v =
      let pass = orders_are_admissible r n rows v in
      let by_actor = actors_worth (order rows) r.actors (λ p h. (v.known p h).0) in
      let same = sum_same (λ a. times (sequence rows) a * cost a) (λ a. n a * cost a) r.actors
      (λ a h. ap (λ t. t * cost a) (pass.1 a h)) in
      sym by_actor ∙ same

  -- place by place
  pub places_worth : (fs : List Firing) → sum_to (λ m. cost (firing fs m).actor) (length fs) ≡ worth fs
  places_worth [] = refl
  places_worth (f ∷ fs) =
      let ih = places_worth fs in
      omega (arith, ih, sum_front (λ m. cost (firing (f ∷ fs) m).actor) (length fs))
