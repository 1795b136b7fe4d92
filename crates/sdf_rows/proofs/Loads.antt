-- A row's jobs filled, cell by cell.
use Rattle.std.proofs.Common.{◌≡◌, ℕ, ◌+◌, ◌≤◌, ◌<◌, List, [], ◌∷◌, ◌++◌, length, get_or, set, take, drop, refl, sym}
use Rattle.std.proofs.Common.{ap, ◌∙◌, subst, inl, inr, ◌⊎◌, arith, Option, Some, None, slice_index}
use Rattle.std.proofs.lemmas.List.{get_or_default, get_or-set_same, get_or-set_other, length-set, length-append}
use Rattle.std.proofs.lemmas.List.{length_push, append-nil, take_more, take-append-drop, get_or_append_left}
use Rattle.std.proofs.lemmas.List.{get_or_push}
use Rattle.std.proofs.lemmas.Bool.{cases_lt}
use Rattle.sdf_node.specs.declared.node.NodeState.{NodeState}
use Rattle.sdf_node.specs.Nodes.{phase_at}
use Rattle.sdf_prec.specs.declared.firing.Firing.{Firing}
use Rattle.sdf_prec.specs.Tables.{firing, firings, no_firing, cell_of}
use Rattle.sdf_rows.specs.declared.row_firing.RowFiring.{RowFiring}
use Rattle.sdf_rows.specs.Loading.{CanLoad, IsFilled, HasLoaded, AreLoaded}

-- a job filled, whatever stands in its actor's place
module _ {A S T : Type 0} (states : List (NodeState T S)) (jobs : List (RowFiring A T S)) (f : Firing)
    (many column : ℕ) (done : List ℕ) (v gone : NodeState T S) (k filled : RowFiring A T S)
    (known : f.actor < length states)
    (has : many < length jobs)
    (is : filled ≡ record (get_or jobs many k) {
      processor = column;
      actor = f.actor;
      firing = slice_index done f.actor;
      phase = phase_at (get_or states f.actor v);
      state = get_or states f.actor v;
    }) where
  abbrev IsFull : NodeState T S → RowFiring A T S → RowFiring A T S → Type 0
  IsFull u j k = IsFilled column (slice_index done f.actor) f.actor u j k

  here : (w : NodeState T S) (j : RowFiring A T S) → IsFull (get_or states f.actor w) (get_or jobs many j)
      (get_or (set jobs many filled) many j)
  here w j =
      let state = get_or_default states f.actor v w known in
      let job = get_or_default jobs many k j has in
      let put = get_or-set_same jobs many filled j has ∙ is in
      let full : IsFull (get_or states f.actor v) (get_or jobs many k)
      (record (get_or jobs many k) {
        processor = column;
        actor = f.actor;
        firing = slice_index done f.actor;
        phase = phase_at (get_or states f.actor v);
        state = get_or states f.actor v;
      }) =
      record {
        processor = refl;
        actor = refl;
        firing = refl;
        phase = refl;
        state = refl;
        taken = refl;
        put = refl;
      } in
      let there = subst (IsFull (get_or states f.actor v) (get_or jobs many k)) (sym put) full in
      let of_job = subst (λ i. IsFull (get_or states f.actor v) i (get_or (set jobs many filled) many j)) job there in
      subst (λ u. IsFull u (get_or jobs many j) (get_or (set jobs many filled) many j)) state of_job

  pub has_loaded : HasLoaded (Some f) column done states (set states f.actor gone) jobs (set jobs many filled) many
      (many + 1)
  has_loaded = (
    refl,
    length-set states f.actor gone,
    length-set jobs many filled,
    here,
    λ a w other. get_or-set_other states f.actor a gone w (λ e. other (sym e)),
    λ i j other. get_or-set_other jobs many i filled j (λ e. other (sym e)),
  )

firings-append : (xs ys : List (Option Firing)) → firings (xs ++ ys) ≡ firings xs ++ firings ys
firings-append [] ys = refl
firings-append (None ∷ xs) ys = firings-append xs ys
firings-append (Some f ∷ xs) ys = ap (λ fs. f ∷ fs) (firings-append xs ys)

-- the firings up to the next cell
firings_more : (row : List (Option Firing)) (e : ℕ) → e < length row →
    firings (take (e + 1) row) ≡ firings (take e row) ++ firings (cell_of row e ∷ [])
firings_more row e l = ap firings (take_more row e None l) ∙ firings-append (take e row) (cell_of row e ∷ [])

firings_within : (row : List (Option Firing)) (e : ℕ) → length (firings (take e row)) ≤ length (firings row)
firings_within row e =
    let all : firings row ≡ firings (take e row) ++ firings (drop e row) =
    ap firings (sym (take-append-drop e row)) ∙ firings-append (take e row) (drop e row) in
    let long : length (firings row) ≡ length (firings (take e row)) + length (firings (drop e row)) =
    ap length all ∙ length-append (firings (take e row)) (firings (drop e row)) in
    omega arith

pub can_load : (row : List (Option Firing)) (done states jobs e many : ℕ) →
    ((j : ℕ) (f : Firing) → j < length row → cell_of row j ≡ Some f → (f.actor < done) × (f.actor < states)) →
    length (firings row) ≤ jobs → e < length row → many ≡ length (firings (take e row)) →
    CanLoad (cell_of row e) done states jobs many
can_load row done states jobs e many counted few l many_is = go (cell_of row e) refl
  where
    go : (cell : Option Firing) → cell_of row e ≡ cell → CanLoad cell done states jobs many
    go None is = tt
    go (Some f) is =
        let k = counted e f l is in
        let next : length (firings (take (e + 1) row)) ≡ length (firings (take e row)) + 1 =
        ap length (firings_more row e l ∙ ap (λ c. firings (take e row) ++ firings (c ∷ [])) is)
        ∙ length_push (firings (take e row)) f in
        (k.0, k.1, omega (arith, next, firings_within row (e + 1)))

module _ {A S T : Type 0} (row : List (Option Firing)) (done : List ℕ) (p : ℕ) (fs : List Firing)
    (states was states' : List (NodeState T S)) (jobs now jobs' : List (RowFiring A T S))
    (before : AreLoaded row done fs states was jobs now) where
  -- the job of a firing of the row is filled for its column
  abbrev IsPlaced : Firing → NodeState T S → RowFiring A T S → RowFiring A T S → Type 0
  IsPlaced f u j k = (c : ℕ) × (cell_of row c ≡ Some f) × IsFilled c (slice_index done f.actor) f.actor u j k

  one_more : (f : Firing) (more : ℕ) → cell_of row p ≡ Some f →
      HasLoaded (Some f) p done was states' now jobs' (length fs) more →
      AreLoaded row done (fs ++ f ∷ []) states states' jobs jobs'
  one_more f more stands put = record {
    states_all = put.1 ∙ before.states_all;
    jobs_all = put.2 ∙ before.jobs_all;
    each = λ apart i w j h. each apart i w j h (cases_lt i (length fs));
    idle = λ a w none.
        put.4 a w (λ e. none (length fs) (omega (arith, long))
        (ap (λ (x : Firing). x.actor) (last (length fs) refl) ∙ e)) ∙
        before.idle a w (λ i h e. none i (omega (arith, long)) (ap (λ (x : Firing). x.actor) (front i h) ∙ e));
    rest = λ i j h. put.5 i j (λ e. absurd (omega (arith, long))) ∙ before.rest i j (omega (arith, long));
  }
    where
      long : length (fs ++ f ∷ []) ≡ length fs + 1
      long = length_push fs f

      front : (i : ℕ) → i < length fs → firing (fs ++ f ∷ []) i ≡ firing fs i
      front i h = get_or_append_left fs (f ∷ []) no_firing i h

      last : (i : ℕ) → length fs ≡ i → firing (fs ++ f ∷ []) i ≡ f
      last i e = get_or_push fs f no_firing i e

      each : ((i m : ℕ) → i < length (fs ++ f ∷ []) → m < length (fs ++ f ∷ []) →
          (firing (fs ++ f ∷ []) i).actor ≡ (firing (fs ++ f ∷ []) m).actor → i ≡ m) →
          (i : ℕ) (w : NodeState T S) (j : RowFiring A T S) → i < length (fs ++ f ∷ []) →
          (i < length fs) ⊎ (length fs ≤ i) →
          IsPlaced (firing (fs ++ f ∷ []) i) (get_or states (firing (fs ++ f ∷ []) i).actor w) (get_or jobs i j)
          (get_or jobs' i j)
      each apart i w j h (inl below) =
          let old = before.each (λ i m hi hm e. apart i m (omega (arith, long)) (omega (arith, long))
          (ap (λ (x : Firing). x.actor) (front i hi) ∙ (e
          ∙ sym (ap (λ (x : Firing). x.actor) (front m hm))))) i w j below in
          subst (λ (x : Firing). IsPlaced x (get_or states x.actor w) (get_or jobs i j) (get_or jobs' i j))
          (sym (front i below))
          (subst (IsPlaced (firing fs i) (get_or states (firing fs i).actor w) (get_or jobs i j))
          (sym (put.5 i j (λ e. absurd (omega arith)))) old)
      each apart i w j h (inr above) =
          let here : length fs ≡ i = omega (arith, long) in
          let fresh : get_or was f.actor w ≡ get_or states f.actor w =
          before.idle f.actor w (λ m hm e.
          let same : m ≡ length fs = apart m (length fs) (omega (arith, long)) (omega (arith, long))
          (ap (λ (x : Firing). x.actor) (front m hm)
          ∙ (e ∙ sym (ap (λ (x : Firing). x.actor) (last (length fs) refl)))) in
          absurd (omega arith)) in
          let job : get_or now i j ≡ get_or jobs i j = before.rest i j (omega arith) in
          let new : IsPlaced f (get_or was f.actor w) (get_or now i j) (get_or jobs' i j) =
          subst (λ i. IsPlaced f (get_or was f.actor w) (get_or now i j) (get_or jobs' i j))
          here (p, stands, put.3 w j) in
          subst (λ (x : Firing). IsPlaced x (get_or states x.actor w) (get_or jobs i j) (get_or jobs' i j))
          (sym (last i here))
          (subst (λ w. IsPlaced f w (get_or jobs i j) (get_or jobs' i j)) fresh
          (subst (λ k. IsPlaced f (get_or was f.actor w) k (get_or jobs' i j)) job new))

  loaded_cell : (cell : Option Firing) (many more : ℕ) → cell_of row p ≡ cell → many ≡ length fs →
      HasLoaded cell p done was states' now jobs' many more →
      (more ≡ length (fs ++ firings (cell ∷ [])))
      × AreLoaded row done (fs ++ firings (cell ∷ [])) states states' jobs jobs'
  loaded_cell None many more stands many_is put = (
    put.0 ∙ (many_is ∙ ap length (sym (append-nil fs))),
    subst (λ xs. AreLoaded row done xs states states' jobs jobs') (sym (append-nil fs))
        (subst (λ v. AreLoaded row done fs states v jobs jobs') (sym put.1)
        (subst (λ v. AreLoaded row done fs states was jobs v) (sym put.2) before)),
  )
  loaded_cell (Some f) many more stands many_is put = (
    put.0 ∙ (ap (λ m. m + 1) many_is ∙ sym (length_push fs f)),
    one_more f more stands (subst (λ m. HasLoaded (Some f) p done was states' now jobs' m more) many_is put),
  )

-- the jobs filled up to the next cell
pub loaded_more : {A S T : Type 0} (row : List (Option Firing)) (done : List ℕ) (e many more : ℕ)
    (states was states' : List (NodeState T S)) (jobs now jobs' : List (RowFiring A T S)) → e < length row →
    many ≡ length (firings (take e row)) → AreLoaded row done (firings (take e row)) states was jobs now →
    HasLoaded (cell_of row e) e done was states' now jobs' many more →
    (more ≡ length (firings (take (e + 1) row)))
    × AreLoaded row done (firings (take (e + 1) row)) states states' jobs jobs'
loaded_more row done e many more states was states' jobs now jobs' l many_is before put =
    let next = loaded_cell row done e (firings (take e row)) states was states' jobs now jobs' before (cell_of row e)
    many more refl many_is put in
    let same = sym (firings_more row e l) in
    (next.0 ∙ ap length same, subst (λ fs. AreLoaded row done fs states states' jobs jobs') same next.1)
