-- A row between two rows.
use Rattle.std.proofs.Common.{◌≡◌, ℕ, zero, suc, ◌+◌, ◌-◌, ◌≤◌, ◌<◌, List, [], ◌∷◌, ◌++◌, length, map, get_or, drop}
use Rattle.std.proofs.Common.{inl, inr, ◌⊎◌, refl, sym, ap, ◌∙◌, subst, arith, vec_capacity, Option, Some, None}
use Rattle.std.proofs.lemmas.List.{get_or-map, length-map, length-append, length-drop, get_or-drop}
use Rattle.std.proofs.lemmas.List.{get_or_append_left, get_or-append_right}
use Rattle.std.proofs.lemmas.Bool.{cases_lt}
use Rattle.sdf_actor.specs.Steps.{Steps}
use Rattle.sdf_actor.specs.Histories.{taken_before}
use Rattle.sdf_actor.specs.Nets.{Netlist, node, wiring}
use Rattle.sdf_node.specs.Nodes.{IsAt}
use Rattle.sdf_node.specs.declared.node.NodeState.{NodeState}
use Rattle.sdf_prec.specs.declared.firing.Firing.{Firing}
use Rattle.sdf_prec.specs.Tables.{firing, firings, no_firing, cell_of}
use Rattle.sdf_node.proofs.Theorems.{nodes_keep_phase}
use Rattle.sdf_queues.proofs.Theorems.{blocks_are_counted}
use Rattle.sdf_rows.specs.declared.row_firing.RowFiring.{RowFiring}
use Rattle.sdf_queues.specs.QueueValue.{QueueValue}
use Rattle.sdf_queues.specs.Sizes.{phase_of}
use Rattle.sdf_rows.specs.Loading.{actors_of, row_actors, AreLoaded}
use Rattle.sdf_rows.specs.RowStates.{HaveBlocks, IsLoaded, IsFilling, IsBetween, IsRow, KeepBlocks}
use Rattle.sdf_rows.proofs.Jobs.{actors_are}

abbrev bit : Option Firing → ℕ
bit None = 0
bit (Some f) = 1

abbrev or_else : Firing → Option Firing → Firing
or_else d None = d
or_else d (Some f) = f

-- the firing of a cell is one of its row's
cell_stands : (row : List (Option Firing)) (j : ℕ) (f : Firing) → j < length row → cell_of row j ≡ Some f →
    (i : ℕ) × (i < length (firings row)) × (firing (firings row) i ≡ f)
cell_stands [] j f l is = absurd (omega arith)
cell_stands (None ∷ row) zero f l is = let no : bit None ≡ bit (Some f) = ap bit is in absurd (omega (arith, no))
cell_stands (None ∷ row) (suc j) f l is = cell_stands row j f (omega arith) is
cell_stands (Some g ∷ row) zero f l is = (0, omega arith, ap (or_else g) is)
cell_stands (Some g ∷ row) (suc j) f l is = let at = cell_stands row j f (omega arith) is in
    (suc at.0, omega (arith, at.1), at.2)

actor_at : (fs : List Firing) (i : ℕ) → i < length fs →
    get_or (map (λ (f : Firing). f.actor) fs) i 0 ≡ (firing fs i).actor
actor_at fs i h = get_or-map (λ (f : Firing). f.actor) fs i no_firing 0 h

pub cells_known : {A S T : Type 0} (s : Steps A S T) (n : Netlist A T) (k high : ℕ → ℕ) (row : List (Option Firing)) →
    IsRow s n k high (row_actors row) → (j : ℕ) (f : Firing) → j < length row → cell_of row j ≡ Some f →
    f.actor < length n.nodes
cells_known s n k high row is j f l cell =
    let at = cell_stands row j f l cell in
    let known = is.known at.0 (omega (arith, length-map (firings row) (λ (f : Firing). f.actor), at.1)) in
    subst (λ (x : Firing). x.actor < length n.nodes) at.2
    (subst (λ a. a < length n.nodes) (actor_at (firings row) at.0 at.1) known)

-- between two rows, with the jobs at the front loaded for the next row
module _ {A S T : Type 0} {s : Steps A S T} {n : Netlist A T} {inputs : List (List T)} {many low high k : ℕ → ℕ}
    {states states' : List (NodeState T S)} {ls : List (QueueValue T)} {jobs jobs' : List (RowFiring A T S)}
    {row : List (Option Firing)} {done : List ℕ} (st : IsBetween s n inputs many low high k states ls)
    (is : IsRow s n k high (row_actors row)) (blocks : HaveBlocks s n jobs) (few : length (firings row) ≤ length jobs)
    (loaded : AreLoaded row done (firings row) states states' jobs jobs') (front : List (RowFiring A T S))
    (all : length front ≡ length (firings row))
    (same : (i : ℕ) (d : RowFiring A T S) → i < length (firings row) → get_or front i d ≡ get_or jobs' i d) where
  abbrev fs : List Firing
  fs = firings row

  acts_long : length (row_actors row) ≡ length fs
  acts_long = length-map fs (λ (f : Firing). f.actor)

  apart : (i m : ℕ) → i < length fs → m < length fs → (firing fs i).actor ≡ (firing fs m).actor → i ≡ m
  apart i m hi hm e = is.apart i m (omega (arith, acts_long)) (omega (arith, acts_long))
      (actor_at fs i hi ∙ (e ∙ sym (actor_at fs m hm)))

  idle : (a : ℕ) (w : NodeState T S) → a < length n.nodes →
      IsAt s inputs (many a) (node n a) (taken_before (wiring s n) st.history a (k a)) (get_or states a w)
  idle a w l = st.idle a w l (λ i from h. absurd (omega arith))

  loaded_at : (i : ℕ) (j : RowFiring A T S) → i < length fs →
      IsLoaded s n inputs many k st.history (get_or (row_actors row) i 0) (get_or front i j)
  loaded_at i j h =
      let a : ℕ = (firing fs i).actor in
      let known : a < length n.nodes = subst (λ a. a < length n.nodes) (actor_at fs i h)
      (is.known i (omega (arith, acts_long))) in
      let w : NodeState T S = (get_or jobs i j).state in
      let fill = (loaded.each apart i w j h).2 in
      let at : IsAt s inputs (many a) (node n a) (taken_before (wiring s n) st.history a (k a)) (get_or states a w) =
      idle a w known in
      let was = blocks i j (omega (arith, few)) in
      subst (IsLoaded s n inputs many k st.history (get_or (row_actors row) i 0)) (sym (same i j h))
      (subst (λ a. IsLoaded s n inputs many k st.history a (get_or jobs' i j)) (sym (actor_at fs i h))
      (record {
        actor = fill.actor;
        phase = fill.phase ∙ (nodes_keep_phase s inputs (node n a) (many a)
            (taken_before (wiring s n) st.history a (k a))
            (get_or states a w) at ∙
            ap (phase_of s (node n a)) (blocks_are_counted s n st.history a (k a)));
        state = subst (IsAt s inputs (many a) (node n a) (taken_before (wiring s n) st.history a (k a)))
            (sym fill.state) at;
        blocks = record {
          taken = λ b p l. omega (arith, was.taken b p l, ap (λ v. vec_capacity v) fill.taken);
          put = λ b p l. omega (arith, was.put b p l, ap (λ v. length v.items) fill.put);
        };
      }))

  pub front_actors : actors_of front ≡ row_actors row
  front_actors =
      actors_are front (row_actors row) (all ∙ sym acts_long)
      (λ i d h. (loaded_at i d (omega (arith, all))).actor)

  filling : IsFilling s n inputs many low high (row_actors row) 0 k states' ls front
  filling = record {
    small = st.small;
    reach = st.reach;
    top = st.top;
    history = st.history;
    is = st.is;
    channels = st.channels;
    left = st.left;
    above = st.above;
    below = st.below;
    fits = st.fits;
    nodes = loaded.states_all ∙ st.nodes;
    known = is.known;
    apart = is.apart;
    idle = λ a w l none.
        subst (IsAt s inputs (many a) (node n a) (taken_before (wiring s n) st.history a (k a)))
        (sym (loaded.idle a w (λ i h e. none i (omega arith) (omega (arith, acts_long))
        (actor_at fs i h ∙ e)))) (idle a w l);
    jobs_are = λ i j from h. loaded_at i j (omega (arith, acts_long));
    able = λ i from h. is.able i h;
    within = λ i from h. is.within i h;
  }

  pub filling_front : IsFilling s n inputs many low high (actors_of front) 0 k states' ls front
  filling_front = subst (λ acts. IsFilling s n inputs many low high acts 0 k states' ls front)
      (sym front_actors) filling

  -- each job keeps its blocks, whether it was filled or not
  pub row_keeps : (front' back : List (RowFiring A T S)) → back ≡ drop (length fs) jobs' → KeepBlocks front front' →
      KeepBlocks jobs (front' ++ back)
  row_keeps front' back back_is keeps = record {
    all = omega (
      arith,
      length-append front' back,
      keeps.all,
      all,
      ap length back_is,
      length-drop (length fs) jobs',
      loaded.jobs_all,
    );
    taken = λ i j h. ap (λ (x : RowFiring A T S). vec_capacity x.taken) (there i j (cases_lt i (length fs)))
        ∙ cap i j h (cases_lt i (length fs));
    put = λ i j h. ap (λ (x : RowFiring A T S). length x.put.items) (there i j (cases_lt i (length fs)))
        ∙ len i j h (cases_lt i (length fs));
  }
    where
      at_end : (i : ℕ) (j : RowFiring A T S) → (i < length fs) ⊎ (length fs ≤ i) → RowFiring A T S
      at_end i j (inl h) = get_or front' i j
      at_end i j (inr h) = get_or jobs i j

      there : (i : ℕ) (j : RowFiring A T S) (b : (i < length fs) ⊎ (length fs ≤ i)) →
          get_or (front' ++ back) i j ≡ at_end i j b
      there i j (inl h) = get_or_append_left front' back j i (omega (arith, keeps.all, all))
      there i j (inr h) =
          get_or-append_right front' back (length fs) i j (omega (arith, keeps.all, all)) h ∙
          (ap (λ xs. get_or xs (i - length fs) j) back_is ∙ (get_or-drop (length fs) jobs' (i - length fs) j ∙
          (ap (λ m. get_or jobs' m j) (let e : length fs + (i - length fs) ≡ i = omega arith in e)
          ∙ loaded.rest i j h)))

      cap : (i : ℕ) (j : RowFiring A T S) → i < length jobs → (b : (i < length fs) ⊎ (length fs ≤ i)) →
          vec_capacity (at_end i j b).taken ≡ vec_capacity (get_or jobs i j).taken
      cap i j l (inl h) =
          keeps.taken i j (omega (arith, all)) ∙ (ap (λ (x : RowFiring A T S). vec_capacity x.taken) (same i j h) ∙
          ap (λ v. vec_capacity v) (loaded.each apart i (get_or jobs i j).state j h).2.taken)
      cap i j l (inr h) = refl

      len : (i : ℕ) (j : RowFiring A T S) → i < length jobs → (b : (i < length fs) ⊎ (length fs ≤ i)) →
          length (at_end i j b).put.items ≡ length (get_or jobs i j).put.items
      len i j l (inl h) =
          keeps.put i j (omega (arith, all)) ∙ (ap (λ (x : RowFiring A T S). length x.put.items) (same i j h) ∙
          ap (λ v. length v.items) (loaded.each apart i (get_or jobs i j).state j h).2.put)
      len i j l (inr h) = refl
