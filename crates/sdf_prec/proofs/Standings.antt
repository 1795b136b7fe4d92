-- The home columns of actors, cell by cell.
use Rattle.std.proofs.Common.{◌≡◌, ℕ, ◌+◌, ◌≤◌, ◌<◌, List, length, get_or, set, replicate, cond, eqb, sym, ap, ◌∙◌}
use Rattle.std.proofs.Common.{subst, inl, inr, ◌⊎◌, ◌↔◌, arith, rules, refl, Option, Some, None}
use Rattle.std.proofs.lemmas.List.{get_or-set_same, get_or-set_other, get_or_past, get_or-replicate, length-set}
use Rattle.std.proofs.lemmas.List.{length-replicate}
use Rattle.std.proofs.lemmas.Bool.{cases_lt, cases_eq, eq-eqb, ne_eqb}
use Rattle.sdf_prec.specs.declared.firing.Firing.{Firing}
use Rattle.sdf_prec.specs.declared.table.homes.HomeColumns.{HomeColumns}
use Rattle.sdf_prec.specs.declared.table.homes.HomeColumns.TheVariants.{Nowhere, In, Apart}
use Rattle.sdf_prec.specs.Tables.{row, cell, IsHome}
use Rattle.sdf_prec.specs.Homes.{IsHomeColumns, with_column, home_of, IsAmong, home_columns_of, AreHomeColumns}

none_some : {X : Type 0} {x : X} → None ≡ Some x → ⊥
none_some e = search rules

pub some_is : {X : Type 0} {x y : X} → Some x ≡ Some y → x ≡ y
some_is e = search rules

-- a place that holds something is one of the list
pub some_within : {X : Type 0} (xs : List (Option X)) (m : ℕ) (x : X) → get_or xs m None ≡ Some x → m < length xs
some_within xs m x e = go (cases_lt m (length xs))
  where
    go : (m < length xs) ⊎ (length xs ≤ m) → m < length xs
    go (inl l) = l
    go (inr past) = absurd (none_some (sym (get_or_past xs m None past) ∙ e))

pub row_within : (rows : List (List (Option Firing))) (k m : ℕ) (f : Firing) → cell rows k m ≡ Some f → k < length rows
row_within rows k m f e = go (cases_lt k (length rows))
  where
    go : (k < length rows) ⊎ (length rows ≤ k) → k < length rows
    go (inl l) = l
    go (inr past) = absurd (none_some (ap (λ cells. get_or cells m None) (sym (get_or_past rows k _ past)) ∙ e))

standing_same : (P Q : ℕ → Type 0) (s : HomeColumns) → ((m : ℕ) → P m → Q m) → ((m : ℕ) → Q m → P m) →
    IsHomeColumns P s →
    IsHomeColumns Q s
standing_same P Q Nowhere to from none = λ m q. none m (from m q)
standing_same P Q (In j) to from (p, only) = (to j p, λ m q. only m (from m q))
standing_same P Q Apart to from (j, m, p, q, ne) = (j, m, to j p, to m q, ne)

standing_more : (P Q : ℕ → Type 0) (s : HomeColumns) (j : ℕ) → ((m : ℕ) → P m → Q m) → Q j →
    ((m : ℕ) → Q m → P m ⊎ (m ≡ j)) → IsHomeColumns P s → IsHomeColumns Q (with_column s j)
standing_more P Q Nowhere j to q from none = (q, λ m h. one m (from m h))
  where
    one : (m : ℕ) → P m ⊎ (m ≡ j) → m ≡ j
    one m (inl p) = absurd (none m p)
    one m (inr e) = e
standing_more P Q (In i) j to q from (p, only) = go (cases_eq i j)
  where
    one : i ≡ j → (m : ℕ) → P m ⊎ (m ≡ j) → m ≡ i
    one e m (inl h) = only m h
    one e m (inr h) = h ∙ sym e

    go : (i ≡ j) ⊎ (i ≡ j → ⊥) → IsHomeColumns Q (cond (eqb i j) (In i) Apart)
    go (inl e) = rw (eq-eqb i j e) (to i p, λ m h. one e m (from m h))
    go (inr ne) = rw (ne_eqb i j ne) (i, j, to i p, q, ne)
standing_more P Q Apart j to q from (i, m, p, h, ne) = (i, m, to i p, to m h, ne)

module _ (rows : List (List (Option Firing))) (i j a : ℕ) where
  among_rises : (m : ℕ) → IsAmong rows i j a m → IsAmong rows i (j + 1) a m
  among_rises m (k, f, is, its, inl low) = (k, f, is, its, inl low)
  among_rises m (k, f, is, its, inr (e, low)) = (k, f, is, its, inr (e, omega arith))

  among_last : (m : ℕ) → IsAmong rows i (j + 1) a m →
      IsAmong rows i j a m ⊎ ((m ≡ j) × ((f : Firing) × (cell rows i j ≡ Some f) × (f.actor ≡ a)))
  among_last m (k, f, is, its, inl low) = inl (k, f, is, its, inl low)
  among_last m (k, f, is, its, inr (e, low)) = go (cases_eq m j)
    where
      go : (m ≡ j) ⊎ (m ≡ j → ⊥) → IsAmong rows i j a m
          ⊎ ((m ≡ j) × ((f : Firing) × (cell rows i j ≡ Some f) × (f.actor ≡ a)))
      go (inl same) = inr (same, (f, ap (λ x. cell rows i x) (sym same) ∙ (ap (λ x. cell rows x m) (sym e) ∙ is), its))
      go (inr ne) = inl (k, f, is, its, inr (e, omega arith))

  -- past the end of a row nothing stands
  among_on : length (row rows i) ≤ j → (m : ℕ) → IsAmong rows i j a m → IsAmong rows (i + 1) 0 a m
  among_on past m (k, f, is, its, inl low) = (k, f, is, its, inl (omega arith))
  among_on past m (k, f, is, its, inr (e, low)) = (k, f, is, its, inl (omega arith))

  among_off : length (row rows i) ≤ j → (m : ℕ) → IsAmong rows (i + 1) 0 a m → IsAmong rows i j a m
  among_off past m (k, f, is, its, inr (e, low)) = absurd (omega arith)
  among_off past m (k, f, is, its, inl low) = go (cases_eq k i)
    where
      go : (k ≡ i) ⊎ (k ≡ i → ⊥) → IsAmong rows i j a m
      go (inl e) =
          let here : cell rows i m ≡ Some f = ap (λ x. cell rows x m) (sym e) ∙ is in
          (k, f, is, its, inr (e, omega (arith, some_within (row rows i) m f here)))
      go (inr ne) = (k, f, is, its, inl (omega arith))

-- before the first cell
pub standing_none : (rows : List (List (Option Firing))) (n : ℕ) → AreHomeColumns rows 0 0 (replicate n Nowhere)
standing_none rows n a l = subst (IsHomeColumns (IsAmong rows 0 0 a))
    (sym (get_or-replicate n a Nowhere Nowhere (omega (arith, length-replicate n Nowhere)))) (λ m h. none m h)
  where
    none : (m : ℕ) → IsAmong rows 0 0 a m → ⊥
    none m (k, f, is, its, inl low) = omega arith
    none m (k, f, is, its, inr (e, low)) = omega arith

module _ (rows : List (List (Option Firing))) (i j : ℕ) (all : List HomeColumns)
    (are : AreHomeColumns rows i j all) where
  pub standing_some : (f : Firing) → cell rows i j ≡ Some f → f.actor < length all →
      AreHomeColumns rows i (j + 1) (set all f.actor (with_column (home_columns_of all f.actor) j))
  standing_some f is known a l = go (cases_eq a f.actor)
    where
      new : HomeColumns
      new = with_column (home_columns_of all f.actor) j

      here : a ≡ f.actor → (m : ℕ) → IsAmong rows i (j + 1) a m → IsAmong rows i j a m ⊎ (m ≡ j)
      here e m h = pick (among_last rows i j a m h)
        where
          pick : IsAmong rows i j a m ⊎ ((m ≡ j) × ((g : Firing) × (cell rows i j ≡ Some g) × (g.actor ≡ a))) →
              IsAmong rows i j a m ⊎ (m ≡ j)
          pick (inl old) = inl old
          pick (inr (same, g)) = inr same

      other : (a ≡ f.actor → ⊥) → (m : ℕ) → IsAmong rows i (j + 1) a m → IsAmong rows i j a m
      other ne m h = pick (among_last rows i j a m h)
        where
          pick : IsAmong rows i j a m ⊎ ((m ≡ j) × ((g : Firing) × (cell rows i j ≡ Some g) × (g.actor ≡ a))) →
              IsAmong rows i j a m
          pick (inl old) = old
          pick (inr (same, (g, held, its))) = absurd (ne
              (sym its ∙ ap (λ (h : Firing). h.actor) (some_is (sym held ∙ is))))

      go : (a ≡ f.actor) ⊎ (a ≡ f.actor → ⊥) → IsHomeColumns (IsAmong rows i (j + 1) a)
          (home_columns_of (set all f.actor new) a)
      go (inl e) =
          let at : home_columns_of (set all f.actor new) a ≡ with_column (home_columns_of all a) j =
          ap (home_columns_of (set all f.actor new)) e ∙ (get_or-set_same all f.actor new Nowhere known
          ∙ ap (λ b. with_column (home_columns_of all b) j) (sym e)) in
          subst (IsHomeColumns (IsAmong rows i (j + 1) a)) (sym at)
          (standing_more (IsAmong rows i j a) (IsAmong rows i (j + 1) a) (home_columns_of all a) j
          (among_rises rows i j a)
          (i, f, is, sym e, inr (refl, omega arith)) (here e) (are a (omega (arith, length-set all f.actor new))))
      go (inr ne) =
          subst (IsHomeColumns (IsAmong rows i (j + 1) a)) (sym (get_or-set_other all f.actor a new Nowhere ne))
          (standing_same (IsAmong rows i j a) (IsAmong rows i (j + 1) a) (home_columns_of all a)
          (among_rises rows i j a)
          (other ne) (are a (omega (arith, length-set all f.actor new))))

  pub standing_skip : cell rows i j ≡ None → AreHomeColumns rows i (j + 1) all
  standing_skip none a l = standing_same (IsAmong rows i j a) (IsAmong rows i (j + 1) a) (home_columns_of all a)
      (among_rises rows i j a) (λ m h. pick m (among_last rows i j a m h)) (are a l)
    where
      pick : (m : ℕ) → IsAmong rows i j a m ⊎ ((m ≡ j) × ((g : Firing) × (cell rows i j ≡ Some g) × (g.actor ≡ a))) →
          IsAmong rows i j a m
      pick m (inl old) = old
      pick m (inr (same, (g, held, its))) = absurd (none_some (sym none ∙ held))

  pub standing_row : length (row rows i) ≤ j → AreHomeColumns rows (i + 1) 0 all
  standing_row past a l = standing_same (IsAmong rows i j a) (IsAmong rows (i + 1) 0 a) (home_columns_of all a)
      (among_on rows i j a past) (among_off rows i j a past) (are a l)

-- after the last one
pub standing_all : (rows : List (List (Option Firing))) (a j : ℕ) (s : HomeColumns) →
    IsHomeColumns (IsAmong rows (length rows) 0 a) s → (home_of s ≡ Some j) ↔ IsHome rows a j
standing_all rows a j s are = (there s are, back s are)
  where
    among : (i m : ℕ) (f : Firing) → cell rows i m ≡ Some f → f.actor ≡ a → IsAmong rows (length rows) 0 a m
    among i m f is its = (i, f, is, its, inl (row_within rows i m f is))

    there : (s : HomeColumns) → IsHomeColumns (IsAmong rows (length rows) 0 a) s → home_of s ≡ Some j → IsHome rows a j
    there Nowhere none e = absurd (none_some e)
    there (In i) (at, only) e =
        let same : i ≡ j = some_is e in
        record {
          some = (at.0, at.1, row_within rows at.0 i at.1 at.2, ap (λ x. cell rows at.0 x) (sym same) ∙ at.2, at.3);
          all = λ k m f is its. only m (among k m f is its) ∙ same;
        }
    there Apart x e = absurd (none_some e)

    back : (s : HomeColumns) → IsHomeColumns (IsAmong rows (length rows) 0 a) s → IsHome rows a j → home_of s ≡ Some j
    back Nowhere none home = let at = home.some in absurd (none j (among at.0 j at.1 at.3 at.4))
    back (In i) (at, only) home = ap Some (home.all at.0 i at.1 at.2 at.3)
    back Apart (i, m, at, too, ne) home = absurd (ne
        (home.all at.0 i at.1 at.2 at.3 ∙ sym (home.all too.0 m too.1 too.2 too.3)))
