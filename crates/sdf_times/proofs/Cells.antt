-- A valid table, cell by cell.
use Rattle.std.proofs.Common.{◌≡◌, ℕ, zero, suc, ◌+◌, ◌-◌, ◌≤◌, ◌<◌, ◌⊎◌, List, [], ◌∷◌, ◌++◌, length, get_or, take}
use Rattle.std.proofs.Common.{inl, inr, sym, ap, ◌∙◌, subst, arith, refl, Option, Some, None}
use Rattle.std.proofs.lemmas.List.{get_or_append_left, get_or-append-add, get_or-append_right, length-append}
use Rattle.std.proofs.lemmas.Option.{none-some, same_Some}
use Rattle.std.proofs.lemmas.Bool.{cases_lt}
use Rattle.sdf_graph.specs.Rates.{Rates}
use Rattle.sdf_prec.specs.declared.firing.Firing.{Firing}
use Rattle.sdf_prec.specs.Precedence.{WaitsFor}
use Rattle.sdf_prec.specs.Tables.{firing, firings, no_firing, row, cell, order, Stands, IsOfBlock, IsValid}

-- how many firings stand before column j of a row
abbrev pub place_in : List (Option Firing) → ℕ → ℕ
place_in [] j = 0
place_in (None ∷ cells) zero = 0
place_in (Some f ∷ cells) zero = 0
place_in (None ∷ cells) (suc j) = place_in cells j
place_in (Some f ∷ cells) (suc j) = suc (place_in cells j)

-- and before column j of row i
abbrev pub place : List (List (Option Firing)) → ℕ → ℕ → ℕ
place [] i j = 0
place (cells ∷ rows) zero j = place_in cells j
place (cells ∷ rows) (suc i) j = length (firings cells) + place rows i j

pub at_place_in : (cells : List (Option Firing)) (j : ℕ) (f : Firing) → get_or cells j None ≡ Some f →
    (place_in cells j < length (firings cells)) × (firing (firings cells) (place_in cells j) ≡ f)
at_place_in [] j f e = absurd (none-some f e)
at_place_in (None ∷ cells) zero f e = absurd (none-some f e)
at_place_in (Some g ∷ cells) zero f e = (omega arith, same_Some g f e)
at_place_in (None ∷ cells) (suc j) f e = at_place_in cells j f e
at_place_in (Some g ∷ cells) (suc j) f e = let at = at_place_in cells j f e in (omega (arith, at.0), at.1)

pub once_in : (cells : List (Option Firing)) (j m : ℕ) (f g : Firing) → get_or cells j None ≡ Some f →
    get_or cells m None ≡ Some g → place_in cells j ≡ place_in cells m → j ≡ m
once_in [] j m f g e d h = absurd (none-some f e)
once_in (None ∷ cells) zero m f g e d h = absurd (none-some f e)
once_in (None ∷ cells) (suc j) zero f g e d h = absurd (none-some g d)
once_in (None ∷ cells) (suc j) (suc m) f g e d h = ap suc (once_in cells j m f g e d h)
once_in (Some x ∷ cells) zero zero f g e d h = refl
once_in (Some x ∷ cells) zero (suc m) f g e d h = absurd (omega arith)
once_in (Some x ∷ cells) (suc j) zero f g e d h = absurd (omega arith)
once_in (Some x ∷ cells) (suc j) (suc m) f g e d h = ap suc (once_in cells j m f g e d (omega arith))

pub at_place : (rows : List (List (Option Firing))) (i j : ℕ) (f : Firing) → cell rows i j ≡ Some f →
    (place rows i j < length (order rows)) × (firing (order rows) (place rows i j) ≡ f)
at_place [] i j f e = absurd (none-some f e)
at_place (cells ∷ rows) zero j f e =
    let at = at_place_in cells j f e in (
      omega (arith, at.0, length-append (firings cells) (order rows)),
      get_or_append_left (firings cells) (order rows) no_firing (place_in cells j) at.0 ∙ at.1,
    )
at_place (cells ∷ rows) (suc i) j f e =
    let at = at_place rows i j f e in (
      omega (arith, at.0, length-append (firings cells) (order rows)),
      get_or-append-add (firings cells) (order rows) (place rows i j) no_firing ∙ at.1,
    )

pub once_at : (rows : List (List (Option Firing))) (i j k m : ℕ) (f g : Firing) → cell rows i j ≡ Some f →
    cell rows k m ≡ Some g → place rows i j ≡ place rows k m → (i ≡ k) × (j ≡ m)
once_at [] i j k m f g e d h = absurd (none-some f e)
once_at (cells ∷ rows) zero j zero m f g e d h = (refl, once_in cells j m f g e d h)
once_at (cells ∷ rows) zero j (suc k) m f g e d h = absurd (omega (arith, (at_place_in cells j f e).0))
once_at (cells ∷ rows) (suc i) j zero m f g e d h = absurd (omega (arith, (at_place_in cells m g d).0))
once_at (cells ∷ rows) (suc i) j (suc k) m f g e d h = let o = once_at rows i j k m f g e d (omega arith) in
    (ap suc o.0, o.1)

-- a firing of two lists stands in one of them
either : (xs ys : List Firing) (f : Firing) → Stands (xs ++ ys) f → Stands xs f ⊎ Stands ys f
either xs ys f (p, l, e) = go (cases_lt p (length xs))
  where
    go : (p < length xs) ⊎ (length xs ≤ p) → Stands xs f ⊎ Stands ys f
    go (inl low) = inl (p, low, sym (get_or_append_left xs ys no_firing p low) ∙ e)
    go (inr high) = inr (
      p - length xs,
      omega (arith, l, length-append xs ys),
      sym (get_or-append_right xs ys (length xs) p no_firing refl high) ∙ e,
    )

in_row : (cells : List (Option Firing)) (f : Firing) → Stands (firings cells) f →
    (j : ℕ) × (get_or cells j None ≡ Some f)
in_row [] f (p, l, e) = absurd (omega arith)
in_row (None ∷ cells) f st = let at = in_row cells f st in (suc at.0, at.1)
in_row (Some g ∷ cells) f (zero, l, e) = (0, ap Some e)
in_row (Some g ∷ cells) f (suc p, l, e) = let at = in_row cells f (p, omega arith, e) in (suc at.0, at.1)

in_first : (cells : List (Option Firing)) (rows : List (List (Option Firing))) (f : Firing) →
    (Stands (order rows) f → (i : ℕ) × (j : ℕ) × (cell rows i j ≡ Some f)) →
    Stands (firings cells) f ⊎ Stands (order rows) f → (i : ℕ) × (j : ℕ) × (cell (cells ∷ rows) i j ≡ Some f)
in_first cells rows f rest (inl st) = let at = in_row cells f st in (0, at.0, at.1)
in_first cells rows f rest (inr st) = let at = rest st in (suc at.0, at.1, at.2)

in_rows : (rows : List (List (Option Firing))) (f : Firing) → Stands (order rows) f →
    (i : ℕ) × (j : ℕ) × (cell rows i j ≡ Some f)
in_rows [] f (p, l, e) = absurd (omega arith)
in_rows (cells ∷ rows) f st = in_first cells rows f (λ h. in_rows rows f h) (either (firings cells) (order rows) f st)

in_before : (i : ℕ) (cells : List (Option Firing)) (rows : List (List (Option Firing))) (g : Firing) →
    (Stands (order (take i rows)) g → (k : ℕ) × (m : ℕ) × (k < i) × (cell rows k m ≡ Some g)) →
    Stands (firings cells) g ⊎ Stands (order (take i rows)) g →
    (k : ℕ) × (m : ℕ) × (k < suc i) × (cell (cells ∷ rows) k m ≡ Some g)
in_before i cells rows g rest (inl st) = let at = in_row cells g st in (0, at.0, omega arith, at.1)
in_before i cells rows g rest (inr st) = let at = rest st in (suc at.0, at.1, omega (arith, at.2), at.3)

before_row : (i : ℕ) (rows : List (List (Option Firing))) (g : Firing) → Stands (order (take i rows)) g →
    (k : ℕ) × (m : ℕ) × (k < i) × (cell rows k m ≡ Some g)
before_row zero rows g (p, l, e) = absurd (omega arith)
before_row (suc i) [] g (p, l, e) = absurd (omega arith)
before_row (suc i) (cells ∷ rows) g st = in_before i cells rows g (λ h. before_row i rows g h)
    (either (firings cells) (order (take i rows)) g st)

-- a cell in which a firing stands is one of its row's, and the row one of the table's
pub column_in : (cells : List (Option Firing)) (j : ℕ) (f : Firing) → get_or cells j None ≡ Some f → j < length cells
column_in [] j f e = absurd (none-some f e)
column_in (x ∷ cells) zero f e = omega arith
column_in (x ∷ cells) (suc j) f e = omega (arith, column_in cells j f e)

-- a firing in the cells of a row stands in the table
pub cell_is : (rows : List (List (Option Firing))) (cells : List (Option Firing)) (i j : ℕ) (f : Firing) →
    cells ≡ row rows i → get_or cells j None ≡ Some f → cell rows i j ≡ Some f
cell_is rows cells i j f same is = ap (λ xs. get_or xs j None) (sym same) ∙ is

-- and within as many columns as its row has
pub within : (rows : List (List (Option Firing))) (i j : ℕ) (f : Firing) (m n : ℕ) → cell rows i j ≡ Some f →
    length (row rows i) ≡ m → n ≡ m → j < n
within rows i j f m n is wide same = omega (arith, column_in (row rows i) j f is, wide, same)

pub row_in : (rows : List (List (Option Firing))) (i j : ℕ) (f : Firing) → cell rows i j ≡ Some f → i < length rows
row_in [] i j f e = absurd (none-some f e)
row_in (cells ∷ rows) zero j f e = omega arith
row_in (cells ∷ rows) (suc i) j f e = omega (arith, row_in rows i j f e)

-- each firing of the block stands in one cell and no other firing does, and what one waits for stands in an earlier row
pub record AreCells (r : Rates) (n : ℕ → ℕ) (rows : List (List (Option Firing))) : Type 0 where
  pub known : (i j : ℕ) (f : Firing) → cell rows i j ≡ Some f → IsOfBlock r n f
  pub all : (f : Firing) → IsOfBlock r n f → (i : ℕ) × (j : ℕ) × (cell rows i j ≡ Some f)
  pub once : (i j k m : ℕ) (f : Firing) → cell rows i j ≡ Some f → cell rows k m ≡ Some f → (i ≡ k) × (j ≡ m)
  pub earlier : (i j : ℕ) (f g : Firing) → cell rows i j ≡ Some f → WaitsFor r f g →
      (k : ℕ) × (m : ℕ) × (k < i) × (cell rows k m ≡ Some g)

pub are_cells : (r : Rates) (n : ℕ → ℕ) (rows : List (List (Option Firing))) → IsValid r n rows → AreCells r n rows
are_cells r n rows v = record {
  known = λ i j f e. let at = at_place rows i j f e in subst (IsOfBlock r n) at.1 (v.known (place rows i j) at.0);
  all = λ f of. in_rows rows f (v.all f of);
  once = λ i j k m f e d.
      let a = at_place rows i j f e in
      let b = at_place rows k m f d in
      once_at rows i j k m f f e d (v.once (place rows i j) (place rows k m) a.0 b.0 (a.1 ∙ sym b.1));
  earlier = λ i j f g e w.
      let at = at_place_in (row rows i) j f e in
      before_row i rows g (v.earlier i (row_in rows i j f e) f g (place_in (row rows i) j, at.0, at.1) w);
}

-- a table of rows that are not empty has no more rows than firings
pub rows_few : (rows : List (List (Option Firing))) → ((i : ℕ) → i < length rows → 0 < length (firings (row rows i))) →
    length rows ≤ length (order rows)
rows_few [] some = omega arith
rows_few (cells ∷ rows) some =
    let ih = rows_few rows (λ i h. some (suc i) (omega arith)) in
    omega (arith, ih, some 0 (omega arith), length-append (firings cells) (order rows))
