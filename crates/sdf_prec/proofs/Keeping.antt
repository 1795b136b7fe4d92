-- What stays when rows are filled up and empty ones are left out.
use Rattle.std.proofs.Common.{◌≡◌, ℕ, zero, suc, ◌+◌, ◌-◌, ◌≤◌, ◌<◌, List, [], ◌∷◌, ◌++◌, length, take, replicate, map}
use Rattle.std.proofs.Common.{cond, sym, ap, ◌∙◌, subst, inl, inr, ◌⊎◌, arith, refl, Bool, false, Option, None}
use Rattle.std.specs.Prelude.{filter, IsTrue}
use Rattle.std.proofs.lemmas.List.{append-nil, length-append, length-replicate, map-append}
use Rattle.std.proofs.lemmas.List.Elements.{filter_more}
use Rattle.std.proofs.lemmas.Bool.{cases_lt, lt-ltb, le-ltb, false≢true}
use Rattle.sdf_graph.specs.Rates.{Rates}
use Rattle.sdf_prec.specs.declared.firing.Firing.{Firing}
use Rattle.sdf_prec.specs.Precedence.{WaitsFor}
use Rattle.sdf_prec.specs.Tables.{firing, firings, row, order, Stands, IsOfBlock, IsValid, TableValue, IsExact}
use Rattle.sdf_prec.specs.Accepting.{IsAccepted}
use Rattle.sdf_prec.specs.Refusals.{AreNarrow}
use Rattle.sdf_prec.specs.Tidied.{filled, has_firing, tidy_rows}
use Rattle.sdf_prec.proofs.Marks.{firings_append}

-- one row more
pub tidied_some : (width : ℕ) (rows : List (List (Option Firing))) (i : ℕ) → i < length rows →
    0 < length (firings (row rows i)) →
    tidy_rows width (take (i + 1) rows) ≡ tidy_rows width (take i rows) ++ filled width (row rows i) ∷ []
tidied_some width rows i l some =
    ap (map (filled width)) (filter_more has_firing rows i [] l
    ∙ ap (λ b. filter has_firing (take i rows) ++ cond b (row rows i ∷ []) [])
    (lt-ltb 0 (length (firings (row rows i))) some)) ∙
    map-append (filled width) (filter has_firing (take i rows)) (row rows i ∷ [])

pub tidied_none : (width : ℕ) (rows : List (List (Option Firing))) (i : ℕ) → i < length rows →
    length (firings (row rows i)) ≤ 0 →
    tidy_rows width (take (i + 1) rows) ≡ tidy_rows width (take i rows)
tidied_none width rows i l none =
    ap (map (filled width)) (filter_more has_firing rows i [] l
    ∙ (ap (λ b. filter has_firing (take i rows) ++ cond b (row rows i ∷ []) [])
    (le-ltb 0 (length (firings (row rows i))) none) ∙ append-nil (filter has_firing (take i rows))))

pub firings_empty : (n : ℕ) → firings (replicate n None) ≡ []
firings_empty zero = refl
firings_empty (suc n) = firings_empty n

firings_filled : (width : ℕ) (cells : List (Option Firing)) → firings (filled width cells) ≡ firings cells
firings_filled width cells = firings_append cells (replicate (width - length cells) None)
    ∙ (ap (λ fs. firings cells ++ fs) (firings_empty (width - length cells)) ∙ append-nil (firings cells))

empty : (fs : List Firing) → length fs ≤ 0 → fs ≡ []
empty [] h = refl
empty (f ∷ fs) h = absurd (omega arith)

-- what row i of the kept ones was
pub record WasRow (width : ℕ) (rows : List (List (Option Firing))) (i : ℕ) : Type 0 where
  pub place : ℕ
  pub known : place < length rows
  pub is : row (tidy_rows width rows) i ≡ filled width (row rows place)
  pub some : 0 < length (firings (row rows place))
  pub earlier : order (take i (tidy_rows width rows)) ≡ order (take place rows)

module _ (width : ℕ) (cells : List (Option Firing)) (rows : List (List (Option Firing))) where
  kept_first : 0 < length (firings cells) → tidy_rows width (cells ∷ rows) ≡ filled width cells ∷ tidy_rows width rows
  kept_first some = ap (λ b. map (filled width) (cond b (cells ∷ filter has_firing rows) (filter has_firing rows)))
      (lt-ltb 0 (length (firings cells)) some)

  left_out : length (firings cells) ≤ 0 → tidy_rows width (cells ∷ rows) ≡ tidy_rows width rows
  left_out none = ap (λ b. map (filled width) (cond b (cells ∷ filter has_firing rows) (filter has_firing rows)))
      (le-ltb 0 (length (firings cells)) none)

  was_first : 0 < length (firings cells) → ((i : ℕ) → i < length (tidy_rows width rows) → WasRow width rows i) →
      (i : ℕ) → i < length (filled width cells ∷ tidy_rows width rows) → WasRow width (cells ∷ rows) i
  was_first some was zero l = record {
    place = 0;
    known = omega arith;
    is = ap (λ ts. row ts 0) (kept_first some);
    some = some;
    earlier = refl;
  }
  was_first some was (suc i) l =
      let w = was i (omega arith) in
      record {
        place = suc w.place;
        known = omega (arith, w.known);
        is = ap (λ ts. row ts (suc i)) (kept_first some) ∙ w.is;
        some = w.some;
        earlier = ap (λ ts. order (take (suc i) ts)) (kept_first some)
            ∙ (λ n. firings_filled width cells n ++ w.earlier n);
      }

  was_later : length (firings cells) ≤ 0 → (i : ℕ) → WasRow width rows i → WasRow width (cells ∷ rows) i
  was_later none i w = record {
    place = suc w.place;
    known = omega (arith, w.known);
    is = ap (λ ts. row ts i) (left_out none) ∙ w.is;
    some = w.some;
    earlier = ap (λ ts. order (take i ts)) (left_out none)
        ∙ (w.earlier ∙ ap (λ fs. fs ++ order (take w.place rows)) (sym (empty (firings cells) none)));
  }

  order_with : order (tidy_rows width rows) ≡ order rows → (0 < length (firings cells)) ⊎ (length (firings cells) ≤ 0) →
      order (tidy_rows width (cells ∷ rows)) ≡ order (cells ∷ rows)
  order_with same (inl some) = ap order (kept_first some) ∙ (λ n. firings_filled width cells n ++ same n)
  order_with same (inr none) = ap order (left_out none)
      ∙ (same ∙ ap (λ fs. fs ++ order rows) (sym (empty (firings cells) none)))

was_row : (width : ℕ) (rows : List (List (Option Firing))) (i : ℕ) → i < length (tidy_rows width rows) →
    WasRow width rows i
was_row width [] i l = absurd (omega arith)
was_row width (cells ∷ rows) i l = go (cases_lt 0 (length (firings cells))) (was_row width rows)
  where
    go : (0 < length (firings cells)) ⊎ (length (firings cells) ≤ 0) →
        ((i : ℕ) → i < length (tidy_rows width rows) → WasRow width rows i) → WasRow width (cells ∷ rows) i
    go (inl some) was = was_first width cells rows some was i
        (subst (λ ts. i < length ts) (kept_first width cells rows some) l)
    go (inr none) was = was_later width cells rows none i
        (was i (subst (λ ts. i < length ts) (left_out width cells rows none) l))

order_tidied : (width : ℕ) (rows : List (List (Option Firing))) → order (tidy_rows width rows) ≡ order rows
order_tidied width [] = refl
order_tidied width (cells ∷ rows) = order_with width cells rows (order_tidied width rows)
    (cases_lt 0 (length (firings cells)))

module _ (width : ℕ) (rows : List (List (Option Firing))) where
  pub tidied_wide : AreNarrow width rows (length rows) → (i : ℕ) → i < length (tidy_rows width rows) →
      length (row (tidy_rows width rows) i) ≡ width
  tidied_wide narrow i l =
      let w = was_row width rows i l in
      let cells = row rows w.place in
      omega (
        arith,
        ap length w.is,
        length-append cells (replicate {A = Option Firing} (width - length cells) None),
        length-replicate {A = Option Firing} (width - length cells) None,
        narrow w.place w.known,
      )

  pub tidied_filled : (i : ℕ) → i < length (tidy_rows width rows) → 0 < length (firings (row (tidy_rows width rows) i))
  tidied_filled i l =
      let w = was_row width rows i l in
      omega (
        arith,
        ap (λ cells. length (firings cells)) w.is,
        ap length (firings_filled width (row rows w.place)),
        w.some,
      )

  pub tidied_valid : (r : Rates) (n : ℕ → ℕ) → IsValid r n rows → IsValid r n (tidy_rows width rows)
  tidied_valid r n v = record {
    known = subst (λ fs. (p : ℕ) → p < length fs → IsOfBlock r n (firing fs p)) same v.known;
    all = subst (λ fs. (f : Firing) → IsOfBlock r n f → Stands fs f) same v.all;
    once = subst (λ fs. (p m : ℕ) → p < length fs → m < length fs → firing fs p ≡ firing fs m → p ≡ m) same v.once;
    earlier = early;
  }
    where
      same : order rows ≡ order (tidy_rows width rows)
      same = sym (order_tidied width rows)

      early : (i : ℕ) → i < length (tidy_rows width rows) → (f g : Firing) →
          Stands (firings (row (tidy_rows width rows) i)) f → WaitsFor r f g →
          Stands (order (take i (tidy_rows width rows))) g
      early i l f g st waits =
          let w = was_row width rows i l in
          let was : firings (row (tidy_rows width rows) i) ≡ firings (row rows w.place) =
          ap firings w.is ∙ firings_filled width (row rows w.place) in
          subst (λ fs. Stands fs g) (sym w.earlier) (v.earlier w.place w.known f g
          (subst (λ fs. Stands fs f) was st) waits)

pub accepted : (r : Rates) (n : ℕ → ℕ) (width : ℕ) (rows : List (List (Option Firing))) (t : TableValue) →
    AreNarrow width rows (length rows) → IsValid r n rows → t.rows ≡ tidy_rows width rows → IsExact r t →
    IsAccepted r n width rows t
accepted r n width rows t narrow valid is exact = record {
  narrow = narrow;
  valid = valid;
  kept = is;
  table = record {
    valid = subst (IsValid r n) (sym is) (tidied_valid width rows r n valid);
    wide = subst (λ rs. (i : ℕ) → i < length rs → length (row rs i) ≡ width) (sym is) (tidied_wide width rows narrow);
    some = subst (λ rs. (i : ℕ) → i < length rs → 0 < length (firings (row rs i))) (sym is) (tidied_filled width rows);
    exact = exact;
  };
}

-- where the test that a number is not 0 fails, it is 0
pub not_some : (b : Bool) (n : ℕ) → b ≡ false → (0 < n → IsTrue b) → n ≤ 0
not_some b n e some = go (cases_lt 0 n)
  where
    go : (0 < n) ⊎ (n ≤ 0) → n ≤ 0
    go (inl l) = absurd (false≢true (subst IsTrue e (some l)))
    go (inr h) = h
