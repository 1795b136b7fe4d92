-- A valid table has times: row by row, of each firing the greatest end of those that come before it.
use Rattle.std.proofs.Common.{◌≡◌, ℕ, zero, suc, ◌+◌, ◌≤◌, ◌<◌, ◌⊎◌, List, length, max, inl, inr, sym, ap, ◌∙◌}
use Rattle.std.proofs.Common.{subst, arith, refl, Option, Some, None}
use Rattle.std.proofs.lemmas.Option.{none-some, same_Some}
use Rattle.std.proofs.lemmas.Bool.{cases_lt, cases_eq}
use Rattle.sdf_graph.specs.Rates.{Rates}
use Rattle.sdf_prec.specs.declared.firing.Firing.{Firing}
use Rattle.sdf_prec.specs.Precedence.{WaitsFor}
use Rattle.sdf_prec.specs.Tables.{row, cell}
use Rattle.sdf_times.specs.Times.{IsGreatest, ComesBefore, IsStart, AreStarts, end_of}
use Rattle.sdf_times.specs.Laws.{StartsExist}
use Rattle.sdf_times.proofs.Greatest.{greatest_same, greatest_none, greatest_more}
use Rattle.sdf_times.proofs.Cells.{AreCells, are_cells, column_in, row_in}
use Rattle.sdf_times.proofs.Walks.{before_earlier}

-- a number below m has the property, or none has
find_step : (P : ℕ → Type 0) (m : ℕ) → P m ⊎ (P m → ⊥) → ((i : ℕ) × (i < m) × P i) ⊎ ((i : ℕ) → i < m → P i → ⊥) →
    ((i : ℕ) × (i < suc m) × P i) ⊎ ((i : ℕ) → i < suc m → P i → ⊥)
find_step P m (inl p) before = inl (m, omega arith, p)
find_step P m (inr not) (inl x) = inl (x.0, omega (arith, x.1), x.2)
find_step P m (inr not) (inr none) = inr (λ i l p. at i l p (cases_eq i m))
  where
    at : (i : ℕ) → i < suc m → P i → (i ≡ m) ⊎ (i ≡ m → ⊥) → ⊥
    at i l p (inl e) = not (subst P e p)
    at i l p (inr ne) = none i (omega arith) p

pub find : (P : ℕ → Type 0) → ((i : ℕ) → P i ⊎ (P i → ⊥)) → (m : ℕ) →
    ((i : ℕ) × (i < m) × P i) ⊎ ((i : ℕ) → i < m → P i → ⊥)
find P test zero = inr (λ i l p. omega arith)
find P test (suc m) = find_step P m (test m) (find P test m)

-- sets of numbers with a greatest: several of them together
pub both_greatest : (P Q R : ℕ → Type 0) → ((t : ℕ) × IsGreatest P t) → ((t : ℕ) × IsGreatest Q t) →
    ((u : ℕ) → P u → R u) →
    ((u : ℕ) → Q u → R u) → ((u : ℕ) → R u → P u ⊎ Q u) → (t : ℕ) × IsGreatest R t
both_greatest P Q R (t, g) (x, h) left right split =
    (max t x, greatest_more P R t x g left (new h.reached) (λ u r. back u (split u r)))
  where
    new : (x ≡ 0) ⊎ Q x → (x ≡ 0) ⊎ R x
    new (inl z) = inl z
    new (inr q) = inr (right x q)

    back : (u : ℕ) → P u ⊎ Q u → P u ⊎ (u ≤ x)
    back u (inl p) = inl p
    back u (inr q) = inr (h.above u q)

pub below_greatest : (P : ℕ → ℕ → Type 0) → ((i : ℕ) → (t : ℕ) × IsGreatest (P i) t) → (m : ℕ) →
    (t : ℕ) × IsGreatest (λ u. (i : ℕ) × (i < m) × P i u) t
below_greatest P each zero = (0, greatest_none (λ u. (i : ℕ) × (i < 0) × P i u) 0 refl (λ u x. omega (arith, x.1)))
below_greatest P each (suc m) =
    both_greatest (λ u. (i : ℕ) × (i < m) × P i u) (P m) (λ u. (i : ℕ) × (i < suc m) × P i u)
    (below_greatest P each m) (each m)
    (λ u x. (x.0, omega (arith, x.1), x.2)) (λ u p. (m, omega arith, p)) (λ u x. at u x.0 x.1 x.2 (cases_eq x.0 m))
  where
    at : (u i : ℕ) → i < suc m → P i u → (i ≡ m) ⊎ (i ≡ m → ⊥) → ((i : ℕ) × (i < m) × P i u) ⊎ P m u
    at u i l p (inl e) = inr (subst (λ i. P i u) e p)
    at u i l p (inr ne) = inl (i, omega arith, p)

-- whether a channel makes one firing wait for another, and whether it waits at all
abbrev Lacks : Rates → Firing → Firing → ℕ → Type 0
Lacks r f g d = (r.target d ≡ f.actor) × (r.source d ≡ g.actor)
    × (r.initial d + r.produced d g.number < r.consumed d (f.number + 1))

lacks_pick : (r : Rates) (f g : Firing) (d : ℕ) → (r.target d ≡ f.actor) ⊎ (r.target d ≡ f.actor → ⊥) →
    (r.source d ≡ g.actor) ⊎ (r.source d ≡ g.actor → ⊥) →
    (r.initial d + r.produced d g.number < r.consumed d (f.number + 1))
    ⊎ (r.consumed d (f.number + 1) ≤ r.initial d + r.produced d g.number) → Lacks r f g d ⊎ (Lacks r f g d → ⊥)
lacks_pick r f g d (inl a) (inl b) (inl low) = inl (a, b, low)
lacks_pick r f g d (inl a) (inl b) (inr high) = inr (λ w. omega (arith, w.2))
lacks_pick r f g d (inl a) (inr nb) x = inr (λ w. nb w.1)
lacks_pick r f g d (inr na) y x = inr (λ w. na w.0)

own_pick : (f g : Firing) → (g.actor ≡ f.actor) ⊎ (g.actor ≡ f.actor → ⊥) →
    (g.number + 1 ≡ f.number) ⊎ (g.number + 1 ≡ f.number → ⊥) →
    ((g.actor ≡ f.actor) × (g.number + 1 ≡ f.number)) ⊎ ((g.actor ≡ f.actor) × (g.number + 1 ≡ f.number) → ⊥)
own_pick f g (inl a) (inl b) = inl (a, b)
own_pick f g (inl a) (inr nb) = inr (λ w. nb w.1)
own_pick f g (inr na) x = inr (λ w. na w.0)

waits_pick : (r : Rates) (f g : Firing) → ((g.actor ≡ f.actor) × (g.number + 1 ≡ f.number))
    ⊎ ((g.actor ≡ f.actor) × (g.number + 1 ≡ f.number) → ⊥) →
    ((d : ℕ) × (d < r.channels) × Lacks r f g d) ⊎ ((d : ℕ) → d < r.channels → Lacks r f g d → ⊥) →
    WaitsFor r f g ⊎ (WaitsFor r f g → ⊥)
waits_pick r f g (inl own) x = inl (inl own)
waits_pick r f g (inr not_own) (inl x) = inl (inr (x.0, x.1, x.2.0, x.2.1, x.2.2))
waits_pick r f g (inr not_own) (inr none) = inr out
  where
    out : WaitsFor r f g → ⊥
    out (inl own) = not_own own
    out (inr (d, known, into, src, lacks)) = none d known (into, src, lacks)

pub waits_test : (r : Rates) (f g : Firing) → WaitsFor r f g ⊎ (WaitsFor r f g → ⊥)
waits_test r f g =
    waits_pick r f g (own_pick f g (cases_eq g.actor f.actor) (cases_eq (g.number + 1) f.number))
    (find (Lacks r f g) (λ d. lacks_pick r f g d (cases_eq (r.target d) f.actor) (cases_eq (r.source d) g.actor)
    (cases_lt (r.initial d + r.produced d g.number) (r.consumed d (f.number + 1)))) r.channels)

-- whether a firing stands in a cell
held_pick : (f g : Firing) → (g.actor ≡ f.actor) ⊎ (g.actor ≡ f.actor → ⊥) →
    (g.number ≡ f.number) ⊎ (g.number ≡ f.number → ⊥) → (Some g ≡ Some f) ⊎ (Some g ≡ Some f → ⊥)
held_pick f g (inl a) (inl b) = let is : g ≡ f = λ i. record { actor = a i; number = b i } in inl (ap Some is)
held_pick f g (inl a) (inr nb) = inr (λ e. nb (ap (λ (h : Firing). h.number) (same_Some g f e)))
held_pick f g (inr na) x = inr (λ e. na (ap (λ (h : Firing). h.actor) (same_Some g f e)))

held_test : (o : Option Firing) (f : Firing) → (o ≡ Some f) ⊎ (o ≡ Some f → ⊥)
held_test None f = inr (none-some f)
held_test (Some g) f = held_pick f g (cases_eq g.actor f.actor) (cases_eq g.number f.number)

module _ (r : Rates) (n cost : ℕ → ℕ) (rows : List (List (Option Firing))) (cells : AreCells r n rows) where
  abbrev Ends : (Firing → ℕ) → Firing → ℕ → Type 0
  Ends start f t = (g : Firing) × ComesBefore r rows g f × (end_of cost start g ≡ t)

  -- of the firing in one cell
  abbrev CellEnds : (Firing → ℕ) → Firing → ℕ → ℕ → ℕ → Type 0
  CellEnds start f k m u = (g : Firing) × (cell rows k m ≡ Some g) × ComesBefore r rows g f × (end_of cost start g ≡ u)

  before_pick : (i j k m : ℕ) (f g : Firing) → cell rows i j ≡ Some f → cell rows k m ≡ Some g →
      WaitsFor r f g ⊎ (WaitsFor r f g → ⊥) → (m ≡ j) ⊎ (m ≡ j → ⊥) → (k < i) ⊎ (i ≤ k) →
      ComesBefore r rows g f ⊎ (ComesBefore r rows g f → ⊥)
  before_pick i j k m f g e d (inl waits) x y = inl (inl waits)
  before_pick i j k m f g e d (inr not) (inl same) (inl low) =
      inl (inr (k, i, j, low, ap (cell rows k) (sym same) ∙ d, e))
  before_pick i j k m f g e d (inr not) (inl same) (inr high) = inr out
    where
      out : ComesBefore r rows g f → ⊥
      out (inl waits) = not waits
      out (inr (x, y, z, l, up, at)) = omega (arith, (cells.once x z k m g up d).0, (cells.once y z i j f at e).0)
  before_pick i j k m f g e d (inr not) (inr ne) w = inr out
    where
      out : ComesBefore r rows g f → ⊥
      out (inl waits) = not waits
      out (inr (x, y, z, l, up, at)) = ne (sym (cells.once x z k m g up d).1 ∙ (cells.once y z i j f at e).1)

  cell_pick : (start : Firing → ℕ) (f : Firing) (k m : ℕ) (g : Firing) → cell rows k m ≡ Some g →
      ComesBefore r rows g f ⊎ (ComesBefore r rows g f → ⊥) → (t : ℕ) × IsGreatest (CellEnds start f k m) t
  cell_pick start f k m g e (inl b) = (
    end_of cost start g,
    record {
      above = λ u x. omega (arith, ap (end_of cost start) (same_Some x.0 g (sym x.1 ∙ e)), x.3);
      reached = inr (g, e, b, refl);
    },
  )
  cell_pick start f k m g e (inr not) = (
    0,
    greatest_none (CellEnds start f k m) 0 refl
        (λ u x. not (subst (λ h. ComesBefore r rows h f) (same_Some x.0 g (sym x.1 ∙ e)) x.2)),
  )

  cell_greatest : (start : Firing → ℕ) (f : Firing) (i j k m : ℕ) → cell rows i j ≡ Some f → (o : Option Firing) →
      cell rows k m ≡ o → (t : ℕ) × IsGreatest (CellEnds start f k m) t
  cell_greatest start f i j k m here None e = (
    0,
    greatest_none (CellEnds start f k m) 0 refl (λ u x. none-some x.0 (sym e ∙ x.1)),
  )
  cell_greatest start f i j k m here (Some g) e =
      cell_pick start f k m g e (before_pick i j k m f g here e (waits_test r f g) (cases_eq m j) (cases_lt k i))

  abbrev RowEnds : (Firing → ℕ) → Firing → ℕ → ℕ → Type 0
  RowEnds start f k u = (m : ℕ) × (m < length (row rows k)) × CellEnds start f k m u

  ends_greatest : (start : Firing → ℕ) (f : Firing) (i j : ℕ) → cell rows i j ≡ Some f →
      (t : ℕ) × IsGreatest (Ends start f) t
  ends_greatest start f i j here =
      let all = below_greatest (RowEnds start f) (λ k. below_greatest (CellEnds start f k)
      (λ m. cell_greatest start f i j k m here (cell rows k m) refl) (length (row rows k))) i in (
        all.0,
        greatest_same (λ u. (k : ℕ) × (k < i) × RowEnds start f k u) (Ends start f) all.0
            (λ u x. (x.2.2.0, x.2.2.2, x.2.2.3)) (λ u x. from u x.0 x.1 x.2) all.1,
      )
    where
      from : (u : ℕ) (g : Firing) → ComesBefore r rows g f → end_of cost start g ≡ u →
          (k : ℕ) × (k < i) × RowEnds start f k u
      from u g b is =
          let at = before_earlier r n rows cells i j f g here b in
          (at.0, at.2, (at.1, column_in (row rows at.0) at.1 g at.3, (g, at.3, b, is)))

  -- the starts with those of row i
  abbrev Found : ℕ → Firing → Type 0
  Found i f = ((j : ℕ) × (j < length (row rows i)) × (cell rows i j ≡ Some f))
      ⊎ ((j : ℕ) → j < length (row rows i) → cell rows i j ≡ Some f → ⊥)

  found : (i : ℕ) (f : Firing) → Found i f
  found i f = find (λ j. cell rows i j ≡ Some f) (λ j. held_test (cell rows i j) f) (length (row rows i))

  abbrev pick : (Firing → ℕ) → (i : ℕ) (f : Firing) → Found i f → ℕ
  pick start i f (inl x) = (ends_greatest start f i x.0 x.2).0
  pick start i f (inr none) = start f

  pick_here : (start : Firing → ℕ) (i j : ℕ) (f : Firing) → cell rows i j ≡ Some f → (x : Found i f) →
      IsGreatest (Ends start f) (pick start i f x)
  pick_here start i j f e (inl x) = (ends_greatest start f i x.0 x.2).1
  pick_here start i j f e (inr none) = absurd (none j (column_in (row rows i) j f e) e)

  pick_before : (start : Firing → ℕ) (i k m : ℕ) (f : Firing) → cell rows k m ≡ Some f → k < i → (x : Found i f) →
      pick start i f x ≡ start f
  pick_before start i k m f e low (inl x) = absurd (omega (arith, (cells.once k m i x.0 f e x.2).0))
  pick_before start i k m f e low (inr none) = refl

  abbrev next : (Firing → ℕ) → ℕ → Firing → ℕ
  next start i f = pick start i f (found i f)

  again : (start : Firing → ℕ) (i k m : ℕ) (f : Firing) → cell rows k m ≡ Some f → k ≤ i → (t : ℕ) →
      IsGreatest (Ends start f) t → IsGreatest (Ends (next start i) f) t
  again start i k m f e l t g =
      greatest_same (Ends start f) (Ends (next start i) f) t
      (λ u x. (x.0, x.1, ap (λ s. s + cost x.0.actor) (same x.0 x.1) ∙ x.2))
      (λ u x. (x.0, x.1, ap (λ s. s + cost x.0.actor) (sym (same x.0 x.1)) ∙ x.2)) g
    where
      same : (h : Firing) → ComesBefore r rows h f → next start i h ≡ start h
      same h b = let at = before_earlier r n rows cells k m f h e b in
          pick_before start i at.0 at.1 h at.3 (omega (arith, at.2)) (found i h)

  started : (start : Firing → ℕ) (i : ℕ) → ((k m : ℕ) (f : Firing) → k < i → cell rows k m ≡ Some f →
      IsStart r cost rows start f) →
      (k m : ℕ) (f : Firing) → k < suc i → cell rows k m ≡ Some f → (k ≡ i) ⊎ (k ≡ i → ⊥) →
      IsStart r cost rows (next start i) f
  started start i before k m f l e (inl is) =
      let here : cell rows i m ≡ Some f = ap (λ k. cell rows k m) (sym is) ∙ e in
      again start i k m f e (omega arith) (next start i f) (pick_here start i m f here (found i f))
  started start i before k m f l e (inr ne) =
      let same : next start i f ≡ start f = pick_before start i k m f e (omega arith) (found i f) in
      subst (IsGreatest (Ends (next start i) f)) (sym same)
      (again start i k m f e (omega arith) (start f) (before k m f (omega arith) e))

  upto : (i : ℕ) → (start : Firing → ℕ) × ((k m : ℕ) (f : Firing) → k < i → cell rows k m ≡ Some f →
      IsStart r cost rows start f)
  upto zero = (λ f. 0, λ k m f l e. absurd (omega arith))
  upto (suc i) = let s = upto i in (next s.0 i, λ k m f l e. started s.0 i s.1 k m f l e (cases_eq k i))

  pub exist : (start : Firing → ℕ) × AreStarts r cost rows start
  exist = let s = upto (length rows) in (s.0, λ f at. s.1 at.0 at.1 f (row_in rows at.0 at.1 f at.2) at.2)

pub starts_exist : StartsExist
starts_exist r n cost rows v = exist r n cost rows (are_cells r n rows v)
