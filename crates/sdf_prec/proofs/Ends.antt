-- When nothing is at work any more each firing stands, and the rows are a valid table.
use Rattle.std.proofs.Common.{◌≡◌, ℕ, zero, suc, ◌+◌, ◌-◌, ◌≤◌, ◌<◌, ◌⊎◌, List, [], ◌∷◌, ◌++◌, length, get_or, take}
use Rattle.std.proofs.Common.{sym, ap, ◌∙◌, subst, inl, inr, arith, refl, add-one, Option, Some, None, Bool, true}
use Rattle.std.proofs.Common.{false}
use Rattle.std.specs.Prelude.{IsTrue, slice_get}
use Rattle.std.specs.List.{Contains}
use Rattle.std.proofs.lemmas.List.{take_all, get_or-take, length-take, get_or_append_left, get_or-append_right}
use Rattle.std.proofs.lemmas.List.{length-append, length-map, get_or_default}
use Rattle.std.proofs.lemmas.Option.{slice_get_within, get_or_from_slice_get}
use Rattle.std.proofs.lemmas.Bool.{cases_lt}
use Rattle.sdf_graph.specs.Rates.{Rates, IsSound}
use Rattle.sdf_graph.specs.Sequences.{times, IsPass, FitsIn}
use Rattle.sdf_graph.proofs.Theorems.{fronts_count_within, last_counts_more}
use Rattle.sdf_prec.specs.declared.firing.Firing.{Firing}
use Rattle.sdf_prec.specs.Precedence.{WaitsFor}
use Rattle.sdf_prec.specs.Tables.{firing, firings, no_firing, row, order, Stands, IsOfBlock, IsValid}
use Rattle.sdf_prec.specs.Next.{IsNext}
use Rattle.sdf_prec.specs.TimedRows.{Timed, no_row, timed, cells_of, StandsAt, Occurs, IsReadyAt, AreTimed, hu_rule}
use Rattle.sdf_prec.specs.Floor.{IsNextReady, IsFloor, IsStuck}
use Rattle.sdf_prec.proofs.Floors.{row_known, none_busy, none_at_work}
use Rattle.sdf_prec.proofs.RowCells.{stands_at}
use Rattle.sdf_prec.proofs.RowMarks.{row_order, in_order}
use Rattle.sdf_prec.proofs.Sufficing.{stands_in}
use Rattle.sdf_prec.proofs.Theorems.{next_may_fire, some_is_next}

-- capacities that no channel passes in a sequence
abbrev wide_cap : Rates → List ℕ → ℕ → ℕ
wide_cap r w c = r.initial c + r.produced c (times w (r.source c))

-- where all that started has ended and a firing is left, some firing is ready
pub some_ready : (r : Rates) (n ended started : ℕ → ℕ) (w : List ℕ) → IsSound r → IsPass r n w →
    ((a : ℕ) → a < r.actors → ended a ≡ started a) → (a : ℕ) → a < r.actors → started a < n a →
    (f : Firing) × IsNextReady r n ended started f
some_ready r n ended started w s pass all a l left = go (some_is_next ended w a (omega (arith, pass.1 a l, all a l)))
  where
    fits : FitsIn r (wide_cap r w) w
    fits m h c k = omega (
      arith,
      s.produced_rises c (times (take m w) (r.source c)) (times w (r.source c))
          (fronts_count_within w m (r.source c)),
    )

    go : (p : ℕ) × IsNext ended w p → (f : Firing) × IsNextReady r n ended started f
    go (p, next) =
        let fires = next_may_fire r ended (wide_cap r w) w p s pass.0 fits next in
        let b = get_or w p 0 in
        let known : get_or w p 0 < r.actors = (pass.0 p next.within).0 in
        let more : times (take (p + 1) w) (get_or w p 0) ≡ times (take p w) (get_or w p 0) + 1 =
        last_counts_more w p (get_or w p 0) next.within refl in
        let within : started (get_or w p 0) < n (get_or w p 0) =
        omega (
          arith,
          fronts_count_within w (p + 1) (get_or w p 0),
          pass.1 (get_or w p 0) known,
          all (get_or w p 0) known,
          fires.0,
        ) in (
          record { actor = get_or w p 0; number = started (get_or w p 0) },
          record {
            known = known;
            within = within;
            next = refl;
            through = all (get_or w p 0) known;
            on = fires.1;
          },
        )

module _ {r : Rates} {n cost : ℕ → ℕ} {width : ℕ} {past : List Timed} {now : ℕ} {ended started whose until : ℕ → ℕ}
    (floor : IsFloor r n cost width past now ended started whose until) where
  -- so where none can start none is left
  pub all_stand : (homed : Bool) (homes : ℕ → Option ℕ) (w : List ℕ) → IsSound r → 0 < width → IsPass r n w →
      IsStuck r n ended started until homes width now homed → ((j : ℕ) → j < width → until j ≤ now) →
      (f : Firing) → IsOfBlock r n f → Occurs past f
  all_stand homed homes w s some_column pass stuck none f of = go (cases_lt f.number (started f.actor))
    where
      through : (a : ℕ) → a < r.actors → ended a ≡ started a
      through = none_at_work floor none

      busy : (j : ℕ) → now < until j → ⊥
      busy = none_busy floor none

      go : (f.number < started f.actor) ⊎ (started f.actor ≤ f.number) → Occurs past f
      go (inl l) = (floor.occurs f of.0).0 l
      go (inr h) = at (some_ready r n ended started w s pass through f.actor of.0 (omega (arith, of.1)))
        where
          at : (g : Firing) × IsNextReady r n ended started g → Occurs past f
          at (g, ready) = none_left (stuck g ready)
            where
              none_left : ((k : ℕ) × IsTrue homed × (homes g.actor ≡ Some k) × (now < until k))
                  ⊎ ((j : ℕ) → j < width → now < until j) → Occurs past f
              none_left (inl (k, _, _, b)) = absurd (busy k b)
              none_left (inr all) = absurd (busy 0 (all 0 some_column))

-- a row without its time
pub row_of : (past : List Timed) (i : ℕ) → row (cells_of past) i ≡ (timed past i).cells
row_of [] i = refl
row_of (x ∷ past) zero = refl
row_of (x ∷ past) (suc i) = row_of past i

-- a firing of a row stands at a cell
pub cell_where : (cells : List (Option Firing)) (f : Firing) → Stands (firings cells) f →
    (j : ℕ) × (get_or cells j None ≡ Some f)
cell_where [] f (p, l, e) = absurd (omega arith)
cell_where (None ∷ cells) f st = let at = cell_where cells f st in (suc at.0, at.1)
cell_where (Some g ∷ cells) f (zero, l, e) = (0, ap Some e)
cell_where (Some g ∷ cells) f (suc p, l, e) = let at = cell_where cells f (p, omega arith, e) in (suc at.0, at.1)

module _ (past : List Timed) where
  rows_length : length (cells_of past) ≡ length past
  rows_length = length-map past (λ (x : Timed). x.cells)

  pub at_of : (i : ℕ) (f : Firing) → Stands (firings (row (cells_of past) i)) f → (j : ℕ) × StandsAt past i j f
  at_of i f st = let at = cell_where (row (cells_of past) i) f st in
      (at.0, ap (λ (cs : List (Option Firing)). get_or cs at.0 None) (sym (row_of past i)) ∙ at.1)

  pub stands_of : (i j : ℕ) (f : Firing) → StandsAt past i j f → Stands (firings (row (cells_of past) i)) f
  stands_of i j f at = stands_at (row (cells_of past) i) j f
      (ap (λ (cs : List (Option Firing)). get_or cs j None) (row_of past i) ∙ at)

  pub occurs_of : (m : ℕ) (f : Firing) → Stands (order (take m (cells_of past))) f →
      (i : ℕ) × (j : ℕ) × (i < m) × StandsAt past i j f
  occurs_of m f st =
      let in' = stands_in (cells_of past) m f st in
      let at = at_of in'.0 f in'.3 in
      (in'.0, at.0, in'.1, at.1)

  pub order_of : (m i j : ℕ) (f : Firing) → i < m → StandsAt past i j f → Stands (order (take m (cells_of past))) f
  order_of m i j f h at = in_order (cells_of past) i m f h
      (let l = row_known past i j f at in omega (arith, rows_length)) (stands_of i j f at)

  whole : take (length (cells_of past)) (cells_of past) ≡ cells_of past
  whole = take_all (length (cells_of past)) (cells_of past) (omega arith)

  pub occurs_all : (f : Firing) → Stands (order (cells_of past)) f → Occurs past f
  occurs_all f st = let at = occurs_of (length (cells_of past)) f (subst (λ rs. Stands (order rs) f) (sym whole) st) in
      (at.0, at.1, at.3)

  pub order_all : (f : Firing) → Occurs past f → Stands (order (cells_of past)) f
  order_all f (i, j, at) = subst (λ rs. Stands (order rs) f) whole
      (order_of (length (cells_of past)) i j f (let l = row_known past i j f at in omega (arith, rows_length)) at)

-- no firing stands twice in a list
abbrev Distinct : List Firing → Type 0
Distinct fs = (p m : ℕ) → p < length fs → m < length fs → firing fs p ≡ firing fs m → p ≡ m

distinct_append : (xs ys : List Firing) → Distinct xs → Distinct ys → ((f : Firing) → Stands xs f → Stands ys f → ⊥) →
    Distinct (xs ++ ys)
distinct_append xs ys dx dy none p m l k e = go (cases_lt p (length xs)) (cases_lt m (length xs))
  where
    left : (p : ℕ) → p < length xs → firing (xs ++ ys) p ≡ firing xs p
    left p h = get_or_append_left xs ys no_firing p h

    right : (p : ℕ) → length xs ≤ p → firing (xs ++ ys) p ≡ firing ys (p - length xs)
    right p h = get_or-append_right xs ys (length xs) p no_firing refl h

    go : (p < length xs) ⊎ (length xs ≤ p) → (m < length xs) ⊎ (length xs ≤ m) → p ≡ m
    go (inl a) (inl b) = dx p m a b (sym (left p a) ∙ (e ∙ left m b))
    go (inl a) (inr b) = absurd (none (firing xs p) (p, a, refl)
        (m - length xs, omega (arith, length-append xs ys), sym (right m b) ∙ (sym e ∙ left p a)))
    go (inr a) (inl b) = absurd (none (firing xs m) (m, b, refl)
        (p - length xs, omega (arith, length-append xs ys), sym (right p a) ∙ (e ∙ left m b)))
    go (inr a) (inr b) = let same = dy (p - length xs) (m - length xs) (omega (arith, length-append xs ys))
        (omega (arith, length-append xs ys)) (sym (right p a) ∙ (e ∙ right m b)) in omega arith

distinct_row : (cells : List (Option Firing)) → ((j m : ℕ) (f : Firing) → get_or cells j None ≡ Some f →
    get_or cells m None ≡ Some f → j ≡ m) → Distinct (firings cells)
distinct_row [] once = λ p m l. absurd (omega arith)
distinct_row (None ∷ cells) once = distinct_row cells
    (λ j m f e g. let same = once (suc j) (suc m) f e g in omega arith)
distinct_row (Some h ∷ cells) once = λ p m l k e. go
    (distinct_row cells (λ j m f e g. let same = once (suc j) (suc m) f e g in omega arith)) p m l k e
  where
    -- the first does not stand again
    again : (p : ℕ) → p < length (firings cells) → h ≡ firing (firings cells) p → ⊥
    again p l e =
        let at = cell_where cells h (p, l, sym e) in
        let same = once 0 (suc at.0) h refl at.1 in
        omega arith

    go : Distinct (firings cells) → (p m : ℕ) → p < length (h ∷ firings cells) → m < length (h ∷ firings cells) →
        firing (h ∷ firings cells) p ≡ firing (h ∷ firings cells) m → p ≡ m
    go rest zero zero l k e = refl
    go rest zero (suc m) l k e = absurd (again m (omega arith) e)
    go rest (suc p) zero l k e = absurd (again p (omega arith) (sym e))
    go rest (suc p) (suc m) l k e = let same = rest p m (omega arith) (omega arith) e in omega arith

-- a firing of a row by the rule was ready
pub row_ready : (r : Rates) (n cost : ℕ → ℕ) (level : Firing → ℕ) (width : ℕ) (homed : Bool) (past : List Timed) (t : ℕ)
    (cells : List (Option Firing)) → hu_rule r n cost level width homed past t cells →
    (j : ℕ) (f : Firing) → get_or cells j None ≡ Some f → IsReadyAt r n cost past t f
row_ready r n cost level width true past t cells rule j f e = go (rule.placed.only j f e)
  where
    go : Stands rule.queue f → IsReadyAt r n cost past t f
    go (p, l, is) = subst (IsReadyAt r n cost past t) is (rule.ready.each p l)
row_ready r n cost level width false past t cells rule j f e = go (rule.filled.only j f e)
  where
    go : Contains rule.columns j → IsReadyAt r n cost past t f
    go (p, l, is) =
        let column : get_or rule.columns p 0 ≡ j = get_or_default rule.columns p 0 j l ∙ is in
        let here : slice_get rule.queue p ≡ Some f =
        sym (rule.filled.filled p l) ∙ (ap (λ c. get_or cells c None) column ∙ e) in
        subst (IsReadyAt r n cost past t) (get_or_from_slice_get rule.queue p f no_firing here)
        (rule.ready.each p (slice_get_within rule.queue p f here))

module _ {r : Rates} {n cost : ℕ → ℕ} {width : ℕ} {past : List Timed} {now : ℕ} {ended started whose until : ℕ → ℕ}
    (floor : IsFloor r n cost width past now ended started whose until) where
  -- the rows are a valid table
  pub rows_valid : (level : Firing → ℕ) (homed : Bool) → AreTimed width (hu_rule r n cost level width homed) past →
      ((f : Firing) → IsOfBlock r n f → Occurs past f) → IsValid r n (cells_of past)
  rows_valid level homed rows all = record {
    known = λ p l. known (firing (order (cells_of past)) p)
        (occurs_all past (firing (order (cells_of past)) p) (p, l, refl));
    all = λ f of. order_all past f (all f of);
    once = subst (λ rs. (p m : ℕ) → p < length (order rs) → m < length (order rs) →
        firing (order rs) p ≡ firing (order rs) m → p ≡ m) (whole past)
        (distinct_front (length (cells_of past)) (omega arith));
    earlier = λ i l f g st waits. earlier i (omega (arith, rows_length past)) f g (at_of past i f st) waits;
  }
    where
      known : (f : Firing) → Occurs past f → IsOfBlock r n f
      known f (i, j, at) =
          let k = (floor.known i j f at).0 in
          let low = (floor.occurs f k).1 (i, j, at) in
          (k, omega (arith, floor.within f.actor k))

      earlier : (i : ℕ) → i < length past → (f g : Firing) → (j : ℕ) × StandsAt past i j f → WaitsFor r f g →
          Stands (order (take i (cells_of past))) g
      earlier i l f g (j, at) waits =
          let ready = row_ready r n cost level width homed (take i past) (timed past i).start (timed past i).cells
          (rows i l).by_rule j f at in
          let ended = ready.waits g waits in
          let m : ended.0 < i = go ended.0 (row_known (take i past) ended.0 ended.1 g ended.2) in
          order_of past i ended.0 ended.1 g m (sym (ap (λ (x : Timed). get_or x.cells ended.1 None)
          (get_or-take i past ended.0 no_row m)) ∙ ended.2)
        where
          go : (m : ℕ) → m < length (take i past) → m < i
          go m h = omega (arith, length-take i past)

      distinct_front : (m : ℕ) → m ≤ length (cells_of past) → Distinct (order (take m (cells_of past)))
      distinct_front zero h = λ p q l. absurd (omega arith)
      distinct_front (suc m) h = subst Distinct (sym
          (let e : order (take (m + 1) (cells_of past)) ≡
          order (take m (cells_of past)) ++ firings (row (cells_of past) m) =
          row_order (cells_of past) m (omega arith) in rw add-one at e))
          (distinct_append (order (take m (cells_of past))) (firings (row (cells_of past) m))
          (distinct_front m (omega arith))
          (distinct_row (row (cells_of past) m) (λ j k f e g.
          (floor.once m j m k f (ap (λ (cs : List (Option Firing)). get_or cs j None) (sym (row_of past m)) ∙ e)
          (ap (λ (cs : List (Option Firing)). get_or cs k None) (sym (row_of past m)) ∙ g)).1))
          (λ f st here.
          let before = occurs_of past m f st in
          let at = at_of past m f here in
          let same = (floor.once before.0 before.1 m at.0 f before.3 at.1).0 in
          let low = before.2 in
          omega arith))
