-- In rows by Hu's rule with costs of at least 1 no firing starts earlier than its row, so each starts with it: at an
-- earlier time it would be ready and its column idle, and the rule leaves no such firing out.
use Rattle.std.proofs.Common.{◌≡◌, ℕ, zero, suc, ◌+◌, ◌*◌, ◌≤◌, ◌<◌, ◌⊎◌, List, [], ◌∷◌, length, get_or, take, inl, inr}
use Rattle.std.proofs.Common.{sym, ap, ◌∙◌, subst, arith, refl, Option, Some, None, Bool, true, false}
use Rattle.std.specs.List.{Contains}
use Rattle.std.proofs.lemmas.List.{get_or_default, length-take}
use Rattle.std.proofs.lemmas.Option.{none-some, same_Some, slice_get-get_or}
use Rattle.std.proofs.lemmas.Bool.{cases_lt, cases_eq}
use Rattle.sdf_graph.specs.Rates.{Rates}
use Rattle.sdf_prec.specs.declared.firing.Firing.{Firing}
use Rattle.sdf_prec.specs.Precedence.{WaitsFor}
use Rattle.sdf_prec.specs.Tables.{firing, no_firing, firings, cell_of, cell, Stands}
use Rattle.sdf_prec.specs.Trying.{IsLeft, IsHomeFor, IsPlace, IsPlaced, IsLeast, load}
use Rattle.sdf_prec.specs.TimedRows.{Timed, timed, cells_of, StandsAt, Occurs, HasEnded, IsBusy, IsReadyAt}
use Rattle.sdf_prec.specs.TimedRows.{IsSettled, IsFreeRow, IsHomedRow, IsLater, IsNextRow, AreTimedRows, hu_rule}
use Rattle.sdf_times.specs.Times.{ComesBefore, AreStarts, end_of}
use Rattle.sdf_times.specs.Laws.{RowsAreOnTime}
use Rattle.sdf_times.proofs.Cells.{AreCells, are_cells, column_in}
use Rattle.sdf_times.proofs.Decided.{decided_below}
use Rattle.sdf_times.proofs.Homing.{HasLeast, least_or_none}
use Rattle.sdf_times.proofs.Earlier.{free_row_exists, homed_row_exists}
use Rattle.sdf_times.proofs.Rules.{cell_at, at_take, timed_take, within, no_later}

none_in : (cells : List (Option Firing)) (m : ℕ) (f : Firing) → firings cells ≡ [] → cell_of cells m ≡ Some f → ⊥
none_in [] m f none e = none-some f e
none_in (None ∷ cells) zero f none e = none-some f e
none_in (None ∷ cells) (suc m) f none e = none_in cells m f none e
none_in (Some g ∷ cells) m f none e = absurd (omega (arith, ap length none))

-- the first place at which a number is reached
first_at : (t : ℕ → ℕ) (s i : ℕ) → s ≤ t i → (k : ℕ) × (k ≤ i) × (s ≤ t k) × ((m : ℕ) → m < k → t m < s)
first_at t s i h = done (upto i)
  where
    step : (b : ℕ) → (t b < s) ⊎ (s ≤ t b) →
        ((k : ℕ) × (k < b) × (s ≤ t k) × ((m : ℕ) → m < k → t m < s)) ⊎ ((m : ℕ) → m < b → t m < s) →
        ((k : ℕ) × (k < suc b) × (s ≤ t k) × ((m : ℕ) → m < k → t m < s)) ⊎ ((m : ℕ) → m < suc b → t m < s)
    step b here (inl (k, l, reached, below)) = inl (k, omega arith, reached, below)
    step b (inr reached) (inr below) = inl (b, omega arith, reached, below)
    step b (inl less) (inr below) = inr (λ m l. go m l (cases_eq m b))
      where
        go : (m : ℕ) → m < suc b → (m ≡ b) ⊎ (m ≡ b → ⊥) → t m < s
        go m l (inl e) = subst (λ m. t m < s) (sym e) less
        go m l (inr ne) = below m (omega arith)

    upto : (b : ℕ) → ((k : ℕ) × (k < b) × (s ≤ t k) × ((m : ℕ) → m < k → t m < s))
        ⊎ ((m : ℕ) → m < b → t m < s)
    upto zero = inr (λ m l. absurd (omega arith))
    upto (suc b) = step b (cases_lt (t b) s) (upto b)

    done : ((k : ℕ) × (k < i) × (s ≤ t k) × ((m : ℕ) → m < k → t m < s)) ⊎ ((m : ℕ) → m < i → t m < s) →
        (k : ℕ) × (k ≤ i) × (s ≤ t k) × ((m : ℕ) → m < k → t m < s)
    done (inl (k, l, reached, below)) = (k, omega arith, reached, below)
    done (inr below) = (i, omega arith, h, below)

-- a firing that is ready where column j is idle stands in the row, or another firing stands in that column
module _ (r : Rates) (n cost : ℕ → ℕ) (level : Firing → ℕ) (width : ℕ) (past : List Timed) (t : ℕ)
    (cells : List (Option Firing)) (f : Firing) (j : ℕ) (ready : IsReadyAt r n cost past t f) (inside : j < width)
    (idle : IsBusy cost past t j → ⊥) (absent : (m : ℕ) → cell_of cells m ≡ Some f → ⊥)
    (bare : (g : Firing) → cell_of cells j ≡ Some g → ⊥) where
  free_row_takes : IsFreeRow r n cost level width past t cells → ⊥
  free_row_takes is = go (is.ready.all f ready) (is.idle.all j inside idle)
    where
      go : Stands is.queue f → Contains is.columns j → ⊥
      go (p, l, e) (q, m, d) = at (cases_lt p (length is.columns))
        where
          at : (p < length is.columns) ⊎ (length is.columns ≤ p) → ⊥
          at (inl low) = absent (get_or is.columns p 0)
              (is.filled.filled p low ∙ (slice_get-get_or is.queue p no_firing l ∙ ap Some e))
          at (inr high) =
              let column : get_or is.columns q 0 ≡ j = get_or_default is.columns q 0 j m ∙ d in
              let more : q < length is.queue = omega arith in
              bare (firing is.queue q) (ap (cell_of cells) (sym column)
              ∙ (is.filled.filled q m ∙ slice_get-get_or is.queue q no_firing more))

  -- column j is the only one that can be its actor's home
  homed_row_takes : ((h : ℕ) → IsSettled past f.actor h → h ≡ j) →
      ((h : ℕ) (g : Firing) → cell_of cells h ≡ Some g → g.actor ≡ f.actor → h ≡ j) →
      IsHomedRow r n cost level width past t cells → ⊥
  homed_row_takes settled also is = go (is.ready.all f ready)
    where
      go : Stands is.queue f → ⊥
      go (p, l, e) = by_home (pl.home (firing is.queue p).actor) refl
        where
          pl : IsPlaced r.actors width (λ a. n a * cost a) (λ m. IsBusy cost past t m → ⊥) is.homes is.queue cells p
          pl = is.placed.each p l

          actor : (firing is.queue p).actor ≡ f.actor
          actor = ap (λ (g : Firing). g.actor) e

          known : (firing is.queue p).actor < r.actors
          known = omega (arith, ready.of_block.0, actor)

          left : IsLeft is.queue cells p j
          left m h d = bare (firing is.queue m) d

          nowhere : (c : ℕ) → IsPlace width (λ m. (IsBusy cost past t m → ⊥) × IsLeft is.queue cells p m)
              (load r.actors (λ a. n a * cost a) pl.home) (pl.home (firing is.queue p).actor) c → ⊥
          nowhere c place = absent c ((pl.stands c).1 place ∙ ap Some e)

          home_at : (h : ℕ) → IsHomeFor is.homes is.queue cells p (firing is.queue p).actor h → h ≡ j
          home_at h (inl before) = settled h (subst (λ a. IsSettled past a h) actor
              ((is.homes_are (firing is.queue p).actor h known).0 before))
          home_at h (inr (m, _, d, its)) = also h (firing is.queue m) d (its ∙ actor)

          best : pl.home (firing is.queue p).actor ≡ None →
              HasLeast (λ m. (IsBusy cost past t m → ⊥) × IsLeft is.queue cells p m)
              (load r.actors (λ a. n a * cost a) pl.home) width
              ⊎ ((m : ℕ) → m < width → (IsBusy cost past t m → ⊥) × IsLeft is.queue cells p m → ⊥) → ⊥
          best own (inr none) = none j inside (idle, left)
          best own (inl (b, l, free, least)) =
              nowhere b (record { known = l; is_free = free; chosen = inr (own, least) })

          by_home : (o : Option ℕ) → pl.home (firing is.queue p).actor ≡ o → ⊥
          by_home (Some h) own =
              let same : h ≡ j = home_at h ((pl.home_is (firing is.queue p).actor h known).0 own) in
              nowhere j (record { known = inside; is_free = (idle, left); chosen = inl (own ∙ ap Some same) })
          by_home None own = decided_below (λ m. (IsBusy cost past t m → ⊥) × IsLeft is.queue cells p m) width
              (λ decide. best own (least_or_none (λ m. (IsBusy cost past t m → ⊥) × IsLeft is.queue cells p m)
              (load r.actors (λ a. n a * cost a) pl.home) width decide))

module _ (r : Rates) (n cost : ℕ → ℕ) (level : Firing → ℕ) (width : ℕ) where
  -- the home of a firing's actor is where the firing stands
  home_is : (past : List Timed) (t : ℕ) (cells : List (Option Firing)) (j : ℕ) (f : Firing) → f.actor < r.actors →
      cell_of cells j ≡ Some f → IsHomedRow r n cost level width past t cells → (h : ℕ) → IsSettled past f.actor h →
      h ≡ j
  home_is past t cells j f known e is h settled = go (is.placed.only j f e)
    where
      go : Stands is.queue f → h ≡ j
      go (p, l, d) = at place.chosen
        where
          pl : IsPlaced r.actors width (λ a. n a * cost a) (λ m. IsBusy cost past t m → ⊥) is.homes is.queue cells p
          pl = is.placed.each p l

          place : IsPlace width (λ m. (IsBusy cost past t m → ⊥) × IsLeft is.queue cells p m)
              (load r.actors (λ a. n a * cost a) pl.home) (pl.home (firing is.queue p).actor) j
          place = (pl.stands j).0 (e ∙ ap Some (sym d))

          own : pl.home (firing is.queue p).actor ≡ Some h
          own = ap (λ (g : Firing). pl.home g.actor) d
              ∙ (pl.home_is f.actor h known).1 (inl ((is.homes_are f.actor h known).1 settled))

          at : (pl.home (firing is.queue p).actor ≡ Some j) ⊎ ((pl.home (firing is.queue p).actor ≡ None)
              × IsLeast width (λ m. (IsBusy cost past t m → ⊥) × IsLeft is.queue cells p m)
              (load r.actors (λ a. n a * cost a) pl.home) j) → h ≡ j
          at (inl its) = same_Some h j (sym own ∙ its)
          at (inr (none, _)) = absurd (none-some h (sym none ∙ own))

  row_exists : (homed : Bool) (past : List Timed) (s t : ℕ) (row : List (Option Firing)) → s ≤ t →
      hu_rule r n cost level width homed past t row → ((a j : ℕ) → IsSettled past a j → j < width) →
      ((cells : List (Option Firing)) → length cells ≡ width → hu_rule r n cost level width homed past s cells → ⊥) → ⊥
  row_exists true past s t row early is inside none =
      homed_row_exists r n cost level width past s t early row is inside none
  row_exists false past s t row early is inside none =
      free_row_exists r n cost level width past s t early row is none

  module _ (homed : Bool) (rows : List Timed) (start : Firing → ℕ) (dear : (a : ℕ) → a < r.actors → 1 ≤ cost a)
      (are : AreTimedRows r n width (hu_rule r n cost level width homed) rows) (cells : AreCells r n (cells_of rows))
      (starts : AreStarts r cost (cells_of rows) start) where
    inside : (i j : ℕ) (f : Firing) → i < length rows → StandsAt rows i j f → j < width
    inside i j f l e = omega (arith, column_in (timed rows i).cells j f e, (are.rows_are i l).wide)

    -- row k is the first that starts no earlier than firing f of row i
    module _ (i j : ℕ) (f : Firing) (here : i < length rows) (e : StandsAt rows i j f)
        (before : (k m : ℕ) (g : Firing) → k < i → StandsAt rows k m g → start g ≡ (timed rows k).start) (k : ℕ)
        (upto : k ≤ i) (reached : start f ≤ (timed rows k).start)
        (below : (m : ℕ) → m < k → (timed rows m).start < start f) where
      at_cell : (m y : ℕ) (g : Firing) → StandsAt rows m y g → cell (cells_of rows) m y ≡ Some g
      at_cell m y g at = cell_at rows m y ∙ at

      at_past : (b m y : ℕ) (g : Firing) → m < b → StandsAt rows m y g → StandsAt (take b rows) m y g
      at_past b m y g l at = subst (λ (x : Timed). cell_of x.cells y ≡ Some g) (sym (timed_take rows b m l)) at

      start_past : (b m : ℕ) → m < b → (timed (take b rows) m).start ≡ (timed rows m).start
      start_past b m l = ap (λ (x : Timed). x.start) (timed_take rows b m l)

      known : f.actor < r.actors
      known = (cells.known i j f (at_cell i j f e)).0

      rises : (m : ℕ) → m < i → (k ≡ m) ⊎ (k ≡ m → ⊥) → k ≤ m → (timed rows k).start ≤ (timed rows m).start
      rises m l (inl same) h = let is = ap (λ m. (timed rows m).start) same in omega arith
      rises m l (inr ne) h =
          let less : k < m = omega arith in
          let later = (are.rows_are m (omega arith)).later k (omega (arith, length-take m rows)) in
          omega (arith, later, start_past m k less)

      -- what comes before the firing stands before row k, and has ended by the firing's start
      ended : (m y : ℕ) (g : Firing) → m < i → StandsAt rows m y g → ComesBefore r (cells_of rows) g f →
          (m < k) × ((timed rows m).start + cost g.actor ≤ start f)
      ended m y g l at comes =
          let end = (starts f (i, j, at_cell i j f e)).above (end_of cost start g) (g, comes, refl) in
          let some = dear g.actor (cells.known m y g (at_cell m y g at)).0 in
          let is = before m y g l at in
          (low end some is (cases_lt m k), omega (arith, end, is))
        where
          low : end_of cost start g ≤ start f → 1 ≤ cost g.actor → start g ≡ (timed rows m).start →
              (m < k) ⊎ (k ≤ m) → m < k
          low end some is (inl less) = less
          low end some is (inr high) = absurd (omega (arith, rises m l (cases_eq k m) high))

      column : (m : ℕ) (g : Firing) → m < i → StandsAt rows m j g →
          (m < k) × ((timed rows m).start + cost g.actor ≤ start f)
      column m g l at = ended m j g l at (inr (m, i, j, l, at_cell m j g at, at_cell i j f e))

      -- so from its start on the firing is ready and its column idle
      ready : (u : ℕ) → start f ≤ u → IsReadyAt r n cost (take k rows) u f
      ready u h = record {
        of_block = cells.known i j f (at_cell i j f e);
        left = left;
        waits = λ g w. waits g w (cells.earlier i j f g (at_cell i j f e) w);
      }
        where
          left : Occurs (take k rows) f → ⊥
          left (m, y, at) =
              let x = at_take rows k m y f at in
              let same = cells.once m y i j f (at_cell m y f x.1) (at_cell i j f e) in
              omega (arith, same.0, x.0)

          waits : (g : Firing) → WaitsFor r f g → (m : ℕ) × (y : ℕ) × (m < i) × (cell (cells_of rows) m y ≡ Some g) →
              HasEnded cost (take k rows) u g
          waits g w (m, y, l, up) =
              let at : StandsAt rows m y g = sym (cell_at rows m y) ∙ up in
              let end = ended m y g l at (inl w) in
              (m, y, at_past k m y g end.0 at, omega (arith, end.1, start_past k m end.0))

      idle : (u : ℕ) → start f ≤ u → IsBusy cost (take k rows) u j → ⊥
      idle u h (m, g, at, late) =
          let x = at_take rows k m j g at in
          let end = column m g (omega (arith, x.0)) x.1 in
          omega (arith, end.1, start_past k m x.0)

      -- no row by the rule after the rows before row k leaves both the firing out and its column empty
      takes : (homed : Bool) (u : ℕ) → start f ≤ u → (row : List (Option Firing)) →
          hu_rule r n cost level width homed (take i rows) (timed rows i).start (timed rows i).cells →
          hu_rule r n cost level width homed (take k rows) u row → ((m : ℕ) → cell_of row m ≡ Some f → ⊥) →
          ((g : Firing) → cell_of row j ≡ Some g → ⊥) →
          ((h : ℕ) (g : Firing) → cell_of row h ≡ Some g → g.actor ≡ f.actor → IsSettled (take i rows) f.actor h) → ⊥
      takes false u h row own is absent bare also = free_row_takes r n cost level width (take k rows) u row f j
          (ready u h) (inside i j f here e) (idle u h) absent bare is
      takes true u h row own is absent bare also = homed_row_takes r n cost level width (take k rows) u row f j
          (ready u h) (inside i j f here e) (idle u h) absent bare (λ c s. home c (settled c s))
          (λ c g at its. home c (also c g at its)) is
        where
          home : (c : ℕ) → IsSettled (take i rows) f.actor c → c ≡ j
          home = home_is (take i rows) (timed rows i).start (timed rows i).cells j f known e own

          settled : (c : ℕ) → IsSettled (take k rows) f.actor c → IsSettled (take i rows) f.actor c
          settled c (m, g, at, its) =
              let x = at_take rows k m c g at in
              (m, g, at_past i m c g (omega (arith, x.0)) x.1, its)

      -- it does not start when an earlier row does
      not_then : k < i → ⊥
      not_then less = takes homed (timed rows k).start reached (timed rows k).cells (are.rows_are i here).by_rule
          (are.rows_are k (omega arith)).by_rule absent bare (λ h g at its. (k, g, at_past i k h g less at, its))
        where
          absent : (m : ℕ) → StandsAt rows k m f → ⊥
          absent m at =
              let same = cells.once k m i j f (at_cell k m f at) (at_cell i j f e) in
              omega (arith, same.0)

          bare : (g : Firing) → StandsAt rows k j g → ⊥
          bare g at = let end = column k g less at in omega (arith, end.0)

      -- nor between two rows
      not_between : start f < (timed rows k).start → ⊥
      not_between less = row_exists homed (take k rows) (start f) (timed rows k).start (timed rows k).cells
          (omega arith) next.by_rule settled none
        where
          next : IsNextRow width (hu_rule r n cost level width homed) (take k rows) (timed rows k)
          next = are.rows_are k (omega arith)

          settled : (a y : ℕ) → IsSettled (take k rows) a y → y < width
          settled a y (m, g, at, its) = let x = at_take rows k m y g at in inside m y g (omega (arith, x.0)) x.1

          later : IsLater (take k rows) (start f)
          later m l =
              let low : m < k = omega (arith, length-take k rows) in
              omega (arith, below m low, start_past k m low)

          none : (row : List (Option Firing)) → length row ≡ width →
              hu_rule r n cost level width homed (take k rows) (start f) row → ⊥
          none row wide is = takes homed (start f) (omega arith) row (are.rows_are i here).by_rule is
              (λ m at. none_in row m f empty at) (λ g at. none_in row j g empty at)
              (λ h g at its. absurd (none_in row h g empty at))
            where
              empty : firings row ≡ []
              empty = next.least (start f) later less row wide is

    no_earlier_at : (i j : ℕ) (f : Firing) → StandsAt rows i j f →
        ((k m : ℕ) (g : Firing) → k < i → StandsAt rows k m g → start g ≡ (timed rows k).start) →
        (timed rows i).start ≤ start f
    no_earlier_at i j f e before = go (cases_lt (start f) (timed rows i).start)
      where
        here : i < length rows
        here = within r n cost level width homed rows start are cells starts i j f e

        at : start f < (timed rows i).start → (k : ℕ) × (k ≤ i) × (start f ≤ (timed rows k).start)
            × ((m : ℕ) → m < k → (timed rows m).start < start f) → ⊥
        at early (k, upto, reached, below) = which (cases_lt (start f) (timed rows k).start)
          where
            which : (start f < (timed rows k).start) ⊎ ((timed rows k).start ≤ start f) → ⊥
            which (inl less) = not_between i j f here e before k upto reached below less
            which (inr same) = not_then i j f here e before k upto reached below (less (cases_lt k i))
              where
                less : (k < i) ⊎ (i ≤ k) → k < i
                less (inl l) = l
                less (inr h) =
                    let last : k ≡ i = omega arith in
                    let is = ap (λ m. (timed rows m).start) last in absurd (omega arith)

        go : (start f < (timed rows i).start) ⊎ ((timed rows i).start ≤ start f) → (timed rows i).start ≤ start f
        go (inr high) = high
        go (inl early) = absurd (at early (first_at (λ m. (timed rows m).start) (start f) i (omega arith)))

    on_time_to : (b i j : ℕ) (f : Firing) → i < b → StandsAt rows i j f → start f ≡ (timed rows i).start
    on_time_to zero i j f l e = absurd (omega arith)
    on_time_to (suc b) i j f l e =
        let low = no_later r n cost level width homed rows start are cells starts i j f e in
        let high = no_earlier_at i j f e (λ k m g h at. on_time_to b k m g (omega arith) at) in
        omega (arith, low, high)

    pub on_time : (i j : ℕ) (f : Firing) → StandsAt rows i j f → start f ≡ (timed rows i).start
    on_time i j f e = on_time_to (i + 1) i j f (omega arith) e

pub rows_are_on_time : RowsAreOnTime
rows_are_on_time r n cost level width homed rows start dear are v starts =
    on_time r n cost level width homed rows start dear are (are_cells r n (cells_of rows) v) starts
