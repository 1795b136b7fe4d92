-- Where each firing costs 1, all of the rows before has ended when a row starts.
use Rattle.std.proofs.Common.{◌≡◌, ℕ, zero, suc, ◌+◌, ◌*◌, ◌≤◌, ◌<◌, ◌⊎◌, ◌↔◌, List, length, get_or, take, sym, ap, ◌∙◌}
use Rattle.std.proofs.Common.{subst, inl, inr, arith, refl, add-one, [], true, false, Option, Some, None}
use Rattle.std.specs.Prelude.{slice_get}
use Rattle.std.specs.List.{Contains}
use Rattle.std.specs.List.Sorted.{IsStrictlyIncreasing}
use Rattle.std.proofs.lemmas.List.{get_or-take, length-take, get_or_default, length-map}
use Rattle.std.proofs.lemmas.Bool.{cases_lt}
use Rattle.sdf_graph.specs.Rates.{Rates, sum_to}
use Rattle.sdf_prec.specs.declared.firing.Firing.{Firing}
use Rattle.sdf_prec.specs.Tables.{firing, firings, row, cell}
use Rattle.sdf_prec.specs.Trying.{IsLeft, IsPlace, IsPlaced, ArePlaced, load, weight_at}
use Rattle.sdf_prec.specs.PlainRows.{IsReadyFor, IsFreePlain, IsHomedPlain}
use Rattle.sdf_prec.specs.TimedRows.{Timed, no_row, timed, cells_of, StandsAt, IsBusy, IsReadyAt, IsSettled, Rule}
use Rattle.sdf_prec.specs.TimedRows.{IsNextRow, AreTimed, AreTimedRows, IsFreeRow, IsHomedRow, end_at}
use Rattle.sdf_prec.specs.UnitRows.{UnitFreeRowsArePlain, UnitHomedRowsArePlain}
use Rattle.sdf_prec.proofs.Floors.{row_known}
use Rattle.sdf_prec.proofs.Trial.{placed_idle}
use Rattle.sdf_prec.proofs.Rules.{queue_alike}
use Rattle.sdf_prec.proofs.Ends.{row_of, row_ready, occurs_of, order_of, order_all}

-- a rising list of all columns below a width is the columns
all_columns : (n : ℕ) (xs : List ℕ) → IsStrictlyIncreasing xs → ((x : ℕ) → x < n → Contains xs x) → (b j : ℕ) → j < b →
    j < n → (j < length xs) × (get_or xs j 0 ≡ j)
all_columns n xs rising all zero j l k = absurd (omega arith)
all_columns n xs rising all (suc b) j l k = at (all j k)
    (λ q h. all_columns n xs rising all b q (omega arith) (omega arith))
  where
    -- a number of the list is no less than its place
    above : (q : ℕ) → q < length xs → q ≤ get_or xs q 0
    above zero h = omega arith
    above (suc q) h = let x = above q (omega arith) in let y : get_or xs q 0 < get_or xs (q + 1) 0 =
        rising q (omega arith) in let z : get_or xs q 0 < get_or xs (suc q) 0 = rw add-one at y in omega arith

    at : Contains xs j → ((q : ℕ) → q < j → (q < length xs) × (get_or xs q 0 ≡ q)) →
        (j < length xs) × (get_or xs j 0 ≡ j)
    at (q, h, e) before = go (cases_lt q j)
      where
        is : get_or xs q 0 ≡ j
        is = get_or_default xs q 0 j h ∙ e

        go : (q < j) ⊎ (j ≤ q) → (j < length xs) × (get_or xs j 0 ≡ j)
        go (inl low) = absurd (omega (arith, (before q low).1, is))
        go (inr high) =
            let same : q ≡ j = omega (arith, above q h, is) in
            (omega arith, ap (λ q. get_or xs q 0) (sym same) ∙ is)

sum_same : (f g : ℕ → ℕ) (k : ℕ) → ((a : ℕ) → a < k → f a ≡ g a) → sum_to f k ≡ sum_to g k
sum_same f g zero h = refl
sum_same f g (suc k) h = let rest = sum_same f g k (λ a l. h a (omega arith)) in let one = h k (omega arith) in
    omega arith

module _ (past : List Timed) (i : ℕ) where
  front_at : (m j : ℕ) (f : Firing) → StandsAt (take i past) m j f → (m < i) × StandsAt past m j f
  front_at m j f at =
      let k = row_known (take i past) m j f at in
      let low : m < i = omega (arith, length-take i past) in
      (low, sym (ap (λ (x : Timed). get_or x.cells j None) (get_or-take i past m no_row low)) ∙ at)

  front_of : (m j : ℕ) (f : Firing) → m < i → StandsAt past m j f → StandsAt (take i past) m j f
  front_of m j f low at = ap (λ (x : Timed). get_or x.cells j None) (get_or-take i past m no_row low) ∙ at

module _ {r : Rates} {n cost : ℕ → ℕ} {width : ℕ} {rule : Rule} {rows : List Timed}
    (unit : (a : ℕ) → a < r.actors → cost a ≡ 1) (are : AreTimedRows r n width rule rows)
    (known : (i j : ℕ) (f : Firing) → StandsAt rows i j f → f.actor < r.actors) (i : ℕ) (here : i < length rows) where
  abbrev t : ℕ
  t = (timed rows i).start

  next : IsNextRow width rule (take i rows) (timed rows i)
  next = are.rows_are i here

  -- what stands in an earlier row has ended
  over : (m j : ℕ) (f : Firing) → StandsAt (take i rows) m j f → end_at cost (take i rows) m f ≤ (timed rows i).start
  over m j f at =
      let k = row_known (take i rows) m j f at in
      let front = front_at rows i m j f at in
      let one = unit f.actor (known m j f front.1) in
      let before = next.later m k in
      omega arith

  pub idle : (j : ℕ) → IsBusy cost (take i rows) (timed rows i).start j → ⊥
  idle j (m, f, at, late) = let h = over m j f at in omega arith

  pub ready_plain : (f : Firing) → IsReadyAt r n cost (take i rows) (timed rows i).start f →
      IsReadyFor r n (cells_of rows) i f
  ready_plain f h = record {
    of_block = h.of_block;
    left = λ st. let at = occurs_of rows i f st in h.left (at.0, at.1, front_of rows i at.0 at.1 f at.2 at.3);
    waits = λ g w. let ended = h.waits g w in let front = front_at rows i ended.0 ended.1 g ended.2 in
        order_of rows i ended.0 ended.1 g front.0 front.1;
  }

  pub plain_ready : (f : Firing) → IsReadyFor r n (cells_of rows) i f →
      IsReadyAt r n cost (take i rows) (timed rows i).start f
  plain_ready f h = record {
    of_block = h.of_block;
    left = λ o. let front = front_at rows i o.0 o.1 f o.2 in h.left (order_of rows i o.0 o.1 f front.0 front.1);
    waits = λ g w. let at = occurs_of rows i g (h.waits g w) in let x = front_of rows i at.0 at.1 g at.2 at.3 in
        (at.0, at.1, x, over at.0 at.1 g x);
  }

  pub wide_plain : length (row (cells_of rows) i) ≡ width
  wide_plain = ap length (row_of rows i) ∙ next.wide

  pub some_plain : firings (row (cells_of rows) i) ≡ [] → ⊥
  some_plain e = next.some (ap firings (sym (row_of rows i)) ∙ e)

  pub settled_plain : (a j : ℕ) → IsSettled (take i rows) a j ↔
      ((m : ℕ) × (f : Firing) × (m < i) × (cell (cells_of rows) m j ≡ Some f) × (f.actor ≡ a))
  settled_plain a j = (
    λ h. let front = front_at rows i h.0 j h.1 h.2 in
        (h.0, h.1, front.0, ap (λ (cs : List (Option Firing)). get_or cs j None) (row_of rows h.0) ∙ front.1, h.3),
    λ h. (
      h.0,
      h.1,
      front_of rows i h.0 j h.1 h.2 (sym
          (ap (λ (cs : List (Option Firing)). get_or cs j None) (row_of rows h.0)) ∙ h.3),
      h.4,
    ),
  )

-- in rows by a rule whose firings are ready, each firing is of an actor
module _ (r : Rates) (n cost : ℕ → ℕ) (level : Firing → ℕ) (width : ℕ) (rows : List Timed) where
  free_known : AreTimed width (IsFreeRow r n cost level width) rows → (i j : ℕ) (f : Firing) → StandsAt rows i j f →
      f.actor < r.actors
  free_known are i j f at = (row_ready r n cost level width false (take i rows) (timed rows i).start
      (timed rows i).cells (are i (row_known rows i j f at)).by_rule j f at).of_block.0

  homed_known : AreTimed width (IsHomedRow r n cost level width) rows → (i j : ℕ) (f : Firing) → StandsAt rows i j f →
      f.actor < r.actors
  homed_known are i j f at = (row_ready r n cost level width true (take i rows) (timed rows i).start
      (timed rows i).cells (are i (row_known rows i j f at)).by_rule j f at).of_block.0

  rows_known : (i : ℕ) → i < length (cells_of rows) → i < length rows
  rows_known i l = let e : length (cells_of rows) ≡ length rows = length-map rows (λ (x : Timed). x.cells) in
      omega arith

pub free_plain : UnitFreeRowsArePlain
free_plain r n cost level width rows unit are = record {
  wide = λ i l. wide_plain unit are known i (within i l);
  some = λ i l. some_plain unit are known i (within i l);
  each = λ i l. each i (within i l);
  all = λ f of. order_all rows f (are.all f of);
}
  where
    known : (i j : ℕ) (f : Firing) → StandsAt rows i j f → f.actor < r.actors
    known = free_known r n cost level width rows are.rows_are

    within : (i : ℕ) → i < length (cells_of rows) → i < length rows
    within = rows_known r n cost level width rows

    each : (i : ℕ) → i < length rows → IsFreePlain r n level width (cells_of rows) i
    each i l = (
      rule.queue,
      queue_alike (ready_plain unit are known i l)
          (plain_ready unit are known i l) rule.ready,
      stands,
    )
      where
        rule : IsFreeRow r n cost level width (take i rows) (timed rows i).start (timed rows i).cells
        rule = (are.rows_are i l).by_rule

        stands : (j : ℕ) → j < width → cell (cells_of rows) i j ≡ slice_get rule.queue j
        stands j k =
            let c = all_columns width rule.columns rule.idle.rising
            (λ x h. rule.idle.all x h (idle unit are known i l x)) (suc j) j (omega arith) k in
            ap (λ (cs : List (Option Firing)). get_or cs j None) (row_of rows i)
            ∙ (ap (λ q. get_or (timed rows i).cells q None) (sym c.1) ∙ rule.filled.filled j c.0)

pub homed_plain : UnitHomedRowsArePlain
homed_plain r n cost level width rows unit are = record {
  wide = λ i l. wide_plain unit are known i (within i l);
  some = λ i l. some_plain unit are known i (within i l);
  each = λ i l. each i (within i l);
  all = λ f of. order_all rows f (are.all f of);
}
  where
    known : (i j : ℕ) (f : Firing) → StandsAt rows i j f → f.actor < r.actors
    known = homed_known r n cost level width rows are.rows_are

    within : (i : ℕ) → i < length (cells_of rows) → i < length rows
    within = rows_known r n cost level width rows

    one : (a : ℕ) → a < r.actors → n a * cost a ≡ n a
    one a l = ap (λ c. n a * c) (unit a l) ∙ (let e : n a * 1 ≡ n a = omega arith in e)

    loads : (home : ℕ → Option ℕ) → load r.actors (λ a. n a * cost a) home ≡ load r.actors n home
    loads home = λ k j. sum_same (λ a. weight_at (n a * cost a) (home a) j) (λ a. weight_at (n a) (home a) j) r.actors
        (λ a l. ap (λ x. weight_at x (home a) j) (one a l)) k

    each : (i : ℕ) → i < length rows → IsHomedPlain r n level width (cells_of rows) i
    each i l = (
      rule.queue,
      rule.homes,
      queue_alike (ready_plain unit are known i l)
          (plain_ready unit are known i l) rule.ready,
      λ a j k. (
        λ e. (settled a j).0 ((rule.homes_are a j k).0 e),
        λ h. (rule.homes_are a j k).1 ((settled a j).1 h),
      ),
      subst (ArePlaced r.actors width n (λ _. Unit {0}) rule.homes rule.queue) (sym (row_of rows i))
          (record { each = λ p k. placed p (rule.placed.each p k); only = rule.placed.only }),
    )
      where
        rule : IsHomedRow r n cost level width (take i rows) (timed rows i).start (timed rows i).cells
        rule = (are.rows_are i l).by_rule

        settled : (a j : ℕ) → IsSettled (take i rows) a j ↔
            ((m : ℕ) × (f : Firing) × (m < i) × (cell (cells_of rows) m j ≡ Some f) × (f.actor ≡ a))
        settled = settled_plain unit are known i l

        placed : (p : ℕ) → IsPlaced r.actors width (λ a. n a * cost a)
            (λ j. IsBusy cost (take i rows) (timed rows i).start j → ⊥) rule.homes rule.queue (timed rows i).cells p →
            IsPlaced r.actors width n (λ _. Unit {0}) rule.homes rule.queue (timed rows i).cells p
        placed p pl =
            let free = placed_idle r.actors width (λ a. n a * cost a)
            (λ j. IsBusy cost (take i rows) (timed rows i).start j → ⊥) (λ _. Unit {0}) rule.homes rule.queue
            (timed rows i).cells p
            (λ j h. tt) (λ j h. idle unit are known i l j) pl in
            record {
              home = free.home;
              home_is = free.home_is;
              stands = λ j. subst (λ (weigh : ℕ → ℕ). (get_or (timed rows i).cells j None ≡
                  Some (firing rule.queue p)) ↔ IsPlace width
                  (λ m. Unit {0} × IsLeft rule.queue (timed rows i).cells p m) weigh
                  (free.home (firing rule.queue p).actor) j)
                  (loads free.home) (free.stands j);
            }
