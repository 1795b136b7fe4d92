-- From a row that is due to a time that is done, and on to the next time.
use Rattle.std.proofs.Common.{◌≡◌, ℕ, ◌+◌, ◌≤◌, ◌<◌, ◌⊎◌, ◌↔◌, List, [], ◌∷◌, ◌++◌, length, get_or, take, sym, ap, ◌∙◌}
use Rattle.std.proofs.Common.{subst, inl, inr, arith, refl, Option, Some, None, Bool, true, false}
use Rattle.std.specs.Prelude.{IsTrue}
use Rattle.std.proofs.lemmas.List.{take_at, take-append-le, length_push}
use Rattle.std.proofs.lemmas.Bool.{cases_lt, cases_eq, false≢true}
use Rattle.sdf_graph.specs.Rates.{Rates, IsSound}
use Rattle.sdf_graph.specs.Sequences.{IsEnabled}
use Rattle.sdf_sched.proofs.Theorems.{enabled_stays}
use Rattle.sdf_prec.specs.declared.firing.Firing.{Firing}
use Rattle.sdf_prec.specs.Tables.{firings}
use Rattle.sdf_prec.specs.TimedRows.{Timed, timed, StandsAt, IsSettled, IsLater, Rule, IsNextRow, AreTimed}
use Rattle.sdf_prec.specs.TimedRows.{hu_rule}
use Rattle.sdf_prec.specs.Floor.{IsNextReady, IsFloor, AreStarted, IsStuck, IsDue, IsDone}
use Rattle.sdf_prec.proofs.Floors.{IsNextTime, row_known, work_at, floor_before, floor_later, through_then}
use Rattle.sdf_prec.proofs.Pushes.{row_old, row_new, at_old, at_new, at_cases, floor_more}
use Rattle.sdf_prec.proofs.Rules.{free_empty, homed_empty}

-- one row more is by the rule
pub timed_more : (width : ℕ) (rule : Rule) (past : List Timed) (x : Timed) → AreTimed width rule past →
    IsNextRow width rule past x → AreTimed width rule (past ++ x ∷ [])
timed_more width rule past x rows next i l = go (cases_lt i (length past))
  where
    go : (i < length past) ⊎ (length past ≤ i) → IsNextRow width rule (take i (past ++ x ∷ []))
        (timed (past ++ x ∷ []) i)
    go (inl h) = subst (λ p. IsNextRow width rule p (timed (past ++ x ∷ []) i))
        (sym (take-append-le i past (x ∷ []) (omega arith)))
        (subst (IsNextRow width rule (take i past)) (sym (row_old past x i h)) (rows i h))
    go (inr h) =
        let here : length past ≡ i = omega (arith, length_push past x) in
        subst (λ p. IsNextRow width rule p (timed (past ++ x ∷ []) i)) (sym (take_at past (x ∷ []) i here))
        (subst (λ k. IsNextRow width rule past (timed (past ++ x ∷ []) k)) here
        (subst (IsNextRow width rule past) (sym (row_new past x)) next))

-- the homes with one row more
pub settled_more : (past : List Timed) (x : Timed) (a j : ℕ) →
    IsSettled (past ++ x ∷ []) a j ↔ (IsSettled past a j
    ⊎ ((f : Firing) × (get_or x.cells j None ≡ Some f) × (f.actor ≡ a)))
settled_more past x a j = (
  λ h. to h.0 h.1 h.3 (at_cases past x h.0 j h.1 h.2),
  back,
)
  where
    to : (i : ℕ) (f : Firing) → f.actor ≡ a → ((i < length past) × StandsAt past i j f)
        ⊎ ((i ≡ length past) × (get_or x.cells j None ≡ Some f)) →
        IsSettled past a j ⊎ ((f : Firing) × (get_or x.cells j None ≡ Some f) × (f.actor ≡ a))
    to i f is (inl (_, at)) = inl (i, f, at, is)
    to i f is (inr (_, e)) = inr (f, e, is)

    back : IsSettled past a j ⊎ ((f : Firing) × (get_or x.cells j None ≡ Some f) × (f.actor ≡ a)) →
        IsSettled (past ++ x ∷ []) a j
    back (inl (i, f, at, is)) = (i, f, at_old past x i j f at, is)
    back (inr (f, e, is)) = (length past, f, at_new past x j f e, is)

module _ {r : Rates} {n cost : ℕ → ℕ} {width : ℕ} (s : IsSound r) where
  -- where no ready firing can start, the rule's row is empty
  pub stuck_empty : (level : Firing → ℕ) (homed : Bool) (past : List Timed) (t : ℕ) (ended started whose until : ℕ → ℕ)
      (homes : ℕ → Option ℕ) → IsFloor r n cost width past t ended started whose until →
      (IsTrue homed → (a j : ℕ) → a < r.actors → (homes a ≡ Some j) ↔ IsSettled past a j) →
      IsStuck r n ended started until homes width t homed →
      (cells : List (Option Firing)) → hu_rule r n cost level width homed past t cells → firings cells ≡ []
  stuck_empty level true past t ended started whose until homes w homes_are stuck cells row =
      homed_empty level w s homes (homes_are refl) stuck cells row
  stuck_empty level false past t ended started whose until homes w homes_are stuck cells row =
      free_empty level w s (λ f h. go f (stuck f h)) cells row
    where
      go : (f : Firing) → ((k : ℕ) × IsTrue false × (homes f.actor ≡ Some k) × (t < until k))
          ⊎ ((j : ℕ) → j < width → t < until j) → (j : ℕ) → j < width → t < until j
      go f (inl x) = absurd (false≢true x.1)
      go f (inr all) = all

  module _ {level : Firing → ℕ} {homed : Bool} {past : List Timed} {now : ℕ} {ended started whose until : ℕ → ℕ}
      {homes : ℕ → Option ℕ} (d : IsDue r n cost level width homed past now ended started whose until homes)
      (homes' : ℕ → Option ℕ) (cells : List (Option Firing))
      (by_rule : hu_rule r n cost level width homed past now cells) where
    -- a row with a firing
    pub done_row : {started' whose' until' : ℕ → ℕ} → length cells ≡ width → (firings cells ≡ [] → ⊥) →
        ((a : ℕ) → a < r.actors → 1 ≤ cost a) →
        ((j : ℕ) (f : Firing) → get_or cells j None ≡ Some f →
        IsNextReady r n ended started f × (j < width) × (until j ≤ now)) →
        ((j m : ℕ) (f g : Firing) → get_or cells j None ≡ Some f → get_or cells m None ≡ Some g →
        f.actor ≡ g.actor → j ≡ m) →
        AreStarted cost now (length cells) cells started whose until started' whose' until' →
        (IsTrue homed → (a j : ℕ) → a < r.actors → (homes' a ≡ Some j) ↔
        IsSettled (past ++ record { start = now; cells = cells } ∷ []) a j) →
        IsStuck r n ended started' until' homes' width now homed →
        IsDone r n cost level width homed (past ++ record { start = now; cells = cells } ∷ []) now ended started'
        whose' until' homes'
    done_row wide some dear each apart begun homes_are stuck = record {
      floor = floor_more d.floor dear each apart begun;
      rows = timed_more width (hu_rule r n cost level width homed) past (record { start = now; cells = cells })
          d.rows (record {
            wide = wide;
            some = some;
            by_rule = by_rule;
            begins = d.begins;
            later = d.later;
            least = d.gap;
          });
      starts = λ i l. starts i (cases_lt i (length past)) l;
      gap = λ t later low. absurd (last t later low);
      homes_are = homes_are;
      stuck = stuck;
    }
      where
        starts : (i : ℕ) → (i < length past) ⊎ (length past ≤ i) →
            i < length (past ++ record { start = now; cells = cells } ∷ []) →
            (timed (past ++ record { start = now; cells = cells } ∷ []) i).start ≤ now
        starts i (inl h) l = let e = ap (λ (y : Timed). y.start)
            (row_old past (record { start = now; cells = cells }) i h) in omega (arith, d.later i h)
        starts i (inr h) l =
            let here : i ≡ length past = omega (arith, length_push past (record { start = now; cells = cells })) in
            let e = ap (λ (y : Timed). y.start) (ap (timed (past ++ record { start = now; cells = cells } ∷ [])) here
            ∙ row_new past (record { start = now; cells = cells })) in
            omega arith

        last : (t : ℕ) → IsLater (past ++ record { start = now; cells = cells } ∷ []) t → t ≤ now → ⊥
        last t later low =
            let h = later (length past) (omega (arith, length_push past (record { start = now; cells = cells }))) in
            let e = ap (λ (y : Timed). y.start) (row_new past (record { start = now; cells = cells })) in
            omega arith

    -- an empty row
    pub done_none : firings cells ≡ [] → (IsTrue homed → (a j : ℕ) → a < r.actors →
        (homes' a ≡ Some j) ↔ IsSettled past a j) → IsStuck r n ended started until homes' width now homed →
        IsDone r n cost level width homed past now ended started whose until homes'
    done_none none homes_are stuck = record {
      floor = d.floor;
      rows = d.rows;
      starts = λ i l. let h = d.later i l in omega arith;
      gap = λ t later low cells' wide row. gap t later (cases_eq t now) low cells' wide row;
      homes_are = homes_are;
      stuck = stuck;
    }
      where
        gap : (t : ℕ) → IsLater past t → (t ≡ now) ⊎ (t ≡ now → ⊥) → t ≤ now → (cells' : List (Option Firing)) →
            length cells' ≡ width → hu_rule r n cost level width homed past t cells' → firings cells' ≡ []
        gap t later (inr ne) low cells' wide row = d.gap t later (omega arith) cells' wide row
        gap t later (inl e) low cells' wide row = stuck_empty level homed past now ended started whose until homes'
            d.floor homes_are stuck cells' (subst (λ t. hu_rule r n cost level width homed past t cells') e row)

  -- on to the next time at which a column is through
  module _ {level : Firing → ℕ} {homed : Bool} {past : List Timed} {now : ℕ} {ended started whose until : ℕ → ℕ}
      {homes : ℕ → Option ℕ}
      (d : IsDone r n cost level width homed past now ended started whose until homes)
      {next : ℕ} {ended' : ℕ → ℕ} (turn : IsNextTime width now next ended ended' whose until)
      (some : (j : ℕ) × (j < width) × (until j ≡ next)) where
    open turn use {least, same, rises}

    -- a column that is busy stays so
    busy_until : (j : ℕ) → now < until j → next ≤ until j
    busy_until j h =
        let x = work_at d.floor j h in
        least j (d.floor.known x.0 j x.1 x.2).1 h

    -- between the two times nothing ends
    floor_between : (t : ℕ) → now ≤ t → t < next → IsFloor r n cost width past t ended started whose until
    floor_between t low high = floor_before d.floor t low
        (λ j l h. omega (arith, busy_until j h))

    stuck_between : (t : ℕ) → t < next → IsStuck r n ended started until homes width t homed
    stuck_between t high f h = go (d.stuck f h)
      where
        go : ((k : ℕ) × IsTrue homed × (homes f.actor ≡ Some k) × (now < until k))
            ⊎ ((j : ℕ) → j < width → now < until j) →
            ((k : ℕ) × IsTrue homed × (homes f.actor ≡ Some k) × (t < until k)) ⊎ ((j : ℕ) → j < width → t < until j)
        go (inl (k, is, home, busy)) = inl (k, is, home, (let m = busy_until k busy in omega arith))
        go (inr all) = inr (λ j l. let m = busy_until j (all j l) in omega arith)

    -- an actor that is still at work was so before
    on_then : (a : ℕ) → a < r.actors → ended' a < started a → IsEnabled r ended' a
    on_then a l h = go (through_then d.floor turn a l)
      where
        go : (ended' a ≡ started a) ⊎ ((ended' a ≡ ended a) × (ended a + 1 ≡ started a)) → IsEnabled r ended' a
        go (inl e) = absurd (omega arith)
        go (inr x) = enabled_stays r s ended ended' a (sym x.0) (λ b _. rises b) (d.floor.on a l (omega (arith, x.1)))

    pub due_next : IsDue r n cost level width homed past next ended' started whose until homes
    due_next = record {
      floor = floor_later d.floor turn on_then;
      rows = d.rows;
      later = λ i l. omega (arith, d.starts i l, turn.later);
      gap = λ t later high cells wide row. gap t later high (cases_lt now t) cells wide row;
      begins = λ e. absurd (begins e);
      homes_are = d.homes_are;
    }
      where
        gap : (t : ℕ) → IsLater past t → t < next → (now < t) ⊎ (t ≤ now) → (cells : List (Option Firing)) →
            length cells ≡ width → hu_rule r n cost level width homed past t cells → firings cells ≡ []
        gap t later high (inr low) cells wide row = d.gap t later low cells wide row
        gap t later high (inl low) cells wide row = stuck_empty level homed past t ended started whose until homes
            (floor_between t (omega arith) high) d.homes_are (stuck_between t high) cells row

        -- the firing that ends then stands in some row
        begins : past ≡ [] → ⊥
        begins e =
            let x = work_at d.floor some.0 (omega (arith, some.2, turn.later)) in
            let k = row_known past x.0 some.0 x.1 x.2 in
            let z = ap length e in
            omega arith
