-- The row that a simulation makes, and sums of what has ended.
use Rattle.std.proofs.Common.{◌≡◌, ℕ, zero, suc, ◌+◌, ◌*◌, ◌≤◌, ◌<◌, ◌⊎◌, List, [], ◌∷◌, ◌++◌, length, get_or, sum, sym}
use Rattle.std.proofs.Common.{replicate, subst, ap, ◌∙◌, inl, inr, arith, refl, Option, Some, None, Bool, true, false}
use Rattle.std.proofs.lemmas.Option.{none-some}
use Rattle.std.proofs.lemmas.Bool.{cases_lt}
use Rattle.std.proofs.lemmas.List.{length-replicate, get_or-replicate, get_or_past}
use Rattle.std.proofs.lemmas.Bool.{false≢true}
use Rattle.std.proofs.lemmas.List.Sums.{sum_by-cons}
use Rattle.sdf_limits.specs.declared.TheConstants.{MAX_COST}
use Rattle.sdf_graph.specs.Rates.{Rates, GraphValue, rates, IsSound}
use Rattle.sdf_graph.proofs.Theorems.{lists_sum_within}
use Rattle.sdf_prec.specs.declared.firing.Firing.{Firing}
use Rattle.sdf_prec.specs.Tables.{firings}
use Rattle.sdf_prec.specs.Trying.{IsQueue}
use Rattle.sdf_prec.specs.TimedRows.{Timed, IsSettled}
use Rattle.sdf_prec.specs.Floor.{IsNextReady, IsFilling, AreStarted, IsDue, IsDone}
use Rattle.sdf_prec.specs.Placing.{IsPlacing, AreWaiting}
use Rattle.sdf_prec.specs.declared.hu.simulation.HuInputs.{HuInputs}
use Rattle.sdf_prec.specs.Numbers.{number}
use Rattle.sdf_prec.specs.Simulations.{IsRowAt, SimulationValue, IsSimulation, idle, IsDueTo, IsDoneBy, IsRowFor}
use Rattle.sdf_prec.proofs.Starts.{starting_none}
use Rattle.sdf_prec.proofs.Rules.{free_row, filled_each, filled_apart, free_stuck, homed_row, placed_each, placed_apart}
use Rattle.sdf_prec.proofs.Rules.{homes_then, homed_stuck}
use Rattle.sdf_prec.proofs.Turns.{done_row, done_none, settled_more}

-- where the list of a row's firings is empty nothing stands in it
pub nothing_stands : (cells : List (Option Firing)) → firings cells ≡ [] → (j : ℕ) (f : Firing) →
    get_or cells j None ≡ Some f → ⊥
nothing_stands [] e j f is = none-some f is
nothing_stands (None ∷ cells) e zero f is = none-some f is
nothing_stands (None ∷ cells) e (suc j) f is = nothing_stands cells e j f is
nothing_stands (Some g ∷ cells) e j f is = let l : suc (length (firings cells)) ≡ 0 = ap length e in omega arith

module _ {r : Rates} {n cost : ℕ → ℕ} {level : Firing → ℕ} {width : ℕ} {past : List Timed} {now : ℕ}
    {ended started whose : ℕ → ℕ} (u : List ℕ) (s : IsSound r) (dear : (a : ℕ) → a < r.actors → 1 ≤ cost a)
    {queue : List Firing} (q : IsQueue level (IsNextReady r n ended started) queue) {cells : List (Option Firing)} where
  pub row_free : {homes : ℕ → Option ℕ} → IsDue r n cost level width false past now ended started whose
      (λ j. get_or u j 0) homes → {next : ℕ} → IsFilling u now width queue next cells →
      IsRowAt r n cost level width false past now ended started whose (λ j. get_or u j 0) homes cells
  row_free d fill = record {
    floor = d.floor;
    wide = fill.wide;
    by_rule = free_row level d.floor s q fill (λ j _. get_or u j 0);
    each = filled_each level d.floor s q fill (λ j _. get_or u j 0);
    apart = filled_apart level d.floor s q fill (λ j _. get_or u j 0);
    homes_then = λ never. absurd (false≢true never);
    stuck = λ started' whose' until' b f h. inr (free_stuck level d.floor s q u dear
        (filled_each level d.floor s q fill (λ j _. get_or u j 0)) b (λ j _. get_or u j 0) fill f h);
  }

  pub row_homed : (homes : List (Option ℕ)) {homes' : List (Option ℕ)} →
      IsDue r n cost level width true past now ended started whose (λ j. get_or u j 0) (λ a. get_or homes a None) →
      {weight : ℕ → ℕ} → weight ≡ (λ a. n a * cost a) → length u ≡ width →
      IsPlacing r.actors width weight (λ j. get_or u j 0 ≤ now) (λ a. get_or homes a None) queue (length queue) cells
      homes' → AreWaiting u now queue (length queue) cells homes' →
      IsRowAt r n cost level width true past now ended started whose (λ j. get_or u j 0)
      (λ a. get_or homes' a None) cells
  row_homed homes {homes' = homes'} d weight_is wide placed waiting = record {
    floor = d.floor;
    wide = placed.wide;
    by_rule = homed_row level d.floor s q u homes weight_is (λ j _. get_or u j 0) (d.homes_are refl) placed;
    each = placed_each level d.floor s q u homes weight_is (λ j _. get_or u j 0) (d.homes_are refl) placed;
    apart = placed_apart level d.floor s q u homes weight_is (λ j _. get_or u j 0) (d.homes_are refl) placed;
    homes_then = λ _. homes_then level d.floor s q u homes weight_is (λ j _. get_or u j 0) (d.homes_are refl) placed;
    stuck = λ started' whose' until' b. homed_stuck level d.floor s q u dear
        (placed_each level d.floor s q u homes weight_is (λ j _. get_or u j 0) (d.homes_are refl) placed) b
        (λ j _. get_or u j 0) homes' wide waiting;
  }

module _ {r : Rates} {n cost : ℕ → ℕ} {level : Firing → ℕ} {width : ℕ} {homed : Bool} {past : List Timed} {now : ℕ}
    {ended started whose until : ℕ → ℕ} {homes homes' : ℕ → Option ℕ} {cells : List (Option Firing)} (s : IsSound r)
    (d : IsDue r n cost level width homed past now ended started whose until homes)
    (row : IsRowAt r n cost level width homed past now ended started whose until homes' cells) where
  -- a row with a firing is added
  pub row_added : (dear : (a : ℕ) → a < r.actors → 1 ≤ cost a) → (firings cells ≡ [] → ⊥) →
      {started' whose' until' : ℕ → ℕ} → AreStarted cost now (length cells) cells started whose until
      started' whose' until' →
      IsDone r n cost level width homed (past ++ record { start = now; cells = cells } ∷ []) now ended started'
      whose' until' homes'
  row_added dear some {started' = started'} {whose' = whose'} {until' = until'} b =
      done_row s d homes' cells row.by_rule row.wide some dear row.each row.apart b
      (λ h. row.homes_then h (past ++ record { start = now; cells = cells } ∷ [])
      (settled_more past (record { start = now; cells = cells })))
      (row.stuck started' whose' until' b)

  -- an empty one is not
  pub row_left : firings cells ≡ [] → IsDone r n cost level width homed past now ended started whose until homes'
  row_left none =
      done_none s d homes' cells row.by_rule none
      (λ h. row.homes_then h past (λ a j. (λ x. inl x, back a j)))
      (row.stuck started whose until (starting_none cost now (length cells) cells started whose until
      (λ j f l e. nothing_stands cells none j f e)))
    where
      back : (a j : ℕ) → IsSettled past a j ⊎ ((f : Firing) × (get_or cells j None ≡ Some f) × (f.actor ≡ a)) →
          IsSettled past a j
      back a j (inl x) = x
      back a j (inr (f, e, is)) = absurd (nothing_stands cells none j f e)

-- nobody is at work yet
pub idle_is : (g : GraphValue) (width : ℕ) → IsSound (rates g) → IsSimulation (idle g width)
idle_is g width s = record {
  sound = s;
  fired_all = length-replicate g.actors 0;
  started_all = length-replicate g.actors 0;
  whose_all = refl;
  homes_all = length-replicate g.actors None;
  marks_all = length-replicate g.actors true;
  inside = λ a j is. absurd (none-some j (sym (same_all g.actors None a (cases_lt a g.actors)) ∙ is));
  early = omega arith;
  soon = λ j. subst (λ x. x ≤ 0 + MAX_COST) (sym (same_all width 0 j (cases_lt j width))) (omega arith);
}
  where
    same_all : {A : Type 0} (n : ℕ) (x : A) (a : ℕ) → (a < n) ⊎ (n ≤ a) → get_or (replicate n x) a x ≡ x
    same_all n x a (inl l) = get_or-replicate n a x x l
    same_all n x a (inr h) = get_or_past (replicate n x) a x (omega (arith, length-replicate n x))

-- a simulation is done with its time where a row was due whose firings have started
pub row_started : (inputs : HuInputs) (old placed new : SimulationValue) (past : List Timed)
    (cells : List (Option Firing)) →
    IsSound (rates old.counts.graph) → ((a : ℕ) → a < old.counts.graph.actors → 1 ≤ get_or inputs.costs.now a 0) →
    IsDueTo inputs old past → placed ≡ record old { homes = placed.homes } → IsRowFor inputs placed past cells →
    (firings cells ≡ [] → ⊥) →
    new ≡ record placed { started = new.started; whose = new.whose; until = new.until; queue = new.queue } →
    length new.until ≡ length placed.until →
    AreStarted (λ a. get_or inputs.costs.now a 0) placed.time (length cells) cells
    (λ a. get_or placed.started a 0) (λ a. get_or placed.whose a 0) (λ j. get_or placed.until j 0)
    (λ a. get_or new.started a 0) (λ a. get_or new.whose a 0) (λ j. get_or new.until j 0) →
    IsDoneBy inputs new (past ++ record { start = old.time; cells = cells } ∷ [])
row_started inputs old placed new past cells s dear due is row some then columns begun = done
  where
    P : SimulationValue → (width : ℕ) → Type 0
    P k width = IsDone (rates k.counts.graph) (λ a. get_or inputs.firings.now a 0) (λ a. get_or inputs.costs.now a 0)
        (number inputs.levels.now) width inputs.homed (past ++ record { start = old.time; cells = cells } ∷ []) k.time
        (λ a. get_or k.counts.fired a 0) (λ a. get_or new.started a 0) (λ a. get_or new.whose a 0)
        (λ j. get_or new.until j 0) (λ a. get_or k.homes a None)

    added : P (record old { homes = placed.homes }) (length old.until)
    added = row_added s due
        (subst (λ (k : SimulationValue). IsRowFor inputs k past cells) is row) dear some
        (subst (λ (k : SimulationValue). AreStarted (λ a. get_or inputs.costs.now a 0) k.time (length cells) cells
        (λ a. get_or k.started a 0) (λ a. get_or k.whose a 0) (λ j. get_or k.until j 0)
        (λ a. get_or new.started a 0) (λ a. get_or new.whose a 0) (λ j. get_or new.until j 0)) is begun)

    here : P placed (length placed.until)
    here = subst (λ (k : SimulationValue). P k (length k.until)) (sym is) added

    done : P new (length new.until)
    done = subst (λ (k : SimulationValue). P k (length new.until)) (sym then) (subst (P placed) (sym columns) here)

-- or where it was empty
pub row_skipped : (inputs : HuInputs) (old new : SimulationValue) (past : List Timed) (cells : List (Option Firing)) →
    IsSound (rates old.counts.graph) → IsDueTo inputs old past → new ≡ record old { homes = new.homes } →
    IsRowFor inputs new past cells → firings cells ≡ [] → IsDoneBy inputs new past
row_skipped inputs old new past cells s due is row none =
    subst (λ (k : SimulationValue). IsDoneBy inputs k past) (sym is)
    (row_left s due (subst (λ (k : SimulationValue). IsRowFor inputs k past cells) is row) none)

pub sum_less : (xs ys : List ℕ) (b : ℕ) → length xs ≡ length ys →
    ((a : ℕ) → get_or xs a 0 ≤ get_or ys a 0) → get_or xs b 0 < get_or ys b 0 → sum xs < sum ys
sum_less [] [] b e h l = absurd (omega arith)
sum_less [] (y ∷ ys) b e h l = absurd (omega arith)
sum_less (x ∷ xs) [] b e h l = absurd (omega arith)
sum_less (x ∷ xs) (y ∷ ys) zero e h l =
    let rest = lists_sum_within xs ys (omega arith) (λ a. h (suc a)) in
    let one : sum (x ∷ xs) ≡ x + sum xs = sum_by-cons (λ z. z) x xs in
    let other : sum (y ∷ ys) ≡ y + sum ys = sum_by-cons (λ z. z) y ys in
    omega arith
sum_less (x ∷ xs) (y ∷ ys) (suc b) e h l =
    let rest = sum_less xs ys b (omega arith) (λ a. h (suc a)) l in
    let one : sum (x ∷ xs) ≡ x + sum xs = sum_by-cons (λ z. z) x xs in
    let other : sum (y ∷ ys) ≡ y + sum ys = sum_by-cons (λ z. z) y ys in
    omega (arith, h 0)
