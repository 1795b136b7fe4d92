-- The next time, and what has ended by then.
use Rattle.std.proofs.Common.{◌≡◌, ℕ, zero, suc, ◌+◌, ◌*◌, ◌^◌, ◌≤◌, ◌<◌, ◌⊎◌, List, [], ◌∷◌, length, get_or, sum}
use Rattle.std.proofs.Common.{sym, ◌∙◌, inl, inr, arith, Option, Some, None}
use Rattle.std.proofs.lemmas.List.{get_or_past}
use Rattle.std.proofs.lemmas.Option.{none-some}
use Rattle.std.proofs.lemmas.Bool.{cases_lt}
use Rattle.std.proofs.lemmas.List.Sums.{sum_by-cons}
use Rattle.sdf_limits.specs.declared.TheConstants.{MAX_BLOCK, MAX_COST}
use Rattle.sdf_graph.specs.Rates.{Rates}
use Rattle.sdf_graph.proofs.Theorems.{lists_sum_within}
use Rattle.sdf_prec.specs.declared.firing.Firing.{Firing}
use Rattle.sdf_prec.specs.TimedRows.{Timed}
use Rattle.sdf_prec.specs.Floor.{AreEnded, AreStarted, IsNextEnd, IsFloor}
use Rattle.sdf_prec.proofs.Floors.{IsNextTime, behind, column_known}
use Rattle.sdf_prec.proofs.SimulationLaws.{sum_less}

pub within_sum : (xs : List ℕ) (a : ℕ) → get_or xs a 0 ≤ sum xs
within_sum [] a = omega arith
within_sum (x ∷ xs) zero = let one : sum (x ∷ xs) ≡ x + sum xs = sum_by-cons (λ z. z) x xs in omega arith
within_sum (x ∷ xs) (suc a) = let one : sum (x ∷ xs) ≡ x + sum xs = sum_by-cons (λ z. z) x xs in let rest =
    within_sum xs a in omega arith

module _ {r : Rates} {cost : ℕ → ℕ} {width : ℕ} {past : List Timed} {now : ℕ} {started whose until : ℕ → ℕ}
    (n fired : List ℕ) (floor : IsFloor r (λ a. get_or n a 0) cost width past now (λ a. get_or fired a 0)
    started whose until) (fired_all : length fired ≡ r.actors) (n_all : length n ≡ r.actors) where
  -- no more have ended than there are
  pub few_ended : sum fired ≤ sum n
  few_ended = lists_sum_within fired n (fired_all ∙ sym n_all) (λ a. at a (cases_lt a r.actors))
    where
      at : (a : ℕ) → (a < r.actors) ⊎ (r.actors ≤ a) → get_or fired a 0 ≤ get_or n a 0
      at a (inl l) = omega (arith, behind floor a l, floor.within a l)
      at a (inr h) = omega (arith, get_or_past fired a 0 (omega arith))

  -- so an actor can end one more
  pub room_left : sum n ≤ MAX_BLOCK → (a : ℕ) → get_or fired a 0 + 1 < 2 ^ 32
  room_left few a = omega (arith, few_ended, within_sum fired a, few)

-- the ends of a row that starts now
pub soon_then : {cost : ℕ → ℕ} {now : ℕ} {cells : List (Option Firing)}
    {started whose until started' whose' until' : ℕ → ℕ} →
    AreStarted cost now (length cells) cells started whose until started' whose' until' →
    ((j : ℕ) (f : Firing) → get_or cells j None ≡ Some f → cost f.actor ≤ MAX_COST) →
    ((j : ℕ) → until j ≤ now + MAX_COST) → (j : ℕ) → until' j ≤ now + MAX_COST
soon_then {now = now} {cells = cells} {until' = until'} b small soon j =
    go (get_or cells j None) (λ _. get_or cells j None)
  where
    go : (o : Option Firing) → get_or cells j None ≡ o → until' j ≤ now + MAX_COST
    go None e =
        let same = (b.columns j (λ f l is. none-some f (sym e ∙ is))).1 in
        omega (arith, soon j)
    go (Some f) e = omega (arith, (b.each j f (column_known cells j f e) e).2, small j f e)

module _ {now next : ℕ} (ends : List ℕ) {old new : List ℕ} {whose : ℕ → ℕ}
    (at : IsNextEnd ends now (length ends) (Some next))
    (ended : AreEnded next (length ends) whose (λ j. get_or ends j 0) old new)
    (rises : (a : ℕ) → get_or old a 0 ≤ get_or new a 0) where
  -- the step of time
  pub shift_turn : IsNextTime (length ends) now next (λ a. get_or old a 0) (λ a. get_or new a 0) whose
      (λ j. get_or ends j 0)
  shift_turn = record {
    later = at.0;
    least = at.2;
    through = ended.through;
    same = ended.same;
    rises = rises;
  }

  -- the actor of some column has ended one more
  pub shift_sum : length new ≡ length old → sum old < sum new
  shift_sum all = sum_less old new (whose at.1.0) (sym all) rises
      (omega (arith, ended.through at.1.0 at.1.1 at.1.2))

  pub shift_early : length new ≡ length old → now ≤ MAX_COST * sum old →
      ((j : ℕ) → get_or ends j 0 ≤ now + MAX_COST) →
      (next ≤ MAX_COST * sum new) × ((j : ℕ) → get_or ends j 0 ≤ next + MAX_COST)
  shift_early all early soon =
      let more = shift_sum all in
      let x = at.1 in
      (omega (arith, soon x.0, x.2), λ j. omega (arith, soon j, at.0))
