-- Where cells are a row by Hu's rule at some time after some rows, some are at each earlier time too: that none are is
-- absurd.
use Rattle.std.proofs.Common.{◌≡◌, ℕ, ◌*◌, ◌≤◌, ◌<◌, List, length, ap, inl, inr, arith, Option}
use Rattle.sdf_graph.specs.Rates.{Rates}
use Rattle.sdf_prec.specs.declared.firing.Firing.{Firing}
use Rattle.sdf_prec.specs.Tables.{firing}
use Rattle.sdf_prec.specs.Trying.{IsTriedBefore, IsQueue}
use Rattle.sdf_prec.specs.TimedRows.{Timed, IsBusy, IsReadyAt, IsSettled, IsFreeRow, IsHomedRow}
use Rattle.sdf_times.proofs.Decided.{decided_below, picked, ArePicked}
use Rattle.sdf_times.proofs.Filling.{HasFilled, has_filled}
use Rattle.sdf_times.proofs.Homing.{has_placed}

-- each firing stands once in a queue
queue_once : (level : Firing → ℕ) (P : Firing → Type 0) (queue : List Firing) → IsQueue level P queue → (p m : ℕ) →
    p < m → m < length queue → firing queue p ≡ firing queue m → ⊥
queue_once level P queue is p m h l e = go (firing queue p) (firing queue m) e (is.sorted p m h l)
  where
    go : (f g : Firing) → f ≡ g → IsTriedBefore level f g → ⊥
    go f g e (inl less) = let same = ap level e in omega arith
    go f g e (inr (_, inl less)) = let same = ap (λ (f : Firing). f.actor) e in omega arith
    go f g e (inr (_, inr (_, less))) = let same = ap (λ (f : Firing). f.number) e in omega arith

module _ (r : Rates) (n cost : ℕ → ℕ) (level : Firing → ℕ) (width : ℕ) (past : List Timed) (s t : ℕ)
    (early : s ≤ t) where
  ready_later : (f : Firing) → IsReadyAt r n cost past s f → IsReadyAt r n cost past t f
  ready_later f h = record {
    of_block = h.of_block;
    left = h.left;
    waits = λ g w. let e = h.waits g w in (e.0, e.1, e.2, omega (arith, e.3));
  }

  queue_exists : (queue : List Firing) → IsQueue level (IsReadyAt r n cost past t) queue →
      ((queue : List Firing) → IsQueue level (IsReadyAt r n cost past s) queue → ⊥) → ⊥
  queue_exists queue is none = decided_below (λ p. IsReadyAt r n cost past s (firing queue p)) (length queue)
      (λ decide. go (picked level (IsReadyAt r n cost past s) queue decide is.sorted))
    where
      go : (fs : List Firing) × ArePicked level (IsReadyAt r n cost past s) queue fs → ⊥
      go (fs, w) = none fs (record {
        each = w.each;
        all = λ f h. w.all f (is.all f (ready_later f h)) h;
        sorted = w.sorted;
      })

  pub free_row_exists : (row : List (Option Firing)) → IsFreeRow r n cost level width past t row →
      ((cells : List (Option Firing)) → length cells ≡ width → IsFreeRow r n cost level width past s cells → ⊥) → ⊥
  free_row_exists row is none = queue_exists is.queue is.ready (λ queue ready.
      decided_below (λ j. IsBusy cost past s j → ⊥) width (λ decide. go queue ready
      (has_filled (λ j. IsBusy cost past s j → ⊥) width decide queue)))
    where
      go : (queue : List Firing) → IsQueue level (IsReadyAt r n cost past s) queue →
          HasFilled (λ j. IsBusy cost past s j → ⊥) width queue → ⊥
      go queue ready b = none b.cells b.wide
          (record { queue = queue; columns = b.columns; ready = ready; idle = b.are_idle; filled = b.filled })

  pub homed_row_exists : (row : List (Option Firing)) → IsHomedRow r n cost level width past t row →
      ((a j : ℕ) → IsSettled past a j → j < width) →
      ((cells : List (Option Firing)) → length cells ≡ width → IsHomedRow r n cost level width past s cells → ⊥) → ⊥
  homed_row_exists row is within none = queue_exists is.queue is.ready (λ queue ready.
      has_placed r.actors width (λ a. n a * cost a) (λ j. IsBusy cost past s j → ⊥) is.homes queue
      (queue_once level (IsReadyAt r n cost past s) queue ready) (λ p l. (ready.each p l).of_block.0)
      (λ a j l e. within a j ((is.homes_are a j l).0 e)) (λ b. none b.cells b.wide (record {
        queue = queue;
        homes = is.homes;
        ready = ready;
        homes_are = is.homes_are;
        placed = record { each = b.each; only = b.only };
      })))
