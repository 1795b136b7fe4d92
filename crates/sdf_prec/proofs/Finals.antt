-- The table of the rule's rows.
use Rattle.std.proofs.Common.{◌≡◌, ℕ, ◌<◌, List, [], ◌∷◌, length, sym, ap, ◌∙◌, subst, arith, refl, Bool, Option}
use Rattle.std.proofs.lemmas.List.{length-map}
use Rattle.sdf_graph.specs.Rates.{Rates}
use Rattle.sdf_prec.specs.declared.firing.Firing.{Firing}
use Rattle.sdf_prec.specs.declared.fault.PrecFault.{PrecFault}
use Rattle.sdf_prec.specs.declared.fault.PrecFault.TheVariants.{OutOfMemory, BlockingFactor, BlockTooLong}
use Rattle.sdf_prec.specs.Blocks.{IsBlocking, IsWorkers, IsBlockFault, IsLengthFault, IsSizeFault}
use Rattle.sdf_prec.specs.Levels.{IsLevel}
use Rattle.sdf_prec.specs.Tables.{firings, row, TableValue, IsValid, IsExact, IsOfBlock}
use Rattle.sdf_prec.specs.TimedRows.{Timed, cells_of, AreHuRows}
use Rattle.sdf_prec.specs.HuTables.{IsHuTable}
use Rattle.sdf_prec.proofs.Ends.{row_of}

some_firing : (fs : List Firing) → (fs ≡ [] → ⊥) → 0 < length fs
some_firing [] none = absurd (none refl)
some_firing (f ∷ fs) none = omega arith

pub hu_table : (r : Rates) (n cost : ℕ → ℕ) (level : Firing → ℕ) (width : ℕ) (homed : Bool)
    (rows : List (List (Option Firing))) (t : TableValue) → AreHuRows r n cost level width homed rows →
    IsValid r n rows → t.rows ≡ rows → IsExact r t → ((f : Firing) → IsOfBlock r n f → IsLevel r n cost f (level f)) →
    IsHuTable r n cost width homed t
hu_table r n cost level width homed rows t (past, is, are) valid same exact levels = record {
  table = record {
    valid = subst (IsValid r n) (sym same) valid;
    wide = subst (λ rows. (i : ℕ) → i < length rows → length (row rows i) ≡ width) (is ∙ sym same)
        (λ i l. ap length (row_of past i) ∙ (are.rows_are i (known i l)).wide);
    some = subst (λ rows. (i : ℕ) → i < length rows → 0 < length (firings (row rows i))) (is ∙ sym same)
        (λ i l. some_firing (firings (row (cells_of past) i))
        (λ none. (are.rows_are i (known i l)).some (ap firings (sym (row_of past i)) ∙ none)));
    exact = exact;
  };
  level = level;
  levels_are = levels;
  rows_are = (past, is ∙ sym same, are);
}
  where
    known : (i : ℕ) → i < length (cells_of past) → i < length past
    known i l = let e : length (cells_of past) ≡ length past = length-map past (λ (x : Timed). x.cells) in omega arith

-- where the periods may be, what is wrong with their firings is a block's fault
pub fault_block : (j : ℕ) (reps : List ℕ) (e : PrecFault) → IsBlocking j → IsLengthFault j reps e →
    IsBlockFault j reps e
fault_block j reps OutOfMemory few h = tt
fault_block j reps BlockTooLong few h = (few, h)
fault_block j reps _ few h = absurd h

-- where the width may be, a block's fault is a table's
pub fault_size : (j m : ℕ) (reps : List ℕ) (e : PrecFault) → IsWorkers m → IsBlockFault j reps e →
    IsSizeFault j m reps e
fault_size j m reps OutOfMemory w h = tt
fault_size j m reps BlockingFactor w h = h
fault_size j m reps BlockTooLong w h = (h.0, w, h.1)
fault_size j m reps _ w h = absurd h
