use Rattle.std.proofs.Common.{◌≡◌, ℕ, ◌+◌, ◌≤◌, List, get_or, sum, map, Option, sym, ap, ◌∙◌, subst, arith}
use Rattle.sdf_limits.specs.declared.TheConstants.{MAX_BLOCK}
use Rattle.sdf_graph.specs.Rates.{rates}
use Rattle.sdf_graph.proofs.Theorems.{graphs_are_sound, graphs_have_periods}
use Rattle.sdf_prec.specs.declared.firing.Firing.{Firing}
use Rattle.sdf_prec.specs.Blocks.{block}
use Rattle.sdf_prec.proofs.Periods.{block_sum}
use Rattle.sdf_prec.specs.Tables.{IsValid}
use Rattle.sdf_prec.specs.Tidied.{tidy_rows}
use Rattle.sdf_prec.proofs.Needs.{block_balanced}
use Rattle.sdf_prec.proofs.Refusing.{one_of_all, valid_if_none}
use Rattle.sdf_prec.proofs.Keeping.{tidied_valid, accepted}
use Rattle.sdf_prec.proofs.table.Table.accept.Goals as goal

pub rows_fault-requires-clause-few : goal.rows_fault-requires-clause-few
rows_fault-requires-clause-few c = omega (
  arith,
  ap sum c.in_ok-firings.ensures,
  block_sum c.args.blocking c.args.reps.now,
  c.in_default.ensures.2,
)

pub rows_fault-requires-clause-enough : goal.rows_fault-requires-clause-enough
rows_fault-requires-clause-enough c =
    let g = c.args.graph.now in
    let r = rates g in
    λ d l. subst (λ n. r.consumed d (get_or n (r.target d) 0) ≤ r.initial d + r.produced d (get_or n (r.source d) 0))
    (sym c.in_ok-firings.ensures)
    (block_balanced r (graphs_are_sound g c.channels.ensures.shape) c.args.reps.now
    (graphs_have_periods g c.args.reps.now c.channels.ensures.shape c.requires) c.args.blocking d l)

pub of_rows-requires : goal.of_rows-requires
of_rows-requires c =
    let g = c.args.graph.now in
    let m : ℕ = c.args.m in
    let reps = c.args.reps.now in
    let n : ℕ → ℕ = λ a. get_or (block c.args.blocking reps) a 0 in
    let rs : List (List (Option Firing)) = map (λ r. r.items) c.args.rows.items in
    let valid = valid_if_none g c.channels.ensures.shape
    (graphs_are_sound g c.channels.ensures.shape) reps c.args.blocking m
    c.in_ok-fault.field-0 (map (λ r. r.items) c.deref.result.now) rs c.in_ok-firings.firings.items c.in_default-2.is
    (ap (map (λ r. r.items)) c.deref.ensures.value) c.in_ok-firings.ensures c.in_ok-fault.ensures in
    let kept : c.in_ok-kept.kept.rows ≡ tidy_rows m rs =
    c.in_ok-kept.ensures ∙ ap (λ xs. tidy_rows m (map (λ r. r.items) xs)) c.deref-2.ensures.value in (
      n,
      subst (IsValid (rates g) n) (sym kept) (tidied_valid m rs (rates g) n valid.1),
      one_of_all (block c.args.blocking reps) MAX_BLOCK
          (omega (arith, block_sum c.args.blocking reps, c.in_default.ensures.2)),
    )

pub returns : goal.returns
returns c =
    let g = c.args.graph.now in
    let m : ℕ = c.args.m in
    let reps = c.args.reps.now in
    let n : ℕ → ℕ = λ a. get_or (block c.args.blocking reps) a 0 in
    let rs : List (List (Option Firing)) = map (λ r. r.items) c.args.rows.items in
    let valid = valid_if_none g c.channels.ensures.shape
    (graphs_are_sound g c.channels.ensures.shape) reps c.args.blocking m
    c.in_ok-fault.field-0 (map (λ r. r.items) c.deref.result.now) rs c.in_ok-firings.firings.items c.in_default-2.is
    (ap (map (λ r. r.items)) c.deref.ensures.value) c.in_ok-firings.ensures c.in_ok-fault.ensures in
    let kept : c.in_ok-kept.kept.rows ≡ tidy_rows m rs =
    c.in_ok-kept.ensures ∙ ap (λ xs. tidy_rows m (map (λ r. r.items) xs)) c.deref-2.ensures.value in (
      record { blocking = c.in_default.ensures.0; workers = c.in_default.ensures.1; short = c.in_default.ensures.2 },
      accepted (rates g) n m rs c.in_ok-table.table valid.0 valid.1 (c.in_ok-table.ensures.rows ∙ kept)
          c.in_ok-table.ensures.exact,
    )
