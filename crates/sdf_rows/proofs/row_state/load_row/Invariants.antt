use Rattle.std.proofs.Common.{◌≡◌, length, take}
use Rattle.sdf_prec.specs.Tables.{firings}
use Rattle.sdf_rows.specs.Loading.{AreLoaded}
use Rattle.sdf_rows.proofs.row_state.load_row.Given as goal

abbrev pub invariant-loop-column : goal.invariant-loop-column
invariant-loop-column g l = record {
  many : l.many ≡ length (firings (take l.column l.row));
  loaded : AreLoaded l.row l.done (firings (take l.column l.row)) l.initial.states l.states l.initial.jobs l.jobs;
}
