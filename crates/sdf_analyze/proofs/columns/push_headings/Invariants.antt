use Rattle.std.proofs.Common.{◌≡◌, ◌++◌, take, string_bytes}
use Rattle.std.specs.List.{flat_map}
use Rattle.sdf_analyze.specs.Columns.{columns, right, width_of, heading}
use Rattle.sdf_analyze.proofs.columns.push_headings.Given as goal

abbrev pub invariant-loop-column : goal.invariant-loop-column
invariant-loop-column l = record {
  all : l.column-items ≡ columns;
  so_far : string_bytes l.text ≡ string_bytes l.initial.text
      ++ flat_map (λ column. right (width_of column) (heading column)) (take l.column-index l.column-items);
}
