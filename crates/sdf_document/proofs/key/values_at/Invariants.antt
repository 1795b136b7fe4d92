use Rattle.std.proofs.Common.{◌≡◌, ◌++◌, drop, List}
use Rattle.toml.specs.View.{table_view}
use Rattle.sdf_document.specs.declared.key.KeyValue.{KeyValue}
use Rattle.sdf_document.specs.Lists.{lookup_of, are_read}
use Rattle.sdf_kinds.specs.Rows.{keys_view}
use Rattle.sdf_document.specs.Kinds.{values_at, HaveForms}
use Rattle.sdf_document.proofs.Keys.{values_after}
use Rattle.sdf_document.proofs.key.values_at.Given as goal

abbrev pub invariant-loop-key : goal.invariant-loop-key
invariant-loop-key l = record {
  given : values_after l.values.items (values_at l.actor (lookup_of l.files) (keys_view (drop l.key-index l.keys))
      (table_view l.table)) ≡ values_at l.actor (lookup_of l.files) (keys_view l.keys) (table_view l.table);
  within : (left : List KeyValue) → HaveForms (are_read l.files) (keys_view (drop l.key-index l.keys)) left →
      HaveForms (are_read l.files) (keys_view l.keys) (l.values.items ++ left);
}
