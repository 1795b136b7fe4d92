use Rattle.std.proofs.Common.{◌≡◌, ◌++◌, take}
use Rattle.toml.specs.View.{table_view}
use Rattle.sdf_document.specs.Tables.{texts_of}
use Rattle.sdf_kinds.specs.Rows.{keys_view}
use Rattle.sdf_document.specs.Kinds.{names_of_keys}
use Rattle.sdf_document.proofs.key.push_names.Given as goal

abbrev pub invariant-loop-key : goal.invariant-loop-key
invariant-loop-key l = texts_of l.names.items ≡ texts_of l.initial.names.items
    ++ names_of_keys (table_view l.table) (keys_view (take l.key-index l.keys))
