use Rattle.std.proofs.Common.{◌≡◌}
use Rattle.toml.specs.View.{members_view}
use Rattle.sdf_document.specs.Tables.{first_unknown, texts_of}
use Rattle.sdf_document.proofs.table.test_keys.Given as goal

abbrev pub invariant-loop-key : goal.invariant-loop-key
invariant-loop-key l = first_unknown (texts_of l.known) (members_view l.key-iterator) ≡
    first_unknown (texts_of l.known) (members_view l.table.entries)
