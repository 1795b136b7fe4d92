use Rattle.std.proofs.Common.{◌≡◌, map, take}
use Rattle.sdf_kinds.specs.declared.row.Kind.{Kind}
use Rattle.sdf_kinds.specs.Rows.{row_of}
use Rattle.sdf_why.proofs.kind.kind_words.Given as goal

abbrev pub invariant-loop-kind : goal.invariant-loop-kind
invariant-loop-kind l =
    map (λ word. word.now) l.words.items ≡ map (λ (k : Kind). (row_of k).word) (take l.kind-index l.all)
