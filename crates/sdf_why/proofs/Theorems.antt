-- What proofs of other crates cite of this one: each statement of the laws, by its lemma.
use Rattle.sdf_why.specs.Laws.{LineIsAdded}
use Rattle.sdf_why.proofs.Lines.{line_added as added}

pub line_added : {X : Type 0} → LineIsAdded X
line_added = added
