use Rattle.std.proofs.Common.{◌≡◌, ◌∙◌, ap}
use Rattle.std.proofs.lemmas.Result.{IfOk-weaker}
use Rattle.indexmap.proofs.CallerLemmas.{Drains-YieldsInOrder}
use Rattle.sdf_document.specs.Names.{names_of}
use Rattle.sdf_document.proofs.document.names_wanted.Goals as goal

pub returns : goal.returns
returns c = IfOk-weaker c.from_iter.result _ _ (λ v ran.
    let last = ran.3.2 tt in
    let whole : ran.1 ≡ ran.0 = Drains-YieldsInOrder _ _ ran.0 ran.1 ran.2.2
    (last.0, (ran.3.0, ran.3.1, last.1)) in
    ap names_of (ran.4.0 ∙ (whole ∙ ran.2.0)) ∙ c.in_ok-put_files.ensures) c.from_iter.ensures.ran
