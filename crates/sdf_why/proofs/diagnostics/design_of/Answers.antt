use Rattle.std.proofs.Common.{MatchOption, sym, subst}
use Rattle.std.proofs.lemmas.Result.{IfOk-weaker}
use Rattle.sdf_document.specs.Lists.{files_view}
use Rattle.sdf_file.specs.Designs.{IsDesignOf}
use Rattle.sdf_why.specs.Diagnostics.{GiveNone, refused}
use Rattle.sdf_why.proofs.diagnostics.design_of.Goals as goal

pub returns-in-Err : goal.returns-in-Err
returns-in-Err c =
    IfOk-weaker c.no_design.result _ _
    (λ r (is, other). subst (λ r. MatchOption r (GiveNone c.args.sources.graph.now
    (files_view c.args.sources.files.now))
    (IsDesignOf c.args.sources.graph.now (files_view c.args.sources.files.now))) (sym is)
    (refused c.in-Err.fault c.in-Err.ensures other)) c.no_design.ensures
