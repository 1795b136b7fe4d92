use Rattle.std.proofs.Common.{rules}
use Rattle.std.proofs.lemmas.Option.{MatchOption-at_none}
use Rattle.std.proofs.lemmas.Result.{IfOk-weaker}
use Rattle.toml.specs.View.{view}
use Rattle.sdf_document.specs.Lists.{files_view}
use Rattle.sdf_why.specs.Diagnostics.{Give, told, nothing}
use Rattle.sdf_why.proofs.diagnostics.deadlock_text.Goals as goal

pub returns-in_default : goal.returns-in_default
returns-in_default c =
    nothing (MatchOption-at_none _ _ c.in_default.is c.in_ok-basis.ensures) c.new.ensures.bytes

pub returns : goal.returns
returns c =
    let says : Give c.args.sources.graph.now (files_view c.args.sources.files.now) (view c.in-Some.basis.document)
    c.in-Some.basis.design = search rules in
    IfOk-weaker c.deadlock_lines.result _ _ (λ text h. told _ _ says h) c.deadlock_lines.ensures
