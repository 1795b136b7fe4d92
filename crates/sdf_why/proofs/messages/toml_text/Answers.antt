use Rattle.std.proofs.Common.{◌≡◌, None, sym, rules}
use Rattle.std.proofs.lemmas.Result.{IfOk-weaker}
use Rattle.sdf_why.specs.Tables.{root}
use Rattle.sdf_why.specs.Messages.{said, document}
use Rattle.sdf_why.proofs.Roots.{root_found, root_missing}
use Rattle.sdf_why.proofs.messages.toml_text.Goals as goal

pub returns-in-Ok : goal.returns-in-Ok
returns-in-Ok c = document _ (sym (root_found c.args.bytes.now c.in-Ok.field-0 c.in-Ok.ensures.ok)) c.new.ensures.bytes

pub returns : goal.returns
returns c =
    let none : None ≡ root c.args.bytes.now = search (rules, root_missing) in
    IfOk-weaker c.error_text.result _ _ (λ text words. said (sym none) words) c.error_text.ensures
