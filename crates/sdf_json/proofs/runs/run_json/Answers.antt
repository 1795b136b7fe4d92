use Rattle.std.proofs.Common.{◌≤◌, string_bytes, subst, sym}
use Rattle.std.proofs.lemmas.Result.{IfOk-weaker}
use Rattle.serde_json.specs.Data.{depth}
use Rattle.serde_json.specs.Read.{max_depth}
use Rattle.sdf_json.specs.Values.{IsLineOf}
use Rattle.sdf_json.proofs.FlatRuns.{run_flat}
use Rattle.sdf_json.proofs.runs.run_json.Goals as goal

pub line_of-requires : goal.line_of-requires
line_of-requires c = subst (λ v. depth v ≤ max_depth) (sym c.in_ok-value.ensures) (run_flat c.args.outputs.now)

pub returns : goal.returns
returns c = IfOk-weaker c.line_of.result _ _
    (λ text line. subst (λ v. IsLineOf v (string_bytes text)) c.in_ok-value.ensures line) c.line_of.ensures
