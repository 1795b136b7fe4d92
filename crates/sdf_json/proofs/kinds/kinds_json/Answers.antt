use Rattle.std.proofs.Common.{◌≤◌, string_bytes, subst, sym}
use Rattle.std.proofs.lemmas.Result.{IfOk-weaker}
use Rattle.serde_json.specs.Data.{depth}
use Rattle.serde_json.specs.Read.{max_depth}
use Rattle.sdf_json.specs.Values.{IsLineOf}
use Rattle.sdf_json.proofs.FlatKinds.{kinds_flat}
use Rattle.sdf_json.proofs.kinds.kinds_json.Goals as goal

pub line_of-requires : goal.line_of-requires
line_of-requires c = subst (λ v. depth v ≤ max_depth) (sym c.in_ok-value.ensures) kinds_flat

pub returns : goal.returns
returns c = IfOk-weaker c.line_of.result _ _
    (λ text line. subst (λ v. IsLineOf v (string_bytes text)) c.in_ok-value.ensures line) c.line_of.ensures
