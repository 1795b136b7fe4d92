use Rattle.std.proofs.Common.{◌≤◌, string_bytes, subst, sym}
use Rattle.std.proofs.lemmas.Result.{IfOk-weaker}
use Rattle.serde_json.specs.Data.{depth}
use Rattle.serde_json.specs.Read.{max_depth}
use Rattle.sdf_json.specs.Values.{IsLineOf}
use Rattle.sdf_json.proofs.FlatDesigns.{check_flat}
use Rattle.sdf_json.proofs.designs.check_json.Goals as goal

pub line_of-requires : goal.line_of-requires
line_of-requires c =
    subst (λ v. depth v ≤ max_depth) (sym c.in_ok-value.ensures) (check_flat c.args.design.now c.repetitions.result.now)

pub returns : goal.returns
returns c = IfOk-weaker c.line_of.result _ _ (λ text line. record {
  period = c.repetitions.result.now;
  least = rw c.net.ensures.value at c.repetitions.ensures.least;
  is = subst (λ v. IsLineOf v (string_bytes text)) c.in_ok-value.ensures line;
}) c.line_of.ensures
