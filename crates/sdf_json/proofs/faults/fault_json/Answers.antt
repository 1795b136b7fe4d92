use Rattle.std.proofs.lemmas.Result.{IfOk-weaker}
use Rattle.serde_json.specs.View.{view}
use Rattle.std.specs.Prelude.{string_bytes}
use Rattle.serde_json.specs.Data.{depth}
use Rattle.serde_json.specs.Read.{max_depth}
use Rattle.std.proofs.Common.{◌≤◌, subst, sym}
use Rattle.sdf_json.specs.Values.{IsLineOf}
use Rattle.sdf_json.proofs.FlatFaults.{fault_flat}
use Rattle.sdf_json.proofs.faults.fault_json.Goals as goal

pub line_of-requires : goal.line_of-requires
line_of-requires c = subst (λ d. depth d ≤ max_depth) (sym c.in_ok-value.ensures)
    (fault_flat c.args.fault.now c.args.details.now (view c.in_ok-plain.plain) c.in_ok-plain.ensures)

pub returns : goal.returns
returns c = IfOk-weaker c.line_of.result _ _ (λ text line. record {
  value = view c.in_ok-plain.plain;
  of_fault = c.in_ok-plain.ensures;
  is = subst (λ d. IsLineOf d (string_bytes text)) c.in_ok-value.ensures line;
}) c.line_of.ensures
