use Rattle.std.proofs.Common.{rules, ap, sym, ◌∙◌, Err}
use Rattle.sdf_document.specs.Fault.{or_fault, borrowed_view}
use Rattle.sdf_document.specs.Fault.{not_toml}
use Rattle.sdf_document.proofs.Tables.{table_found, table_missing}
use Rattle.sdf_document.proofs.table.table_in.Goals as goal

pub returns-in-Ok : goal.returns-in-Ok
returns-in-Ok c = ap (or_fault (not_toml (borrowed_view c.args.borrowed)))
    (table_found c.args.bytes.now _ c.in-Ok.ensures.ok)

pub returns-in_ok-place-in-Err-2 : goal.returns-in_ok-place-in-Err-2
returns-in_ok-place-in-Err-2 c =
    rw c.into.ensures (ap (or_fault (not_toml (borrowed_view c.args.borrowed)))
    (table_missing c.args.bytes.now (c.in-Err-2.ensures.refused (search rules)))
    ∙ ap (λ p. Err (not_toml p)) (sym c.in_ok-place-in-Err-2.ensures))
