-- Ports by the row of a kind.
use Rattle.std.specs.Prelude.{ℕ}
use Rattle.sdf_kinds.specs.declared.ports.SideRow.{SideRow}
use Rattle.sdf_kinds.specs.declared.ports.SideRow.TheVariants as rows
use Rattle.sdf_kinds.specs.declared.ports.PortRow.{PortRow}
use Rattle.sdf_kit.specs.declared.ports.PortRates.{PortRates}
use Rattle.sdf_kit.specs.declared.ports.PortRates.TheVariants.{Every, InTurn}
use Rattle.sdf_kit.specs.declared.ports.Ports.{Ports}

abbrev pub side_of : SideRow ℕ → PortRates
side_of (rows.Every ports samples) = Every ports samples
side_of (rows.InTurn ports samples) = InTurn ports samples

abbrev pub ports_of : PortRow ℕ → Ports
ports_of row = record { cycle = row.cycle; inputs = side_of row.inputs; outputs = side_of row.outputs }
