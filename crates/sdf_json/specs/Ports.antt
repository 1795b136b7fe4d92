-- The ports of each kind.
use Rattle.std.specs.Prelude.{◌≡◌, ℕ, ◌<◌, ◌==◌, cond, List, [], ◌∷◌, codes, if◌then◌else◌, bytes_eq}
use Rattle.sdf_actor.specs.declared.node.Node.{Node}
use Rattle.sdf_actor.specs.declared.sides.Side.TheVariants.{Input, Output}
use Rattle.sdf_actor.specs.Nets.{inputs_of, outputs_of, cycle_of}
use Rattle.sdf_actor.specs.Graphs.{rate_of}
use Rattle.sdf_kit.specs.declared.kit.Kit.{Kit}
use Rattle.sdf_kit.specs.Kit.{kit_steps}
use Rattle.sdf_kinds.specs.declared.row.Kind.{Kind}
use Rattle.sdf_kinds.specs.declared.row.Kind.TheVariants as kind
use Rattle.sdf_kinds.specs.declared.ports.PortRow.{PortRow}
use Rattle.sdf_kinds.specs.Ports.{ports_in, samples_in}
use Rattle.sdf_kinds.specs.Ports as rows
use Rattle.sdf_document.specs.declared.key.KeyValue.{KeyValue}
use Rattle.sdf_kinds.specs.Rows.{KeyFormValue, row_of}
use Rattle.sdf_document.specs.Kinds.{entry_of, natural, first, rest}
use Rattle.sdf_file.specs.Designs.{node_of}
use Rattle.sdf_json.specs.declared.ports.Amount.{Amount}
use Rattle.sdf_json.specs.declared.ports.Amount.TheVariants.{Zero, One, Block, Up, Down, Factor, Ways, Run}

abbrev pub ports_of : Kind → PortRow Amount
ports_of kind.Input = rows.input Block Zero One
ports_of kind.Output = rows.output Block Zero One
ports_of kind.Fir = rows.fir Up Down One
ports_of kind.Decimate = rows.decimate Factor One
ports_of kind.Interpolate = rows.interpolate Factor One
ports_of kind.Add = rows.add Ways One
ports_of kind.Fork = rows.fork Ways One
ports_of kind.Gain = rows.pointwise One
ports_of kind.Delay = rows.pointwise One
ports_of kind.Table = rows.pointwise One
ports_of kind.Deal = rows.deal Ways Run One
ports_of kind.Gather = rows.gather Ways Run One
ports_of kind.Clip = rows.pointwise One
ports_of kind.Offset = rows.pointwise One

-- ---- that a kind has them

-- the number at the key `name`, by the keys of a row and their values
abbrev pub value_of : List ℕ → List KeyFormValue → List KeyValue → ℕ
value_of name [] vs = 0
value_of name (k ∷ ks) vs = if bytes_eq k.name name then natural (first vs) else value_of name ks (rest vs)

abbrev pub amount_in : Kind → List KeyValue → Amount → ℕ
amount_in k vs Zero = 0
amount_in k vs One = 1
amount_in k vs Block = value_of (codes "block") (row_of k).keys vs
amount_in k vs Up = value_of (codes "up") (row_of k).keys vs
amount_in k vs Down = value_of (codes "down") (row_of k).keys vs
amount_in k vs Factor = value_of (codes "factor") (row_of k).keys vs
amount_in k vs Ways = value_of (codes "ways") (row_of k).keys vs
amount_in k vs Run = value_of (codes "run") (row_of k).keys vs

-- the samples that a firing at phase j moves at port p of a side: only at port j, if the cycle and the side's ports are
-- both `ways`
abbrev pub moved_by : Amount → Amount → ℕ → ℕ → ℕ → ℕ
moved_by Ways Ways n p j = cond (p == j) n 0
moved_by cycle ports n p j = n

-- a node has the ports and the firings of the row, and moves the row's samples at each port
pub record HasPorts (row : PortRow Amount) (amount : Amount → ℕ) (node : Node Kit) : Type 0 where
  pub inputs : inputs_of kit_steps node ≡ amount (ports_in row.inputs)
  pub outputs : outputs_of kit_steps node ≡ amount (ports_in row.outputs)
  pub cycle : cycle_of kit_steps node ≡ amount row.cycle
  pub takes : (p j : ℕ) → p < amount (ports_in row.inputs) →
      rate_of kit_steps Input node p j ≡
      moved_by row.cycle (ports_in row.inputs) (amount (samples_in row.inputs)) p j
  pub puts : (p j : ℕ) → p < amount (ports_in row.outputs) →
      rate_of kit_steps Output node p j ≡
      moved_by row.cycle (ports_in row.outputs) (amount (samples_in row.outputs)) p j

abbrev pub KindsHaveTheirPorts : Type 0
KindsHaveTheirPorts = (k : Kind) (vs : List KeyValue) →
    HasPorts (ports_of k) (amount_in k vs) (node_of (entry_of k vs))
