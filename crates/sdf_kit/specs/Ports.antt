-- Ports, and how many samples a firing moves at each.
use Rattle.std.specs.Prelude.{ℕ, ◌≤◌, ◌==◌, cond}
use Rattle.sdf_limits.specs.declared.TheConstants.{MAX_PORTS}
use Rattle.sdf_kit.specs.declared.ports.PortRates.{PortRates}
use Rattle.sdf_kit.specs.declared.ports.PortRates.TheVariants.{Every, InTurn}
use Rattle.sdf_kit.specs.declared.ports.Ports.{Ports}

-- the number of ports of a side
abbrev pub count : PortRates → ℕ
count (Every ports rate) = ports
count (InTurn ports rate) = ports

-- the samples that a firing at phase j moves at port p
abbrev pub moved : PortRates → ℕ → ℕ → ℕ
moved (Every ports rate) p j = rate
moved (InTurn ports rate) p j = cond (p == j) rate 0

-- one phase, and the same rate at each port of a side
abbrev pub steady : ℕ → ℕ → ℕ → ℕ → Ports
steady inputs take outputs put = record { cycle = 1; inputs = Every inputs take; outputs = Every outputs put }

-- the number of samples that a port moves when it moves any
abbrev pub rate : PortRates → ℕ
rate (Every ports r) = r
rate (InTurn ports r) = r

pub record ArePortRates (s : PortRates) : Type 0 where
  pub few : count s ≤ MAX_PORTS
  pub some : 1 ≤ rate s

pub record ArePorts (x : Ports) : Type 0 where
  pub cycle : 1 ≤ x.cycle
  pub inputs : ArePortRates x.inputs
  pub outputs : ArePortRates x.outputs
