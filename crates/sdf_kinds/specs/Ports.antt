-- The ports of each kind, by numbers of any type.
use Rattle.sdf_kinds.specs.declared.ports.SideRow.{SideRow}
use Rattle.sdf_kinds.specs.declared.ports.SideRow.TheVariants.{Every, InTurn}
use Rattle.sdf_kinds.specs.declared.ports.PortRow.{PortRow}

-- the number of ports of a side
abbrev pub ports_in : {N : Type 0} → SideRow N → N
ports_in (Every ports samples) = ports
ports_in (InTurn ports samples) = ports

-- the number of samples that a firing moves at a port that it serves
abbrev pub samples_in : {N : Type 0} → SideRow N → N
samples_in (Every ports samples) = samples
samples_in (InTurn ports samples) = samples

-- one phase, and the same at each port of a side
abbrev pub single_phase : {N : Type 0} → N → N → N → N → N → PortRow N
single_phase inputs takes outputs puts one =
    record { cycle = one; inputs = Every inputs takes; outputs = Every outputs puts }

abbrev pub input : {N : Type 0} → N → N → N → PortRow N
input block zero one = single_phase zero zero one block one

abbrev pub output : {N : Type 0} → N → N → N → PortRow N
output block zero one = single_phase one block zero zero one

abbrev pub fir : {N : Type 0} → N → N → N → PortRow N
fir up down one = single_phase one down one up one

abbrev pub decimate : {N : Type 0} → N → N → PortRow N
decimate factor one = single_phase one factor one one one

abbrev pub interpolate : {N : Type 0} → N → N → PortRow N
interpolate factor one = single_phase one one one factor one

abbrev pub add : {N : Type 0} → N → N → PortRow N
add ways one = single_phase ways one one one one

abbrev pub fork : {N : Type 0} → N → N → PortRow N
fork ways one = single_phase one one ways one one

-- a gain, delay, table, clip or offset
abbrev pub pointwise : {N : Type 0} → N → PortRow N
pointwise one = single_phase one one one one one

-- the ports of one side are served in turn, a run at each
abbrev pub deal : {N : Type 0} → N → N → N → PortRow N
deal ways run one = record { cycle = ways; inputs = Every one run; outputs = InTurn ways run }

abbrev pub gather : {N : Type 0} → N → N → N → PortRow N
gather ways run one = record { cycle = ways; inputs = InTurn ways run; outputs = Every one run }
