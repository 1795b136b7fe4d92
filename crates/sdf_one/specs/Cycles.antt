-- The numbers of samples that whole cycles of nodes move.
use Rattle.std.specs.Prelude.{◌≡◌, ◌⊎◌, ℕ, ◌<◌, List, length, slice_index}
use Rattle.sdf_actor.specs.Nets.{Netlist, wiring}
use Rattle.sdf_actor.specs.Steps.{Steps}
use Rattle.sdf_queues.specs.Sizes.{at_phase}
use Rattle.sdf_one.specs.declared.cycles.Cycles.{Cycles}

-- y has, for each channel, how many samples a cycle of its target takes from it, and a cycle of its source puts on it
pub record AreCycles {A S T : Type 0} (s : Steps A S T) (n : Netlist A T) (y : Cycles) : Type 0 where
  pub takes_all : length y.takes.items ≡ length n.wires
  pub puts_all : length y.puts.items ≡ length n.wires
  pub taken : (c : ℕ) → c < length n.wires → let r = (wiring s n).rates in
      slice_index y.takes.items c ≡ r.consumed c (r.cycle (r.target c))
  pub put : (c : ℕ) → c < length n.wires → let r = (wiring s n).rates in
      slice_index y.puts.items c ≡ r.produced c (r.cycle (r.source c))

-- the sizes at each phase of a cycle, with one for each port
abbrev pub AreRowsAt : List ℕ → List (List ℕ) → ℕ → Type 0
AreRowsAt ports rows cycle = (j : ℕ) → j < cycle → (j < length rows)
    × ((p : ℕ) → p < length ports → slice_index ports p < length (at_phase rows j))

-- the firings of a cycle serve the ports in turn: no firing moves samples at a port before a port of an earlier firing
abbrev pub IsInTurn : List ℕ → List (List ℕ) → ℕ → Type 0
IsInTurn ports rows cycle = (m n p q : ℕ) → m < n → n < cycle → p < q → q < length ports →
    (slice_index (at_phase rows m) (slice_index ports q) ≡ 0)
    ⊎ (slice_index (at_phase rows n) (slice_index ports p) ≡ 0)
