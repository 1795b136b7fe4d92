-- The channels and links that `graph` and `links` make.
use Rattle.std.specs.Prelude.{ℕ, List, [], map, slice_index}
use Rattle.std.specs.Borrow.{Bor}
use Rattle.sdf_graph.specs.Rates.{ChannelValue}
use Rattle.sdf_actor.specs.Nets.{Wire}

-- channels by rows: from, put, take, to, initial
abbrev pub edges : List (ℕ × Bor (List ℕ) × Bor (List ℕ) × ℕ × ℕ) → List ChannelValue
edges rows = map (λ row. record { from = row.0; put = row.1.now; to = row.3; take = row.2.now; initial = row.4 }) rows

-- wires without initial samples, by their ends, each a node and a port
abbrev pub empty_wires : {T : Type 0} → List (List ℕ) → List (Wire T)
empty_wires ends = map (λ e. record {
  from = (slice_index e 0, slice_index e 1);
  to = (slice_index e 2, slice_index e 3);
  initial = [];
}) ends
