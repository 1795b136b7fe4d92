-- The blocks of a batch of a node's firings, at its ports and in one list.
use Rattle.std.specs.Prelude.{◌≡◌, ℕ, ◌*◌, List, length, slice_index}
use Rattle.sdf_node.specs.Many.{nth_block, joined}
use Rattle.sdf_rings.specs.declared.seat.run_ends.BatchBlocks.{BatchBlocks}
use Rattle.sdf_rings.specs.Blocks.{start_at, block_of}

-- there is this number of ports, and size is the sum of the sizes at all of them
pub record HasPorts (r : BatchBlocks) (ports : ℕ) : Type 0 where
  pub all : ports ≡ length r.sizes.now
  pub size_is : r.size ≡ start_at (slice_index r.sizes.now) ports

-- how many samples the whole batch moves at a port
abbrev pub batch_sizes : BatchBlocks → ℕ → ℕ
batch_sizes r p = r.many * slice_index r.sizes.now p

-- the blocks of a port, out of a list of all blocks in the order of the firings
abbrev pub port_blocks : {T : Type 0} → BatchBlocks → List T → ℕ → List T
port_blocks r xs p = joined (λ i. block_of (slice_index r.sizes.now) p (nth_block r.size xs i)) r.many
