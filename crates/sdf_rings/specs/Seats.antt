-- What one worker holds, and what it did in a round.
use Rattle.std.specs.Prelude.{ℕ, ◌≡◌, ◌+◌, ◌<◌, ◌≤◌, ◌⊎◌, List, vec_len, slice_index, slice_index_or, slice_range}
use Rattle.std.specs.Prelude.{length}
use Rattle.sdf_graph.specs.Sequences.{times}
use Rattle.sdf_actor.specs.Steps.{Steps}
use Rattle.sdf_actor.specs.Nets.{Netlist}
use Rattle.sdf_rings.specs.declared.seat.ring_node.RingNode.{RingNode}
use Rattle.sdf_rings.specs.declared.seat.Seat.{Seat}
use Rattle.sdf_rings.specs.RingNodes.{IsRingNode, CanFire, HasMoved}

-- how often the number k occurs between two places of a list
abbrev pub times_between : ℕ → List ℕ → ℕ → ℕ → ℕ
times_between k xs from to = times (slice_range xs from to) k

module _ {A S T : Type 0} (s : Steps A S T) (n : Netlist A T) where
  -- its list names its ring nodes, and from next on has exactly the firings that are still to be done of each
  pub record IsSeat (inputs : List (List T)) (x : Seat A T S) : Type 0 where
    pub next_fits : x.next ≤ length x.left
    pub names : (j : ℕ) → j < length x.left → slice_index x.left j < vec_len x.ring_nodes
    pub each : (k : ℕ) (d : RingNode A T S) → k < vec_len x.ring_nodes →
        IsRingNode s n inputs (slice_index_or x.ring_nodes.items k d)
    pub counts : (k : ℕ) (d : RingNode A T S) → k < vec_len x.ring_nodes →
        (slice_index_or x.ring_nodes.items k d).done + times_between k x.left x.next (length x.left) ≡
        (slice_index_or x.ring_nodes.items k d).asked

  -- the first firing of the list is known to be possible
  abbrev pub CanFireFirst : Seat A T S → Type 0
  CanFireFirst x = (d : RingNode A T S) → CanFire s n (slice_index_or x.ring_nodes.items (slice_index x.left x.next) d)

  -- the firings between the two places of the list were done, and nothing else
  pub record HasWorked (x y : Seat A T S) : Type 0 where
    pub processor_kept : y.processor ≡ x.processor
    pub left_kept : y.left ≡ x.left
    pub next_grows : x.next ≤ y.next
    pub next_fits : y.next ≤ length x.left
    pub ring_nodes_kept : vec_len y.ring_nodes ≡ vec_len x.ring_nodes
    pub moved : (k : ℕ) (d : RingNode A T S) → k < vec_len x.ring_nodes →
        HasMoved s n (slice_index_or x.ring_nodes.items k d) (slice_index_or y.ring_nodes.items k d)
    pub dones : (k : ℕ) (d : RingNode A T S) → k < vec_len x.ring_nodes →
        (slice_index_or y.ring_nodes.items k d).done ≡ (slice_index_or x.ring_nodes.items k d).done
        + times_between k x.left x.next y.next

  -- nothing was done
  abbrev pub HasIdled : Seat A T S → Seat A T S → Type 0
  HasIdled x y = HasWorked x y × (y.next ≡ x.next)

  -- one worker's round: it ends when its list is empty, or its next firing is not known to be possible. It does its
  -- first firing if that was known to be possible
  pub record HasRounded (inputs : List (List T)) (x y : Seat A T S) : Type 0 where
    pub seat : IsSeat inputs y
    pub worked : HasWorked x y
    pub stopped : (y.next ≡ length y.left) ⊎ (CanFireFirst y → ⊥)
    pub progress : x.next < length x.left → CanFireFirst x → x.next < y.next
