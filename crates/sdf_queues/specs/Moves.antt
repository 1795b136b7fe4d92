-- What one firing of a node does to the samples on the channels.
use Rattle.std.specs.Prelude.{◌≡◌, ◌≢◌, ℕ, ◌<◌, List, [], ◌∷◌, ◌++◌, length, take, drop, slice_index}
use Rattle.std.specs.List.{flat_map, sum_by}
use Rattle.sdf_graph.specs.Sequences.{IsEnabled}
use Rattle.sdf_actor.specs.Histories.{taken, taken_before, spread}
use Rattle.sdf_actor.specs.Laws.{after_firing}
use Rattle.sdf_actor.specs.Nets.{Netlist, node, wiring, answers, IsHistoryOf}
use Rattle.sdf_actor.specs.Steps.{Steps}
use Rattle.sdf_queues.specs.Blocks.{at_ports, ArePorts}
use Rattle.sdf_queues.specs.Sizes.{in_all, out_all}

module _ {A S T : Type 0} (s : Steps A S T) (n : Netlist A T) where
  -- the sizes of firing i of node a by its ports: each is a channel of its own, and they sum to what the firing moves
  -- in all
  pub record FitsPorts (a i : ℕ) (takes puts : List ℕ) : Type 0 where
    pub ins_are : ArePorts ((wiring s n).ins a) takes (length n.wires)
    pub outs_are : ArePorts ((wiring s n).outs a) puts (length n.wires)
    pub taken : sum_by (slice_index takes) ((wiring s n).ins a) ≡ in_all s (node n a) i
    pub put : sum_by (slice_index puts) ((wiring s n).outs a) ≡ out_all s (node n a) i

  -- the channels hold the samples of a history that are not yet taken
  abbrev pub IsLeft : (ℕ → ℕ) → (ℕ → List T) → (ℕ → List T) → Type 0
  IsLeft k V queue = (c : ℕ) → c < length n.wires →
      queue c ≡ drop ((wiring s n).rates.consumed c (k ((wiring s n).rates.target c))) (V c)

  -- the block of a node's next firing, at the front of its channels
  abbrev pub front_of : ℕ → List ℕ → (ℕ → List T) → List T
  front_of a takes queue = flat_map (λ c. take (slice_index takes c) (queue c)) ((wiring s n).ins a)

  -- node a fires after a history V at the counts k, and the counts are m then
  pub record MovesOn (inputs : List (List T)) (k m : ℕ → ℕ) (a : ℕ) (V : ℕ → List T) (takes puts : List ℕ)
      (queue : ℕ → List T) : Type 0 where
    pub is : IsHistoryOf s n inputs m (after_firing s n inputs k V a)
    -- its block is gone from the channels, and its answer is on them
    pub left : (c : ℕ) → c < length n.wires →
        drop (at_ports ((wiring s n).ins a) (slice_index takes c) c) (queue c) ++
        spread (slice_index puts) ((wiring s n).outs a)
        (answers s n inputs a (taken_before (wiring s n) V a (k a)) (taken (wiring s n) V a (k a))) c ≡
        drop ((wiring s n).rates.consumed c (m ((wiring s n).rates.target c))) (after_firing s n inputs k V a c)
    -- it has taken one block more, and no other node has
    pub own : taken_before (wiring s n) (after_firing s n inputs k V a) a (m a) ≡
        taken_before (wiring s n) V a (k a) ++ taken (wiring s n) V a (k a) ∷ []
    pub others : (b : ℕ) → b < length n.nodes → a ≢ b →
        taken_before (wiring s n) (after_firing s n inputs k V a) b (m b) ≡ taken_before (wiring s n) V b (k b)
    -- what another enabled node takes next is the same
    pub ahead : (b : ℕ) → b < length n.nodes → a ≢ b → IsEnabled (wiring s n).rates k b →
        taken (wiring s n) (after_firing s n inputs k V a) b (m b) ≡ taken (wiring s n) V b (k b)
