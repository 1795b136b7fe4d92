-- A node with its ends of rings: what it knows, when it can fire, and what became of it.
use Rattle.std.specs.Prelude.{◌≡◌, ℕ, ◌+◌, ◌%◌, ◌≤◌, ◌<◌, List, length, take, vec_len, slice_index, slice_index_or}
use Rattle.std.specs.Global.{Global}
use mathlib.Core.List.{IsPrefix}
use Rattle.rtrb.specs.Ring.{sent, received, IsPair}
use Rattle.rtrb.specs.declared.producer.Producer.{Producer}
use Rattle.rtrb.specs.declared.consumer.Consumer.{Consumer}
use Rattle.rtrb.specs.declared.AnyItems.{AnyItems}
use Rattle.sdf_actor.specs.Steps.{Steps}
use Rattle.sdf_actor.specs.Histories.{taken_before}
use Rattle.sdf_actor.specs.Locals.{IsLocal}
use Rattle.sdf_actor.specs.Nets.{Netlist, wire, node, wiring, answers, inputs_of, outputs_of, cycle_of}
use Rattle.sdf_actor.specs.Sides.{moved_at}
use Rattle.sdf_actor.specs.Wires.{lists}
use Rattle.sdf_actor.specs.declared.sides.Side.TheVariants.{Input, Output}
use Rattle.sdf_node.specs.Nodes.{takes_of, puts_of, IsAt}
use Rattle.sdf_rings.specs.declared.seat.ring_node.RingNode.{RingNode}
use Rattle.sdf_rings.specs.Ends.{DrewEach, GaveEach, HoldsEach, HasRoomEach}
use Rattle.sdf_queues.specs.Sizes.{sizes, AreRows}

-- channels from node a to itself, by its ends of rings
module _ {A T : Type 0} (n : Netlist A T) (a : ℕ) (ins : List (Consumer T Global AnyItems))
    (outs : List (Producer T Global AnyItems)) where
  -- R is true of the two ends of each
  abbrev HoldsOfOwn : (Consumer T Global AnyItems → Producer T Global AnyItems → Type 0) → Type 0
  HoldsOfOwn R = (c : ℕ) (d : Consumer T Global AnyItems) (e : Producer T Global AnyItems) → c < length n.wires →
      (wire n c).from.0 ≡ a → (wire n c).to.0 ≡ a →
      R (slice_index_or ins (wire n c).to.1 d) (slice_index_or outs (wire n c).from.1 e)

  -- both ends of each belong to one ring
  abbrev pub OwnArePairs : Type 0
  OwnArePairs = HoldsOfOwn (λ x y. IsPair y x)

  -- what was taken from each is the beginning of what was put there
  abbrev pub OwnBegin : Type 0
  OwnBegin = HoldsOfOwn (λ x y. IsPrefix (received x) (sent y))

module _ {A S T : Type 0} (s : Steps A S T) (n : Netlist A T) where
  -- it has its ring ends by port, and what went through them is what it knows of its own channels. Its firings done put
  -- their answers to what they took, and its state is the one after them
  pub record IsRingNode (inputs : List (List T)) (x : RingNode A T S) : Type 0 where
    pub known : x.actor < length n.nodes
    pub own_pairs : OwnArePairs n x.actor x.ins.items x.outs.items
    pub within : x.done ≤ x.asked
    pub own : ℕ → List T
    pub local : IsLocal (wiring s n) (answers s n inputs) x.actor x.done own
    pub at : IsAt s inputs x.asked (node n x.actor) (taken_before (wiring s n) own x.actor x.done) x.state
    pub ins_all : vec_len x.ins ≡ inputs_of s (node n x.actor)
    pub outs_all : vec_len x.outs ≡ outputs_of s (node n x.actor)
    pub took : (i : ℕ) (d : Consumer T Global AnyItems) → i < vec_len x.ins →
        received (slice_index_or x.ins.items i d) ≡ take
        ((wiring s n).rates.consumed (slice_index ((wiring s n).ins x.actor) i) x.done)
        (own (slice_index ((wiring s n).ins x.actor) i))
    pub gave : (i : ℕ) (d : Producer T Global AnyItems) → i < vec_len x.outs →
        sent (slice_index_or x.outs.items i d) ≡ own (slice_index ((wiring s n).outs x.actor) i)
    pub phases : 0 < cycle_of s (node n x.actor)
    pub takes : AreRows s Input (node n x.actor) (lists x.takes.items)
    pub puts : AreRows s Output (node n x.actor) (lists x.puts.items)
    -- its working blocks are long enough while firings are left. If none was asked there may be no sample to fill them
    -- with
    pub taken_long : x.done < x.asked → (k : ℕ) → takes_of s (node n x.actor) (k % cycle_of s (node n x.actor)) ≤
        length x.taken.items
    pub put_long : x.done < x.asked → (k : ℕ) → puts_of s (node n x.actor) (k % cycle_of s (node n x.actor)) ≤
        length x.put.items

  -- the samples of its next firing and the room for what that puts are known at its ends
  pub record CanFire (x : RingNode A T S) : Type 0 where
    pub holds : HoldsEach (sizes s Input (node n x.actor) x.done) x.ins.items
    pub has_room : HasRoomEach (sizes s Output (node n x.actor) x.done) x.outs.items

  -- at each port exactly the samples of the firings since then were taken and put
  pub record HasMoved (x y : RingNode A T S) : Type 0 where
    pub actor_kept : y.actor ≡ x.actor
    pub asked_kept : y.asked ≡ x.asked
    pub more : x.done ≤ y.done
    pub ins_kept : vec_len y.ins ≡ vec_len x.ins
    pub outs_kept : vec_len y.outs ≡ vec_len x.outs
    pub taken : ℕ → List T
    pub put : ℕ → List T
    pub drew : DrewEach x.ins.items y.ins.items taken
    pub gave : GaveEach x.outs.items y.outs.items put
    pub taken_count : (i : ℕ) → i < vec_len x.ins →
        length (taken i) + moved_at s Input (node n x.actor) i x.done ≡ moved_at s Input (node n x.actor) i y.done
    pub put_count : (i : ℕ) → i < vec_len x.outs →
        length (put i) + moved_at s Output (node n x.actor) i x.done ≡ moved_at s Output (node n x.actor) i y.done
