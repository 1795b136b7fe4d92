-- The places of ring ends.
use Rattle.std.specs.Prelude.{ℕ, ◌≡◌, ◌<◌, List, length, vec_len, slice_index_or}
use Rattle.std.specs.Vec.{with_item}
use Rattle.std.specs.declared.vec.Vec.{Vec}
use Rattle.sdf_rings.specs.declared.seat.ring_node.RingNode.{RingNode}
use Rattle.sdf_rings.specs.declared.seat.Seat.{Seat}
use Rattle.sdf_rings.specs.declared.rings.meet.RingEnd.{RingEnd}
use Rattle.std.specs.Global.{Global}
use Rattle.rtrb.specs.Ring.{IsPair, ConsumerLooked, ProducerLooked}
use Rattle.rtrb.specs.declared.producer.Producer.{Producer}
use Rattle.rtrb.specs.declared.consumer.Consumer.{Consumer}
use Rattle.rtrb.specs.declared.AnyItems.{AnyItems}
use Rattle.sdf_rings.specs.Ends.{IsMet}

module _ {A T S : Type 0} where
  abbrev pub ring_node_at : List (Seat A T S) → ℕ → ℕ → Seat A T S → RingNode A T S → RingNode A T S
  ring_node_at seats i k e d = slice_index_or (slice_index_or seats i e).ring_nodes.items k d

  -- seat i has a ring node k
  abbrev pub HasRingNode : List (Seat A T S) → ℕ → ℕ → Type 0
  HasRingNode seats i k = (e : Seat A T S) → k < vec_len (slice_index_or seats i e).ring_nodes

  -- P is true of ring node k of seat i
  abbrev pub HoldsOfRingNode : (RingNode A T S → Type 0) → List (Seat A T S) → ℕ → ℕ → Type 0
  HoldsOfRingNode P seats i k = (e : Seat A T S) (d : RingNode A T S) → P (ring_node_at seats i k e d)

  -- two seats differ at most in their ring nodes
  pub record SameSeat (s t : Seat A T S) : Type 0 where
    pub processor_same : t.processor ≡ s.processor
    pub left_same : t.left ≡ s.left
    pub next_same : t.next ≡ s.next
    pub ring_nodes_same : vec_len t.ring_nodes ≡ vec_len s.ring_nodes

  -- ring node k of seat i is now x, and nothing else is changed
  pub record IsUpdated (old new : List (Seat A T S)) (i k : ℕ) (x : RingNode A T S) : Type 0 where
    pub len : length new ≡ length old
    pub seats : (j : ℕ) (e : Seat A T S) → SameSeat (slice_index_or old j e) (slice_index_or new j e)
    pub here : (e : Seat A T S) (d : RingNode A T S) → ring_node_at new i k e d ≡ x
    pub others : (j l : ℕ) (e : Seat A T S) (d : RingNode A T S) → ((j ≡ i) × (l ≡ k) → ⊥) →
        ring_node_at new j l e d ≡ ring_node_at old j l e d

  -- only ring node k of seat i is changed
  abbrev pub OnlyRingNode : List (Seat A T S) → List (Seat A T S) → ℕ → ℕ → Type 0
  OnlyRingNode old new i k = HoldsOfRingNode (IsUpdated old new i k) new i k

  -- only the consumers of ring node k of seat i are changed, and they are v now
  abbrev pub OnlyIns : List (Seat A T S) → List (Seat A T S) → ℕ → ℕ → Vec (Consumer T Global AnyItems) Global → Type 0
  OnlyIns old new i k v = HoldsOfRingNode (λ x. IsUpdated old new i k (record x { ins = v })) old i k

  abbrev pub consumer_at : List (Seat A T S) → RingEnd → Seat A T S → RingNode A T S → Consumer T Global AnyItems →
      Consumer T Global AnyItems
  consumer_at seats q e d x = slice_index_or (ring_node_at seats q.seat q.ring_node e d).ins.items q.port x

  abbrev pub producer_at : List (Seat A T S) → RingEnd → Seat A T S → RingNode A T S → Producer T Global AnyItems →
      Producer T Global AnyItems
  producer_at seats q e d x = slice_index_or (ring_node_at seats q.seat q.ring_node e d).outs.items q.port x

  -- P is true of the consumer at a place
  abbrev pub HoldsOfConsumer : (Consumer T Global AnyItems → Type 0) → List (Seat A T S) → RingEnd → Type 0
  HoldsOfConsumer P seats q = (e : Seat A T S) (d : RingNode A T S) (x : Consumer T Global AnyItems) →
      P (consumer_at seats q e d x)

  -- P is true of the producer at a place
  abbrev pub HoldsOfProducer : (Producer T Global AnyItems → Type 0) → List (Seat A T S) → RingEnd → Type 0
  HoldsOfProducer P seats q = (e : Seat A T S) (d : RingNode A T S) (y : Producer T Global AnyItems) →
      P (producer_at seats q e d y)

  -- the producer at a place looked for room
  abbrev pub ProducerLookedAt : List (Seat A T S) → List (Seat A T S) → RingEnd → Type 0
  ProducerLookedAt old new q = (e : Seat A T S) (d : RingNode A T S) (y : Producer T Global AnyItems) →
      ProducerLooked (producer_at old q e d y) (producer_at new q e d y)

  -- only the producer at a place is changed
  abbrev pub OnlyProducer : List (Seat A T S) → List (Seat A T S) → RingEnd → Type 0
  OnlyProducer old new q = (e : Seat A T S) (d : RingNode A T S) (y : Producer T Global AnyItems) →
      IsUpdated old new q.seat q.ring_node (record (ring_node_at old q.seat q.ring_node e d) {
        outs = with_item (ring_node_at old q.seat q.ring_node e d).outs q.port (producer_at new q e d y);
      })

  -- two ring nodes differ at most in their ends
  pub record SameRingNode (s t : RingNode A T S) : Type 0 where
    pub actor_same : t.actor ≡ s.actor
    pub state_same : t.state ≡ s.state
    pub takes_same : t.takes ≡ s.takes
    pub puts_same : t.puts ≡ s.puts
    pub taken_same : t.taken ≡ s.taken
    pub put_same : t.put ≡ s.put
    pub done_same : t.done ≡ s.done
    pub asked_same : t.asked ≡ s.asked
    pub ins_len_same : vec_len t.ins ≡ vec_len s.ins
    pub outs_len_same : vec_len t.outs ≡ vec_len s.outs

  -- a place for a consumer
  pub record TakesAt (seats : List (Seat A T S)) (q : RingEnd) : Type 0 where
    pub seat_in : q.seat < length seats
    pub ring_node_in : HasRingNode seats q.seat q.ring_node
    pub port_in : HoldsOfRingNode (λ x. q.port < vec_len x.ins) seats q.seat q.ring_node

  -- a place for a producer
  pub record PutsAt (seats : List (Seat A T S)) (q : RingEnd) : Type 0 where
    pub seat_in : q.seat < length seats
    pub ring_node_in : HasRingNode seats q.seat q.ring_node
    pub port_in : HoldsOfRingNode (λ x. q.port < vec_len x.outs) seats q.seat q.ring_node

  -- the ring between two places
  pub record IsRing (seats : List (Seat A T S)) (from to : RingEnd) : Type 0 where
    pub puts_there : PutsAt seats from
    pub takes_there : TakesAt seats to
    pub pair_there : (e : Seat A T S) (d : RingNode A T S) (x : Consumer T Global AnyItems)
        (y : Producer T Global AnyItems) → IsPair (producer_at seats from e d y) (consumer_at seats to e d x)

  -- the ends of one ring were synchronized, and nothing else is changed
  pub record HasSynced (old new : List (Seat A T S)) (from to : RingEnd) : Type 0 where
    pub synced_len : length new ≡ length old
    pub synced_seats : (j : ℕ) (e : Seat A T S) → SameSeat (slice_index_or old j e) (slice_index_or new j e)
    pub synced_ring_nodes : (j l : ℕ) (e : Seat A T S) (d : RingNode A T S) →
        SameRingNode (ring_node_at old j l e d) (ring_node_at new j l e d)
    pub synced_consumer : (e : Seat A T S) (d : RingNode A T S) (x : Consumer T Global AnyItems) →
        ConsumerLooked (consumer_at old to e d x) (consumer_at new to e d x)
    pub synced_producer : ProducerLookedAt old new from
    pub met : (e : Seat A T S) (d : RingNode A T S) (x : Consumer T Global AnyItems) (y : Producer T Global AnyItems) →
        IsMet (producer_at new from e d y) (consumer_at new to e d x)
    pub other_consumers : (q : RingEnd) (e : Seat A T S) (d : RingNode A T S) (x : Consumer T Global AnyItems) →
        ((q.seat ≡ to.seat) × (q.ring_node ≡ to.ring_node) × (q.port ≡ to.port) → ⊥) →
        consumer_at new q e d x ≡ consumer_at old q e d x
    pub other_producers : (q : RingEnd) (e : Seat A T S) (d : RingNode A T S) (y : Producer T Global AnyItems) →
        ((q.seat ≡ from.seat) × (q.ring_node ≡ from.ring_node) × (q.port ≡ from.port) → ⊥) →
        producer_at new q e d y ≡ producer_at old q e d y

  -- everything except the ends is as it was
  pub record SameButEnds (old new : List (Seat A T S)) : Type 0 where
    pub all_same : length new ≡ length old
    pub each_seat : (j : ℕ) (e : Seat A T S) → SameSeat (slice_index_or old j e) (slice_index_or new j e)
    pub each_ring_node : (j l : ℕ) (e : Seat A T S) (d : RingNode A T S) →
        SameRingNode (ring_node_at old j l e d) (ring_node_at new j l e d)

  -- the items of one ring may be gone, and nothing else is changed
  pub record IsDrained (old new : List (Seat A T S)) (at : RingEnd) : Type 0 where
    pub but_ends : SameButEnds old new
    pub others_kept : (q : RingEnd) (e : Seat A T S) (d : RingNode A T S) (x : Consumer T Global AnyItems) →
        ((q.seat ≡ at.seat) × (q.ring_node ≡ at.ring_node) × (q.port ≡ at.port) → ⊥) →
        consumer_at new q e d x ≡ consumer_at old q e d x
