-- The number of warm-up periods that a net needs.
use Rattle.std.specs.Prelude.{◌≡◌, ℕ, ◌+◌, ◌*◌, ◌≤◌, ◌<◌, ◌⊎◌, List, [], ◌∷◌, length, set, slice_index}
use Rattle.sdf_limits.specs.declared.TheConstants.{MAX_INITIAL}
use Rattle.sdf_graph.specs.Rates.{Rates, GraphValue, ChannelValue, rates, channel, rate_at, sum_to, IsCycle}
use Rattle.sdf_actor.specs.Graphs.{graph_of}
use Rattle.sdf_actor.specs.Nets.{Netlist, node}
use Rattle.sdf_actor.specs.Steps.{Steps}
use Rattle.sdf_queues.specs.RunResults.{periods_of}
use Rattle.sdf_warm_up.specs.declared.warm_up.TheConstants.{MAX_FIRINGS}
use Rattle.sdf_warm_up.specs.declared.warm_up.Move.{Move}
use Rattle.sdf_warm_up.specs.declared.warm_up.Move.TheVariants.{Stays, MovesOn, TooFar}
use Rattle.sdf_warm_up.specs.Warm.{NodeForgets, IsLeast, IsWarm, StaysCold, HasLoop}

-- this number of periods of repetition vector q is enough for a net to be warm
pub record WarmsIn {A S T : Type 0} (s : Steps A S T) (n : Netlist A T) (q : List ℕ) (periods : ℕ) : Type 0 where
  pub memory : ℕ → ℕ
  pub since : ℕ → ℕ
  pub is : IsWarm s n (periods_of q periods) memory since

-- numbers of firings, one for each actor, each at most MAX_FIRINGS
pub record AreFirings (actors : ℕ) (firings : List ℕ) : Type 0 where
  pub all : length firings ≡ actors
  pub few : (a : ℕ) → a < actors → slice_index firings a ≤ MAX_FIRINGS

-- the memory of each node, in firings
abbrev pub AreMemories : {A S T : Type 0} → Steps A S T → Netlist A T → List ℕ → Type 0
AreMemories s n memory =
    (a : ℕ) → a < length n.nodes → IsLeast (NodeForgets s (node n a)) (slice_index memory a)

-- a channel of a graph with this number of actors
pub record IsChannel (actors : ℕ) (e : ChannelValue) : Type 0 where
  pub from_in : e.from < actors
  pub to_in : e.to < actors
  pub put : (n : ℕ) × IsCycle n e.put
  pub take : (n : ℕ) × IsCycle n e.take
  pub initial_small : e.initial ≤ MAX_INITIAL

-- the number of cold samples of a channel: its initial samples, and what its source puts before it has forgotten what
-- it took before its firing since
abbrev pub cold : ChannelValue → (ℕ → ℕ) → (ℕ → ℕ) → ℕ
cold e memory since = e.initial + sum_to (rate_at e.put) (since e.from + memory e.from)

-- a channel is late: its target takes no cold sample from its firing since on
abbrev pub IsLate : ChannelValue → (ℕ → ℕ) → (ℕ → ℕ) → Type 0
IsLate e memory since = cold e memory since ≤ sum_to (rate_at e.take) (since e.to)

-- each channel is late
abbrev pub AreLate : GraphValue → (ℕ → ℕ) → (ℕ → ℕ) → Type 0
AreLate g memory since = (c : ℕ) → c < length g.channels → IsLate (channel g c) memory since

-- these firings come no later than any at which all channels are late
abbrev pub AreEarly : GraphValue → (ℕ → ℕ) → List ℕ → Type 0
AreEarly g memory firings =
    (since : ℕ → ℕ) → AreLate g memory since → (a : ℕ) → a < g.actors → slice_index firings a ≤ since a

-- an actor has moved this amount of samples only after more than MAX_FIRINGS firings
abbrev pub AreFar : List ℕ → ℕ → Type 0
AreFar rates amount = (i : ℕ) → amount ≤ sum_to (rate_at rates) i → MAX_FIRINGS < i

-- no firings up to `most` make all channels late
abbrev pub NoneIsLate : GraphValue → (ℕ → ℕ) → ℕ → Type 0
NoneIsLate g memory most =
    (since : ℕ → ℕ) → AreLate g memory since → ((a : ℕ) → a < g.actors → since a ≤ most) → ⊥

-- a walk over channels, by the actors that it leaves, the last one first, and the actor at which it ends
pub data Walk (r : Rates) : List ℕ → ℕ → Type 0 where
  start : (a : ℕ) → a < r.actors → Walk r [] a
  on : (c : ℕ) (past : List ℕ) → c < r.channels → Walk r past (r.source c) → Walk r (r.source c ∷ past) (r.target c)

-- a walk of at least n channels ends at this actor
pub record EndsWalk (r : Rates) (n a : ℕ) : Type 0 where
  pub past : List ℕ
  pub long : n ≤ length past
  pub walk : Walk r past a

-- a walk of n channels ends at the source of each channel that is not late
abbrev pub AreBehind : GraphValue → (ℕ → ℕ) → List ℕ → ℕ → Type 0
AreBehind g memory since n = (c : ℕ) → c < length g.channels →
    IsLate (channel g c) memory (slice_index since) ⊎ EndsWalk (rates g) n (channel g c).from

-- the target's firing is the first at which the channel is late, and later than it was
pub record IsMovedOn (e : ChannelValue) (memory : ℕ → ℕ) (old new : List ℕ) : Type 0 where
  pub firing : ℕ
  pub is : new ≡ set old e.to firing
  pub later : slice_index old e.to < firing
  pub most : firing ≤ MAX_FIRINGS
  pub late : cold e memory (slice_index old) ≤ sum_to (rate_at e.take) firing
  pub first : (i : ℕ) → cold e memory (slice_index old) ≤ sum_to (rate_at e.take) i → firing ≤ i

-- how the target of a channel was moved on
abbrev pub IsMove : ChannelValue → (ℕ → ℕ) → List ℕ → List ℕ → Move → Type 0
IsMove e memory old new Stays = (new ≡ old) × IsLate e memory (slice_index old)
IsMove e memory old new MovesOn = IsMovedOn e memory old new
IsMove e memory old new TooFar = (new ≡ old) × AreFar e.take (cold e memory (slice_index old))

-- how a pass over all channels moved their targets on; each pass that moves one has seen longer walks
abbrev pub IsPass : GraphValue → (ℕ → ℕ) → List ℕ → List ℕ → Move → Type 0
IsPass g memory old new Stays = AreLate g memory (slice_index new)
IsPass g memory old new MovesOn =
    (n : ℕ) → AreBehind g memory old n → AreBehind g memory new (n + 1) × ((a : ℕ) × EndsWalk (rates g) (n + 1) a)
IsPass g memory old new TooFar = NoneIsLate g memory MAX_FIRINGS

-- what is known after many passes, by the move of the last one
abbrev pub IsEnd : GraphValue → (ℕ → ℕ) → List ℕ → Move → Type 0
IsEnd g memory new Stays = AreLate g memory (slice_index new)
IsEnd g memory new MovesOn = HasLoop (rates g)
IsEnd g memory new TooFar = NoneIsLate g memory MAX_FIRINGS

-- in this number of periods each actor fires at least since times, and then memory times
abbrev pub AreWithin : List ℕ → ℕ → List ℕ → List ℕ → Type 0
AreWithin q periods memory since =
    (a : ℕ) → a < length q → slice_index since a + slice_index memory a ≤ periods * slice_index q a

-- Why a net has no warm-up: samples go round in a loop, or the net is warm only after more than MAX_FIRINGS firings of
-- some node, if ever. (With an actor that keeps samples for ever, it stays cold.)
abbrev pub IsLasting : {A S T : Type 0} → Steps A S T → Netlist A T → Type 0
IsLasting s n = HasLoop (rates (graph_of s n)) ⊎ StaysCold s n MAX_FIRINGS
