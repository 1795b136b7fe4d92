-- Actors that forget, and the firing from which each actor of a net started late does what it does in a run from the
-- start. Gordon, Thies and Amarasinghe (2006) split actors without state (fission). Here a whole net is split in time,
-- and its actors may keep what they soon forget.
use Rattle.std.specs.Prelude.{◌≡◌, ℕ, ◌+◌, ◌≤◌, ◌<◌, List, [], ◌++◌, length, slice_index_or}
use Rattle.sdf_graph.specs.Rates.{Rates}
use Rattle.sdf_actor.specs.declared.node.Node.{Node}
use Rattle.sdf_actor.specs.declared.node.Node.TheVariants.{Source, Sink, Inner}
use Rattle.sdf_actor.specs.Steps.{Steps, phase, total_in, state_after}
use Rattle.sdf_actor.specs.Nets.{Netlist, node, wiring}

-- these blocks have the lengths that an actor takes, from its first firing on
abbrev pub AreTaken : {A S T : Type 0} → Steps A S T → A → List (List T) → Type 0
AreTaken s x past =
    (i : ℕ) → i < length past → length (slice_index_or past i []) ≡ total_in s x (phase s x i)

-- an actor remembers no more than its last m firings: whatever it took before them, its state is the same
abbrev pub Forgets : {A S T : Type 0} → Steps A S T → A → ℕ → Type 0
Forgets {A} {S} {T} s x m =
    (early other later : List (List T)) → phase s x (length early) ≡ phase s x (length other) → m ≤ length later →
    AreTaken s x (early ++ later) → AreTaken s x (other ++ later) →
    state_after s x (early ++ later) ≡ state_after s x (other ++ later)

-- the least number with a property
pub record IsLeast (P : ℕ → Type 0) (m : ℕ) : Type 0 where
  pub is : P m
  pub least : (k : ℕ) → P k → m ≤ k

-- sources and sinks keep nothing
abbrev pub NodeForgets : {A S T : Type 0} → Steps A S T → Node A → ℕ → Type 0
NodeForgets s (Source ext block) m = Unit {0}
NodeForgets s (Sink ext block) m = Unit {0}
NodeForgets s (Inner x) m = Forgets s x m

-- Each node a fires k a times on the last part of the input alone. From its firing since a on, it takes only samples of
-- the run from the start. After memory a firings more it has forgotten all others, and puts what it puts in that run.
-- (A net with a lasting loop has no numbers like these: each would have to be greater than itself.)
pub record IsWarm {A S T : Type 0} (s : Steps A S T) (n : Netlist A T) (k memory since : ℕ → ℕ) : Type 0 where
  pub forgets : (a : ℕ) → a < length n.nodes → NodeForgets s (node n a) (memory a)
  pub takes : (c : ℕ) → c < length n.wires →
      let r = (wiring s n).rates in
      r.initial c + r.produced c (since (r.source c) + memory (r.source c)) ≤ r.consumed c (since (r.target c))
  pub within : (a : ℕ) → a < length n.nodes → since a + memory a ≤ k a

-- no counts of at most `most` firings of each node warm the net up
abbrev pub StaysCold : {A S T : Type 0} → Steps A S T → Netlist A T → ℕ → Type 0
StaysCold s n most =
    (k memory since : ℕ → ℕ) → IsWarm s n k memory since → ((a : ℕ) → a < length n.nodes → k a ≤ most) → ⊥

-- one channel or more lead from one actor to another
pub data Leads (r : Rates) : ℕ → ℕ → Type 0 where
  one : (c : ℕ) → c < r.channels → Leads r (r.source c) (r.target c)
  more : (a c : ℕ) → c < r.channels → Leads r a (r.source c) → Leads r a (r.target c)

-- a loop, in which samples may go round for ever: channels lead from an actor back to it
pub record HasLoop (r : Rates) : Type 0 where
  pub actor : ℕ
  pub back : Leads r actor actor
