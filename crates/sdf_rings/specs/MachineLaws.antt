-- The laws of the ring machine, of every net and every valid table of its firings.
use Rattle.std.specs.Prelude.{◌≡◌, ℕ, ◌+◌, ◌-◌, ◌*◌, ◌⊎◌, ◌≤◌, ◌<◌, List, [], ◌∷◌, ◌++◌, length, take, slice_index}
use Rattle.std.specs.Prelude.{slice_index_or, zero, suc}
use Rattle.std.specs.List.{between}
use Rattle.sdf_graph.specs.Rates.{Rates, IsAlike, IsSound}
use Rattle.sdf_graph.specs.Sequences.{IsPeriod}
use Rattle.sdf_prec.specs.Blocks.{block}
use Rattle.sdf_prec.specs.Tables.{TableValue, IsTable}
use Rattle.sdf_actor.specs.declared.node.Node.{Node}
use Rattle.sdf_actor.specs.declared.node.Node.TheVariants.{Source, Sink, Inner}
use Rattle.sdf_actor.specs.Steps.{Steps, phase, state_from, state_after}
use Rattle.sdf_actor.specs.Histories.{Wiring, put, taken, taken_before}
use Rattle.sdf_actor.specs.Nets.{Netlist, node, answers, wiring, IsNet, IsHistoryOf, InputsReach}
use Rattle.sdf_rings.specs.Machine.{Machine, Event, put_on, taken_from, at_start, IsAllowed, IsRun, after}

-- a period of a graph (its firings by actor), how many periods make a block, and a table of a block's firings on
-- `width` processors
pub record MachinePlan : Type 0 where
  pub rates : Rates
  pub period : List ℕ
  pub blocking : ℕ
  pub width : ℕ
  pub table : TableValue

-- the graph is the net's, and the table is valid. Its actors need not have homes: the laws are true of each valid table
pub record IsMachinePlan {A S T : Type 0} (s : Steps A S T) (n : Netlist A T) (p : MachinePlan) : Type 0 where
  pub net : IsNet s n
  pub alike : IsAlike p.rates (wiring s n).rates
  pub sound : IsSound p.rates
  pub period : IsPeriod p.rates (slice_index p.period)
  pub table : IsTable p.rates (slice_index (block p.blocking p.period)) p.width p.table

-- how often each actor fires in b blocks, and what each channel may hold: its capacity in the table
abbrev pub firings : MachinePlan → ℕ → ℕ → ℕ
firings p b a = b * slice_index (block p.blocking p.period) a

abbrev pub capacity : MachinePlan → ℕ → ℕ
capacity p = slice_index p.table.caps

-- a run of b blocks, and where it leads
abbrev pub IsRunOf : {A S T : Type 0} → Steps A S T → Netlist A T → List (List T) → MachinePlan → ℕ → List Event →
    Type 0
IsRunOf s n inputs p b es = IsRun (wiring s n) (answers s n inputs) (firings p b) (capacity p)
    (at_start (wiring s n)) es

abbrev pub reached : {A S T : Type 0} → Steps A S T → Netlist A T → List (List T) → List Event → Machine T
reached s n inputs es = after (wiring s n) (answers s n inputs) (at_start (wiring s n)) es

-- what a run has put on each channel is as long as its blocks, and a prefix of the history at all blocks' counts
abbrev pub RunsPutPrefixes : {A S T : Type 0} → Steps A S T → Type 0
RunsPutPrefixes {A} {S} {T} s =
    (n : Netlist A T) (inputs : List (List T)) (p : MachinePlan) (b : ℕ) (V : ℕ → List T) (es : List Event) →
    IsMachinePlan s n p → IsHistoryOf s n inputs (firings p b) V → IsRunOf s n inputs p b es → (c : ℕ) →
    c < length n.wires →
    ((reached s n inputs es).lists c ≡ take (length ((reached s n inputs es).lists c)) (V c)) ×
    (length ((reached s n inputs es).lists c) ≡ put_on (wiring s n) (reached s n inputs es) c)

-- no channel holds more than its capacity
abbrev pub IsWithin : {A S T : Type 0} → Steps A S T → Netlist A T → (ℕ → ℕ) → Machine T → Type 0
IsWithin s n cap m = (c : ℕ) → c < length n.wires → length (m.lists c) ≤ cap c + taken_from (wiring s n) m c

abbrev pub RunsKeepWithin : {A S T : Type 0} → Steps A S T → Type 0
RunsKeepWithin {A} {S} {T} s =
    (n : Netlist A T) (inputs : List (List T)) (p : MachinePlan) (b : ℕ) (es : List Event) →
    IsMachinePlan s n p → InputsReach n inputs (firings p b) → IsRunOf s n inputs p b es →
    IsWithin s n (capacity p) (reached s n inputs es)

-- each channel has moved all the blocks of k firings
abbrev pub IsOver : {A S T : Type 0} → Steps A S T → Netlist A T → (ℕ → ℕ) → Machine T → Type 0
IsOver s n k m =
    (c : ℕ) → c < length n.wires → (m.took c ≡ k ((wiring s n).rates.target c))
    × (m.gave c ≡ k ((wiring s n).rates.source c))

-- all blocks have moved, or some event is allowed
abbrev pub RunsGoOn : {A S T : Type 0} → Steps A S T → Type 0
RunsGoOn {A} {S} {T} s =
    (n : Netlist A T) (inputs : List (List T)) (p : MachinePlan) (b : ℕ) (es : List Event) →
    IsMachinePlan s n p → IsRunOf s n inputs p b es →
    IsOver s n (firings p b) (reached s n inputs es)
    ⊎ ((e : Event) × IsAllowed (wiring s n) (firings p b) (capacity p) (reached s n inputs es) e)

-- how many blocks of k firings have still to move at the channels below the given number
abbrev pub blocks_left : {A : Type 0} → Wiring A → (ℕ → ℕ) → Machine A → ℕ → ℕ
blocks_left f k m zero = 0
blocks_left f k m (suc c) = blocks_left f k m c + ((k (f.rates.target c) - m.took c)
    + (k (f.rates.source c) - m.gave c))

-- each event moves one block, so no run has more events than there are blocks
abbrev pub RunsMoveBlocks : {A S T : Type 0} → Steps A S T → Type 0
RunsMoveBlocks {A} {S} {T} s =
    (n : Netlist A T) (inputs : List (List T)) (p : MachinePlan) (b : ℕ) (es : List Event) → IsMachinePlan s n p →
    IsRunOf s n inputs p b es →
    length es + blocks_left (wiring s n) (firings p b) (reached s n inputs es) (length n.wires) ≡
    blocks_left (wiring s n) (firings p b) (at_start (wiring s n)) (length n.wires)

-- when all blocks have moved, each channel was given its history
abbrev pub RunsEndInHistories : {A S T : Type 0} → Steps A S T → Type 0
RunsEndInHistories {A} {S} {T} s =
    (n : Netlist A T) (inputs : List (List T)) (p : MachinePlan) (b : ℕ) (V : ℕ → List T) (es : List Event) →
    IsMachinePlan s n p → IsHistoryOf s n inputs (firings p b) V → IsRunOf s n inputs p b es →
    IsOver s n (firings p b) (reached s n inputs es) →
    (c : ℕ) → c < length n.wires → (reached s n inputs es).lists c ≡ V c

-- an actor never waits for a channel to itself. Once the turn of a block has come, its samples are there for the take,
-- and the room for the put
abbrev pub OwnNeverWaits : {A S T : Type 0} → Steps A S T → Type 0
OwnNeverWaits {A} {S} {T} s =
    (n : Netlist A T) (p : MachinePlan) (b : ℕ) (m : Machine T) (c : ℕ) →
    IsMachinePlan s n p → c < length n.wires → (wiring s n).rates.source c ≡ (wiring s n).rates.target c →
    (m.took c < firings p b ((wiring s n).rates.target c) → m.took c ≤ m.gave c →
    (wiring s n).rates.consumed c (m.took c + 1) ≤ put_on (wiring s n) m c) ×
    (m.gave c < firings p b ((wiring s n).rates.source c) → m.gave c < m.took c →
    (wiring s n).rates.initial c + (wiring s n).rates.produced c (m.gave c + 1) ≤
    capacity p c + taken_from (wiring s n) m c)

-- all actors are idle: how often each has fired, its state, and what each channel was given
pub record Idle (S T : Type 0) : Type 0 where
  pub done : ℕ → ℕ
  pub states : ℕ → S
  pub lists : ℕ → List T

-- the machine when all actors are idle: what was taken and put is the blocks of the firings that are done
abbrev pub resting : {A S T : Type 0} → Steps A S T → Netlist A T → Idle S T → Machine T
resting s n x = record {
  took = λ c. x.done ((wiring s n).rates.target c);
  gave = λ c. x.done ((wiring s n).rates.source c);
  lists = x.lists;
}

-- the state of a node after it took these blocks, a firing each, from firing i and a state on. Sources and sinks have
-- none
abbrev pub state_on : {A S T : Type 0} → Steps A S T → Node A → ℕ → S → List (List T) → S
state_on s (Source ext size) i state blocks = state
state_on s (Sink ext size) i state blocks = state
state_on s (Inner x) i state blocks = state_from s x i state blocks

-- what firing i of a node puts, from a state and the block that it takes
abbrev pub put_from : {A S T : Type 0} → Steps A S T → List (List T) → Node A → ℕ → S → List T → List T
put_from s inputs (Source ext size) i state now = between (size * i) (size * (i + 1)) (slice_index_or inputs ext [])
put_from s inputs (Sink ext size) i state now = []
put_from s inputs (Inner x) i state now = s.puts x (phase s x i) state now

-- the state of a node after the first i firings on lists V
abbrev pub IsStateOf : {A S T : Type 0} → Steps A S T → Node A → List (List T) → S → Type 0
IsStateOf s (Source ext size) past state = Unit {0}
IsStateOf s (Sink ext size) past state = Unit {0}
IsStateOf s (Inner x) past state = state ≡ state_after s x past

-- quiescent: the lists and the states are those of the history at the counts, and no channel is above its capacity
pub record IsQuiescent {A S T : Type 0} (s : Steps A S T) (n : Netlist A T) (inputs : List (List T)) (cap : ℕ → ℕ)
    (x : Idle S T) : Type 0 where
  pub history : IsHistoryOf s n inputs x.done x.lists
  pub states : (a : ℕ) → a < length n.nodes → IsStateOf s (node n a)
      (taken_before (wiring s n) x.lists a (x.done a)) (x.states a)
  pub within : IsWithin s n cap (resting s n x)

-- what j firings of an actor take, from firing i on
abbrev pub taken_on : {A : Type 0} → Wiring A → (ℕ → List A) → ℕ → ℕ → ℕ → List (List A)
taken_on f V a i zero = []
taken_on f V a i (suc j) = taken_on f V a i j ++ taken f V a (i + j) ∷ []

-- from x to y each node has put what its steps make of the whole blocks that it took. It knows no more than its own
-- channels
pub record HasGrown {A S T : Type 0} (s : Steps A S T) (n : Netlist A T) (inputs : List (List T))
    (x y : Idle S T) : Type 0 where
  pub more : (a : ℕ) → a < length n.nodes → x.done a ≤ y.done a
  -- each list has grown by a block a firing
  pub kept : (c : ℕ) → c < length n.wires → x.lists c ≡ take (length (x.lists c)) (y.lists c)
  pub lengths : (c : ℕ) → c < length n.wires → length (y.lists c) ≡ put_on (wiring s n) (resting s n y) c
  -- no more was taken than was put
  pub enough : (c : ℕ) → c < length n.wires → taken_from (wiring s n) (resting s n y) c ≤ length (y.lists c)
  -- the state, and what each firing put
  pub states : (a : ℕ) → a < length n.nodes →
      y.states a ≡ state_on s (node n a) (x.done a) (x.states a)
      (taken_on (wiring s n) y.lists a (x.done a) (y.done a - x.done a))
  pub puts : (a j : ℕ) → a < length n.nodes → x.done a + j < y.done a →
      put (wiring s n) y.lists a (x.done a + j) ≡
      put_from s inputs (node n a) (x.done a + j) (state_on s (node n a) (x.done a) (x.states a)
      (taken_on (wiring s n) y.lists a (x.done a) j)) (taken (wiring s n) y.lists a (x.done a + j))

-- the channels of two machines are alike
pub record IsLike {A T : Type 0} (n : Netlist A T) (d e : Machine T) : Type 0 where
  pub took : (c : ℕ) → c < length n.wires → d.took c ≡ e.took c
  pub gave : (c : ℕ) → c < length n.wires → d.gave c ≡ e.gave c
  pub lists : (c : ℕ) → c < length n.wires → d.lists c ≡ e.lists c

-- if a state is quiescent, what each node knows of itself suffices for the next state to be quiescent. A run of the
-- machine leads to it
abbrev pub QuiescentReached : {A S T : Type 0} → Steps A S T → Type 0
QuiescentReached {A} {S} {T} s =
    (n : Netlist A T) (inputs : List (List T)) (p : MachinePlan) (b : ℕ) (x y : Idle S T) →
    IsMachinePlan s n p → IsQuiescent s n inputs (capacity p) x → HasGrown s n inputs x y →
    ((a : ℕ) → a < length n.nodes → y.done a ≤ firings p b a) → IsWithin s n (capacity p) (resting s n y) →
    IsQuiescent s n inputs (capacity p) y ×
    ((es : List Event) × IsRun (wiring s n) (answers s n inputs) (firings p b) (capacity p) (resting s n x) es ×
    IsLike n (after (wiring s n) (answers s n inputs) (resting s n x) es) (resting s n y))

-- a run of b blocks leads to a state where all actors are idle
abbrev pub IsReached : {A S T : Type 0} → Steps A S T → Netlist A T → List (List T) → MachinePlan → ℕ → Idle S T →
    Type 0
IsReached s n inputs p b x = (es : List Event) × IsRunOf s n inputs p b es
    × IsLike n (reached s n inputs es) (resting s n x)

-- a run from the start leads to each quiescent state with no more firings than those of the blocks
abbrev pub QuiescentIsReached : {A S T : Type 0} → Steps A S T → Type 0
QuiescentIsReached {A} {S} {T} s =
    (n : Netlist A T) (inputs : List (List T)) (p : MachinePlan) (b : ℕ) (x : Idle S T) →
    IsMachinePlan s n p → IsQuiescent s n inputs (capacity p) x →
    ((a : ℕ) → a < length n.nodes → x.done a ≤ firings p b a) →
    IsReached s n inputs p b x
