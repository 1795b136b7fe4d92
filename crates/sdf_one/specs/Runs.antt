-- The state of a run on one thread between two firings.
use Rattle.std.specs.Prelude.{◌≡◌, ℕ, ◌+◌, ◌*◌, ◌^◌, ◌≤◌, ◌<◌, List, [], length, drop, slice_index, slice_index_or}
use Rattle.std.specs.Prelude.{slice_set, vec_capacity}
use Rattle.std.specs.List.{flat_map}
use Rattle.std.specs.Global.{Global}
use Rattle.std.specs.declared.vec.Vec.{Vec}
use Rattle.sdf_actor.specs.declared.node.Node.{Node}
use Rattle.sdf_actor.specs.declared.node.Node.TheVariants as node
use Rattle.sdf_actor.specs.Steps.{Steps, phase, total_in, total_out, sum_in, sum_out, state_after}
use Rattle.sdf_actor.specs.Histories.{taken_before}
use Rattle.sdf_actor.specs.Nets.{Netlist, wiring, IsHistoryOf}
use Rattle.sdf_actor.specs.Nets as nets
use Rattle.sdf_actor.specs.Wires.{lists}
use Rattle.sdf_one.specs.declared.work.Work.{Work}
use Rattle.sdf_one.specs.declared.work.Work.TheVariants.{Source, Sink, Inner}
use Rattle.sdf_one.specs.declared.run.Run.{Run}
use Rattle.sdf_queues.specs.QueueValue.{QueueValue}
use Rattle.sdf_queues.specs.Blocks.{samples}
use Rattle.sdf_queues.specs.Lists.{list, capacity}
use Rattle.sdf_one.specs.Firings.{phase_at}

-- an actor's two blocks have room for a firing at each phase and for a whole cycle
pub record HasBlocks {A S T : Type 0} (s : Steps A S T) (x : A) (taken put : Vec T Global) : Type 0 where
  pub some : 0 < s.cycle x
  pub taken_fits : (j : ℕ) → j < s.cycle x → total_in s x j ≤ vec_capacity taken
  pub put_fits : (j : ℕ) → j < s.cycle x → total_out s x j ≤ length put.items
  pub taken_cycle : sum_in s x 0 (s.cycle x) ≤ vec_capacity taken
  pub put_cycle : sum_out s x 0 (s.cycle x) ≤ length put.items

-- a node's work after it took the blocks past, with room for `many` firings in all
abbrev pub IsWork : {A S T Z : Type 0} → Steps A S T → List (List T) → List (Vec T Z) → ℕ → Node A → List (List T) →
    Work A T S → Type 0
IsWork s inputs outputs many (node.Source ext block) past (Source e next size) =
    (e ≡ ext) × (ext < length inputs) × (next ≡ block * length past) × (size ≡ block)
    × (block * many ≤ length (slice_index_or inputs ext []))
IsWork s inputs outputs many (node.Sink ext block) past (Sink e) =
    (e ≡ ext) × (ext < length outputs) × (list outputs ext ≡ flat_map (λ b. b) past)
    × (block * many ≤ capacity outputs ext)
IsWork s inputs outputs many (node.Inner x) past (Inner actor j state taken put) =
    (actor.now ≡ x) × (j ≡ phase s x (length past)) × (state ≡ state_after s x past) × HasBlocks s x taken put
IsWork s inputs outputs many x past w = ⊥

-- after k a firings of each node a: a history, the queues with what is left of it, and each node's work
pub record IsState {A S T Z : Type 0} (s : Steps A S T) (n : Netlist A T) (inputs : List (List T)) (many k : ℕ → ℕ)
    (works : List (Work A T S)) (qs : List (QueueValue T)) (outputs : List (Vec T Z)) : Type 0 where
  pub history : ℕ → List T
  pub is : IsHistoryOf s n inputs k history
  pub channels : length qs ≡ length n.wires
  pub left : (c : ℕ) → c < length n.wires → samples qs c ≡
      drop ((wiring s n).rates.consumed c (k ((wiring s n).rates.target c))) (history c)
  pub nodes : length works ≡ length n.nodes
  pub each : (a : ℕ) (d : Work A T S) → a < length n.nodes →
      IsWork s inputs outputs (many a) (nets.node n a) (taken_before (wiring s n) history a (k a))
      (slice_index_or works a d)

-- a run after k a of the many a firings of each node a
abbrev pub IsRunAt : {A S T : Type 0} → Steps A S T → Run A T S → (ℕ → ℕ) → (ℕ → ℕ) → Type 0
IsRunAt s r many k = IsState s r.net.now (lists r.inputs.now) many k r.works.items r.queues.items r.outputs.items

-- P is true of the work of node a of a run
abbrev pub HoldsOfWork : {A S T : Type 0} → Run A T S → ℕ → (Work A T S → Type 0) → Type 0
HoldsOfWork {A} {S} {T} r a P = (d : Work A T S) → P (slice_index_or r.works.items a d)

-- node a of a run has its work and its sizes there, and `times` more of its firings can be counted
pub record IsInRun {A S T : Type 0} (r : Run A T S) (a times : ℕ) : Type 0 where
  pub known : a < length r.net.now.nodes
  pub worked : a < length r.works.items
  pub takes_known : HoldsOfWork r a (λ w. phase_at w < length r.sizes.takes)
  pub puts_known : HoldsOfWork r a (λ w. phase_at w < length r.sizes.puts)
  pub counted : a < length r.done.items
  pub few : slice_index r.done.items a + times < 2 ^ 63

-- `times` firings of node a change nothing that is not its own
pub record FiresAlone {A S T : Type 0} (r r' : Run A T S) (a times : ℕ) : Type 0 where
  pub net : r'.net ≡ r.net
  pub inputs : r'.inputs ≡ r.inputs
  pub sizes : r'.sizes ≡ r.sizes
  pub cycles : r'.cycles ≡ r.cycles
  pub repetitions : r'.repetitions ≡ r.repetitions
  pub periods : r'.periods ≡ r.periods
  pub high : r'.high ≡ r.high
  pub done : r'.done.items ≡ slice_set r.done.items a (slice_index r.done.items a + times)
  pub works : length r'.works.items ≡ length r.works.items
  pub queues : length r'.queues.items ≡ length r.queues.items
  pub outputs : length r'.outputs.items ≡ length r.outputs.items
  pub others : (b : ℕ) (d : Work A T S) → (a ≡ b → ⊥) →
      slice_index_or r'.works.items b d ≡ slice_index_or r.works.items b d

-- a node's work before its first firing
abbrev pub BeginsWork : {A S T : Type 0} → Steps A S T → Node A → Work A T S → Type 0
BeginsWork s (node.Source ext block) (Source e next size) = (e ≡ ext) × (next ≡ 0) × (size ≡ block)
BeginsWork s (node.Sink ext block) (Sink e) = e ≡ ext
BeginsWork s (node.Inner x) (Inner actor j state taken put) =
    (actor.now ≡ x) × (j ≡ 0) × (state ≡ s.start x) × HasBlocks s x taken put
BeginsWork s x w = ⊥

-- each node's work before its first firing
abbrev pub AllBeginWork : {A S T : Type 0} → Steps A S T → Netlist A T → List (Work A T S) → Type 0
AllBeginWork {A} {S} {T} s n works = (a : ℕ) (d : Work A T S) → a < length n.nodes →
    BeginsWork s (nets.node n a) (slice_index_or works a d)
