-- What lemmas of firings stand on together: a net, what a runner holds there, and the firings of one of its nodes.
use Rattle.std.proofs.Common.{◌≡◌, ℕ, ◌+◌, ◌≤◌, ◌<◌, List, length, get_or}
use Rattle.std.specs.declared.vec.Vec.{Vec}
use Rattle.sdf_actor.specs.declared.node.Node.TheVariants.{Inner}
use Rattle.sdf_actor.specs.Steps.{Steps}
use Rattle.sdf_actor.specs.Histories.{taken_before}
use Rattle.sdf_actor.specs.Nets.{Netlist, node, wiring}
use Rattle.sdf_queues.specs.QueueValue.{QueueValue}
use Rattle.sdf_queues.specs.Blocks.{room, HoldManyBlocks}
use Rattle.sdf_queues.specs.Sizes.{SizesValue, AreSizes}
use Rattle.sdf_one.specs.declared.cycles.Cycles.{Cycles}
use Rattle.sdf_one.specs.declared.work.Work.{Work}
use Rattle.sdf_one.specs.Cycles.{AreCycles}
use Rattle.sdf_one.specs.Many.{CanBatchCycles}
use Rattle.sdf_one.specs.Runs.{IsWork, IsState}
use Rattle.sdf_one.proofs.Known.{Known}

-- a net, with the sizes of each firing and of each cycle
pub record Sized (A S T : Type 0) : Type 0 where
  pub s : Steps A S T
  pub n : Netlist A T
  pub net : Known s n
  pub z : SizesValue
  pub sizes : AreSizes s n z
  pub y : Cycles
  pub cycles : AreCycles s n y

-- one of its actors
pub record ActorOf (A S T : Type 0) : Type 0 where
  pub base : Sized A S T
  pub open base use *
  pub a : ℕ
  pub known : a < length n.nodes
  pub x : A
  pub is : node n a ≡ Inner x

-- one of its nodes, and what a runner holds where each node b has fired k b times
pub record Holding (A S T Z : Type 0) : Type 0 where
  pub base : Sized A S T
  pub open base use *
  pub a : ℕ
  pub known : a < length n.nodes
  pub inputs : List (List T)
  pub many : ℕ → ℕ
  pub k : ℕ → ℕ
  pub works : List (Work A T S)
  pub qs : List (QueueValue T)
  pub outputs : List (Vec T Z)
  pub st : IsState s n inputs many k works qs outputs

-- node b there has this work
abbrev pub HasWork : {A S T Z : Type 0} → Holding A S T Z → ℕ → Work A T S → Type 0
HasWork g b = IsWork g.s g.inputs g.outputs (g.many b) (node g.n b)
    (taken_before (wiring g.s g.n) g.st.history b (g.k b))

-- the node, where it is an actor
abbrev pub actor_of : {A S T Z : Type 0} (g : Holding A S T Z) (x : A) → node g.n g.a ≡ Inner x → ActorOf A S T
actor_of g x is = record { base = g.base; a = g.a; known = g.known; x = x; is = is }

-- the counts m after so many firings of the node
pub record Ahead {A S T Z : Type 0} (g : Holding A S T Z) (times : ℕ) : Type 0 where
  pub m : ℕ → ℕ
  pub own : m g.a ≡ g.k g.a + times
  pub others : (b : ℕ) → (g.a ≡ b → ⊥) → m b ≡ g.k b
  pub below : (b : ℕ) → b < length g.n.nodes → m b ≤ g.many b
  -- the queues have room for all that is put until then, beside what stands there
  pub rooms : (c : ℕ) → c < length g.n.wires → let r = (wiring g.s g.n).rates in
      r.initial c + r.produced c (m (r.source c)) ≤ room g.qs c + r.consumed c (g.k (r.target c))

-- so many cycles of the node through its blocks
pub record Cycling {A S T Z : Type 0} (g : Holding A S T Z) : Type 0 where
  pub goes : (d : Work A T S) →
      CanBatchCycles g.s g.z (get_or g.works g.a d) ((wiring g.s g.n).ins g.a) ((wiring g.s g.n).outs g.a)
  pub times : ℕ
  pub held : HoldManyBlocks times ((wiring g.s g.n).ins g.a) g.y.takes.items g.qs

-- what a runner holds after firings of the node: the works of the others stay
pub record After {A S T Z : Type 0} (g : Holding A S T Z) : Type 0 where
  pub works : List (Work A T S)
  pub same_works : length works ≡ length g.works
  pub w : Work A T S
  pub its : (d : Work A T S) → get_or works g.a d ≡ w
  pub rest : (b : ℕ) (d : Work A T S) → (g.a ≡ b → ⊥) → get_or works b d ≡ get_or g.works b d
  pub qs : List (QueueValue T)
  pub same_queues : length qs ≡ length g.qs
