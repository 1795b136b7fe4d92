-- A run in blocks of periods. Its nodes fire in whatever order their samples come.
use Rattle.std.specs.Prelude.{◌≡◌, ℕ, ◌+◌, ◌*◌, ◌^◌, ◌≤◌, ◌<◌, Bool, false, IsTrue, List, length, slice_index}
use Rattle.std.specs.Prelude.{sum}
use Rattle.std.specs.declared.vec.Vec.{Vec}
use Rattle.sdf_graph.specs.Sequences.{IsRunnable}
use Rattle.sdf_actor.specs.Steps.{Steps}
use Rattle.sdf_actor.specs.Nets.{Netlist, wiring, IsNet, InputsReach}
use Rattle.sdf_actor.specs.Wires.{lists}
use Rattle.sdf_one.specs.declared.cycles.Cycles.{Cycles}
use Rattle.sdf_one.specs.declared.work.Work.{Work}
use Rattle.sdf_one.specs.declared.run.Run.{Run}
use Rattle.sdf_queues.specs.QueueValue.{QueueValue}
use Rattle.sdf_queues.specs.Blocks.{room, HoldManyBlocks, KeepRoom}
use Rattle.sdf_queues.specs.Sizes.{SizesValue, AreSizes, at_phase}
use Rattle.sdf_one.specs.Cycles.{AreCycles}
use Rattle.sdf_one.specs.Firings.{phase_at}
use Rattle.sdf_queues.specs.Periods.{AreApart, IsPaced}
use Rattle.sdf_one.specs.Runs.{IsState, HoldsOfWork}
use Rattle.sdf_queues.specs.RunResults.{periods_of}

-- each node a has fired done a times, at least low and at most high periods, and the queues have room for all up to
-- high
pub record Sweeps {A S T Z : Type 0} (s : Steps A S T) (n : Netlist A T) (inputs : List (List T)) (z : SizesValue)
    (y : Cycles) (q : List ℕ) (periods high : ℕ) (done : List ℕ) (works : List (Work A T S)) (qs : List (QueueValue T))
    (outputs : List (Vec T Z)) : Type 0 where
  pub good : IsNet s n
  pub apart : AreApart n
  pub sizes : AreSizes s n z
  pub cycles : AreCycles s n y
  pub reach : InputsReach n inputs (periods_of q periods)
  pub paced : IsPaced (wiring s n).rates q
  pub short : periods < 2 ^ 32
  pub under : high ≤ periods
  pub stands : IsState s n inputs (periods_of q periods) (slice_index done) works qs outputs
  pub all : length done ≡ length n.nodes
  pub low : ℕ
  pub from : (a : ℕ) → a < length n.nodes → low * slice_index q a ≤ slice_index done a
  pub to : (a : ℕ) → a < length n.nodes → slice_index done a ≤ high * slice_index q a
  pub fits : (c : ℕ) → c < length n.wires →
      let r = (wiring s n).rates in
      r.initial c + r.produced c (high * slice_index q (r.source c)) ≤
      room qs c + r.consumed c (low * slice_index q (r.target c))

-- Sweeps is true of a run
abbrev pub IsSwept : {A S T : Type 0} → Steps A S T → Run A T S → Type 0
IsSwept s r = Sweeps s r.net.now (lists r.inputs.now) r.sizes r.cycles r.repetitions.now r.periods r.high r.done.items
    r.works.items r.queues.items r.outputs.items

-- a node may fire within the block
abbrev pub MayFire : {A S T : Type 0} → Steps A S T → Run A T S → ℕ → Type 0
MayFire s r a = IsRunnable (wiring s r.net.now).rates (periods_of r.repetitions.now r.high) (slice_index r.done.items) a

-- node a has `many` firings left within the block
abbrev pub IsLeft : {A S T : Type 0} → Run A T S → ℕ → ℕ → Type 0
IsLeft r a many = slice_index r.done.items a + many ≡ r.high * slice_index r.repetitions.now a

-- each channel into node a holds what `times` firings take
abbrev pub AreHeld : {A S T : Type 0} → Steps A S T → Run A T S → ℕ → ℕ → Type 0
AreHeld s r a times = HoldsOfWork r a (λ w.
    HoldManyBlocks times ((wiring s r.net.now).ins a) (at_phase r.sizes.takes (phase_at w)) r.queues.items)

-- the queues have room for a block of `size` periods
abbrev pub HasRoom : {A S T : Type 0} → Steps A S T → ℕ → Run A T S → Type 0
HasRoom s size r =
    (c : ℕ) → c < length r.net.now.wires →
    (wiring s r.net.now).rates.initial c + size * (wiring s r.net.now).rates.produced c
    (slice_index r.repetitions.now ((wiring s r.net.now).rates.source c)) ≤ room r.queues.items c

-- what firings do not change
pub record Keeps {A S T : Type 0} (r r' : Run A T S) : Type 0 where
  pub net : r'.net ≡ r.net
  pub inputs : r'.inputs ≡ r.inputs
  pub repetitions : r'.repetitions ≡ r.repetitions
  pub periods : r'.periods ≡ r.periods
  pub outputs : length r'.outputs.items ≡ length r.outputs.items
  pub queues : length r'.queues.items ≡ length r.queues.items
  pub rooms : KeepRoom r.queues.items r'.queues.items

-- what firings do in the block: Keeps is true, and moved says whether there were any
pub record IsMoved {A S T : Type 0} (r r' : Run A T S) (moved : Bool) : Type 0 where
  pub keeps : Keeps r r'
  pub high : r'.high ≡ r.high
  pub rises : sum r.done.items ≤ sum r'.done.items
  pub moves : IsTrue moved → sum r.done.items < sum r'.done.items
  pub stays : moved ≡ false → r'.done.items ≡ r.done.items
