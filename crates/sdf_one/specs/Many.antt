-- Firings of an actor through its blocks, in equal parts: each a firing or a cycle. When they can be done, and what
-- they do.
use Rattle.std.specs.Prelude.{◌≡◌, ℕ, ◌+◌, ◌*◌, ◌%◌, ◌^◌, ◌≤◌, ◌<◌, List, [], ◌++◌, length, drop}
use Rattle.std.specs.Prelude.{slice_index, slice_index_or, vec_capacity}
use Rattle.std.specs.List.{sum_by}
use Rattle.sdf_actor.specs.Steps.{Steps, sum_in, sum_out, state_at, puts_to}
use Rattle.sdf_actor.specs.Nets.{node, wiring, cycle_of}
use Rattle.sdf_one.specs.declared.work.Work.{Work}
use Rattle.sdf_one.specs.declared.work.Work.TheVariants.{Inner}
use Rattle.sdf_one.specs.declared.run.Run.{Run}
use Rattle.sdf_queues.specs.QueueValue.{QueueValue}
use Rattle.sdf_node.specs.Many.{joined}
use Rattle.sdf_queues.specs.Blocks.{samples, at_ports, front_at, dealt, ArePorts, HoldManyBlocks, HaveRoomForMany}
use Rattle.sdf_queues.specs.Blocks.{KeepRoom}
use Rattle.sdf_queues.specs.Sizes.{SizesValue, at_phase}
use Rattle.sdf_one.specs.Firings.{phase_at}
use Rattle.sdf_one.specs.Cycles.{AreRowsAt, IsInTurn}
use Rattle.sdf_one.specs.Runs.{HoldsOfWork, IsInRun, FiresAlone}

-- there are sizes for each phase of an actor's cycle
abbrev pub HasRows : {A S T : Type 0} → Steps A S T → SizesValue → Work A T S → List ℕ → List ℕ → Type 0
HasRows s z (Inner actor phase state taken put) ins outs =
    AreRowsAt ins z.takes (s.cycle actor.now) × AreRowsAt outs z.puts (s.cycle actor.now)
HasRows s z w ins outs = Unit {0}

-- an actor at the beginning of its cycle. Its ports are served in turn, and it puts on no channel that it takes from
abbrev pub CanBatchCycles : {A S T : Type 0} → Steps A S T → SizesValue → Work A T S → List ℕ → List ℕ → Type 0
CanBatchCycles s z (Inner actor phase state taken put) ins outs =
    (phase ≡ 0) × ((i j : ℕ) → i < length ins → j < length outs → slice_index ins i ≡ slice_index outs j → ⊥)
    × IsInTurn ins z.takes (s.cycle actor.now) × IsInTurn outs z.puts (s.cycle actor.now)
CanBatchCycles s z w ins outs = ⊥

-- a cycle takes `many` samples and puts `more`: the actor's blocks have room for `times` cycles
abbrev pub FitsCycles : {A S T : Type 0} → Work A T S → ℕ → ℕ → ℕ → Type 0
FitsCycles (Inner actor phase state taken put) many more times =
    (times * many ≤ vec_capacity taken) × (times * more ≤ length put.items)
FitsCycles w many more times = Unit {0}

-- what `firings` firings put, if they take b
abbrev pub all_put : {A S T : Type 0} → Steps A S T → Work A T S → List T → ℕ → List T
all_put s (Inner actor phase state taken put) b firings = puts_to s actor.now phase state b firings
all_put s w b firings = []

-- the work after `firings` firings that took b
abbrev pub HaveWorkedInParts : {A S T : Type 0} → Steps A S T → ℕ → Work A T S → List T → Work A T S → Type 0
HaveWorkedInParts s firings (Inner actor phase state taken put) b (Inner actor' phase' state' taken' put') =
    (actor' ≡ actor) × (phase' ≡ (phase + firings) % s.cycle actor.now)
    × (state' ≡ state_at s actor.now phase state b firings) ×
    (vec_capacity taken' ≡ vec_capacity taken) × (length put'.items ≡ length put.items)
HaveWorkedInParts s firings w b w' = ⊥

-- `firings` firings in `times` equal parts, each of which takes `many` samples and puts `more`: the blocks have room
-- for one part, and for all
abbrev pub CanWorkInParts : {A S T : Type 0} → Steps A S T → ℕ → ℕ → Work A T S → ℕ → ℕ → Type 0
CanWorkInParts s times firings (Inner actor phase state taken put) many more =
    (phase < s.cycle actor.now) × (times * many ≡ sum_in s actor.now phase firings)
    × (times * more ≡ sum_out s actor.now phase firings) ×
    (times * many ≤ vec_capacity taken) × (times * more ≤ length put.items)
    × (many ≤ vec_capacity taken) × (more ≤ length put.items) × (firings < 2 ^ 63)
CanWorkInParts s times firings w many more = ⊥

-- an actor that takes from the channels ins and puts on the channels outs can do `firings` firings in `times` parts
pub record CanFireInParts {A S T : Type 0} (s : Steps A S T) (times firings : ℕ) (ins outs takes puts : List ℕ)
    (w : Work A T S) (qs : List (QueueValue T)) : Type 0 where
  pub ins_are : ArePorts ins takes (length qs)
  pub outs_are : ArePorts outs puts (length qs)
  pub held : HoldManyBlocks times ins takes qs
  pub room : HaveRoomForMany times outs puts qs
  pub work : CanWorkInParts s times firings w (sum_by (slice_index takes) ins) (sum_by (slice_index puts) outs)

-- what they do
pub record AreFiredInParts {A S T : Type 0} (s : Steps A S T) (times firings : ℕ) (ins outs takes puts : List ℕ)
    (w w' : Work A T S) (qs qs' : List (QueueValue T)) : Type 0 where
  pub work : HaveWorkedInParts s firings w (joined (front_at takes ins qs) times) w'
  pub queues : (c : ℕ) → c < length qs →
      samples qs' c ≡ drop (at_ports ins (times * slice_index takes c) c) (samples qs c) ++
      dealt puts outs (sum_by (slice_index puts) outs)
      (all_put s w (joined (front_at takes ins qs) times) firings) c times
  pub rooms : KeepRoom qs qs'

-- what the next firing of a node of a run takes and puts, and what its cycles do
abbrev pub takes_next : {A S T : Type 0} → Run A T S → Work A T S → List ℕ
takes_next r w = at_phase r.sizes.takes (phase_at w)

abbrev pub puts_next : {A S T : Type 0} → Run A T S → Work A T S → List ℕ
puts_next r w = at_phase r.sizes.puts (phase_at w)

abbrev pub takes_cycle : {A S T : Type 0} → Run A T S → Work A T S → List ℕ
takes_cycle r w = r.cycles.takes.items

abbrev pub puts_cycle : {A S T : Type 0} → Run A T S → Work A T S → List ℕ
puts_cycle r w = r.cycles.puts.items

-- the number of firings in `times` cycles of node a of a run
abbrev pub firings_in : {A S T : Type 0} → Steps A S T → Run A T S → ℕ → ℕ → ℕ
firings_in s r a times = times * cycle_of s (node r.net.now a)

-- actor a of a run can do `firings` firings in `times` parts
pub record CanFireInPartsAt {A S T : Type 0} (s : Steps A S T) (r : Run A T S) (a times firings : ℕ)
    (takes puts : Work A T S → List ℕ) : Type 0 where
  pub inside : IsInRun r a firings
  pub can : HoldsOfWork r a (λ w. CanFireInParts s times firings ((wiring s r.net.now).ins a)
      ((wiring s r.net.now).outs a) (takes w) (puts w) w r.queues.items)

-- what they do
pub record AreFiredInPartsAt {A S T : Type 0} (s : Steps A S T) (r r' : Run A T S) (a times firings : ℕ)
    (takes puts : Work A T S → List ℕ) : Type 0 where
  pub alone : FiresAlone r r' a firings
  pub lists : r'.outputs ≡ r.outputs
  pub fired : (d : Work A T S) → let w = slice_index_or r.works.items a d in
      AreFiredInParts s times firings ((wiring s r.net.now).ins a) ((wiring s r.net.now).outs a) (takes w) (puts w) w
      (slice_index_or r'.works.items a d) r.queues.items r'.queues.items

-- cycles of node a can be batched, the channels into it hold what `times` cycles take, and its blocks have room for
-- them
pub record CanBatchCyclesAt {A S T : Type 0} (s : Steps A S T) (r : Run A T S) (a times : ℕ) : Type 0 where
  pub goes : HoldsOfWork r a (λ w. CanBatchCycles s r.sizes w ((wiring s r.net.now).ins a)
      ((wiring s r.net.now).outs a))
  pub held : HoldManyBlocks times ((wiring s r.net.now).ins a) r.cycles.takes.items r.queues.items
  pub fit : HoldsOfWork r a (λ w. FitsCycles w (sum_by (slice_index r.cycles.takes.items) ((wiring s r.net.now).ins a))
      (sum_by (slice_index r.cycles.puts.items) ((wiring s r.net.now).outs a)) times)
