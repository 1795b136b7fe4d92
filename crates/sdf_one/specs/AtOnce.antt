-- Batched firings of a node, from queue to queue: when they can be done, and what they do.
use Rattle.std.specs.Prelude.{◌≡◌, ℕ, ◌+◌, ◌*◌, ◌≤◌, ◌<◌, List, [], ◌++◌, length, take, drop, slice_index}
use Rattle.std.specs.Prelude.{slice_index_or}
use Rattle.std.specs.List.{flat_map, between}
use Rattle.std.specs.declared.vec.Vec.{Vec}
use Rattle.sdf_actor.specs.Steps.{Steps, sum_in, sum_out, state_at, puts_to}
use Rattle.sdf_actor.specs.Histories.{spread}
use Rattle.sdf_actor.specs.Nets.{wiring}
use Rattle.sdf_actor.specs.Wires.{lists}
use Rattle.sdf_one.specs.declared.work.Work.{Work}
use Rattle.sdf_one.specs.declared.work.Work.TheVariants.{Source, Sink, Inner}
use Rattle.sdf_one.specs.declared.run.Run.{Run}
use Rattle.sdf_queues.specs.QueueValue.{QueueValue}
use Rattle.sdf_queues.specs.Blocks.{samples, at_ports, ArePorts, HoldManyBlocks, HaveRoomForMany, KeepRoom}
use Rattle.sdf_queues.specs.Sizes.{at_phase}
use Rattle.sdf_queues.specs.Lists.{list, capacity}
use Rattle.sdf_one.specs.Firings.{phase_at, added}
use Rattle.sdf_one.specs.Runs.{HoldsOfWork, IsInRun, FiresAlone}

-- a node whose firings can be batched from queue to queue: it has one phase, and a channel on each side at most, not
-- the same on both
abbrev pub CanBatch : {A S T : Type 0} → Steps A S T → Work A T S → List ℕ → List ℕ → Type 0
CanBatch s (Source ext next block) ins outs = Unit {0}
CanBatch s (Sink ext) ins outs = Unit {0}
CanBatch s (Inner actor phase state taken put) ins outs =
    (s.cycle actor.now ≡ 1) × (length ins ≡ 1) × (length outs ≡ 1) × (slice_index ins 0 ≡ slice_index outs 0 → ⊥)

-- the input of `times` firings, at the fronts of the queues
abbrev pub fronts : {T : Type 0} → ℕ → List ℕ → List ℕ → List (QueueValue T) → List T
fronts times takes ins qs = flat_map (λ c. take (times * slice_index takes c) (samples qs c)) ins

-- what `times` firings put, if they take b
abbrev pub all_made : {A S T : Type 0} → Steps A S T → List (List T) → ℕ → Work A T S → List T → List T
all_made s inputs times (Source ext next block) b = between next (next + block * times) (slice_index_or inputs ext [])
all_made s inputs times (Sink ext) b = []
all_made s inputs times (Inner actor phase state taken put) b = puts_to s actor.now phase state b times

-- the work after `times` firings that took b
abbrev pub HaveWorked : {A S T : Type 0} → Steps A S T → ℕ → Work A T S → List T → Work A T S → Type 0
HaveWorked s times (Source ext next block) b w = w ≡ Source ext (next + block * times) block
HaveWorked s times (Sink ext) b w = w ≡ Sink ext
HaveWorked s times (Inner actor phase state taken put) b w =
    w ≡ Inner actor phase (state_at s actor.now phase state b times) taken put

-- `times` firings take `many` samples and put `more`: a source finds what it reads, a sink has room in its output list,
-- and an actor moves what its rates say
abbrev pub CanWorkBatch : {A S T Z : Type 0} → Steps A S T → List (List T) → ℕ → Work A T S → List ℕ → List ℕ → ℕ → ℕ →
    List (Vec T Z) → Type 0
CanWorkBatch s inputs times (Source ext next block) ins outs many more outputs =
    (ins ≡ []) × (length outs ≡ 1) × (more ≡ block * times) × (ext < length inputs)
    × (next + block * times ≤ length (slice_index_or inputs ext []))
CanWorkBatch s inputs times (Sink ext) ins outs many more outputs =
    (outs ≡ []) × (length ins ≡ 1) × (ext < length outputs) × (length (list outputs ext) + many ≤ capacity outputs ext)
CanWorkBatch s inputs times (Inner actor phase state taken put) ins outs many more outputs =
    (phase < s.cycle actor.now) × (length ins ≡ 1) × (length outs ≡ 1) × (slice_index ins 0 ≡ slice_index outs 0 → ⊥) ×
    (many ≡ sum_in s actor.now phase times) × (more ≡ sum_out s actor.now phase times)

-- a node that takes from the channels ins and puts on the channels outs can do `times` firings in one batch
pub record CanFireBatch {A S T Z : Type 0} (s : Steps A S T) (inputs : List (List T)) (times : ℕ)
    (ins outs takes puts : List ℕ) (w : Work A T S) (qs : List (QueueValue T)) (outputs : List (Vec T Z)) : Type 0 where
  pub ins_are : ArePorts ins takes (length qs)
  pub outs_are : ArePorts outs puts (length qs)
  pub held : HoldManyBlocks times ins takes qs
  pub room : HaveRoomForMany times outs puts qs
  pub work : CanWorkBatch s inputs times w ins outs (times * slice_index takes (slice_index ins 0))
      (times * slice_index puts (slice_index outs 0)) outputs

-- what `times` firings of a node in one batch do
pub record AreFired {A S T Z : Type 0} (s : Steps A S T) (inputs : List (List T)) (times : ℕ)
    (ins outs takes puts : List ℕ) (w w' : Work A T S) (qs qs' : List (QueueValue T))
    (outputs outputs' : List (Vec T Z)) : Type 0 where
  pub work : HaveWorked s times w (fronts times takes ins qs) w'
  pub queues : (c : ℕ) → c < length qs →
      samples qs' c ≡ drop (at_ports ins (times * slice_index takes c) c) (samples qs c) ++
      spread (λ d. times * slice_index puts d) outs (all_made s inputs times w (fronts times takes ins qs)) c
  pub rooms : KeepRoom qs qs'
  pub lists : (e : ℕ) → e < length outputs → list outputs' e ≡ list outputs e ++ added w (fronts times takes ins qs) e
  pub capacities : (e : ℕ) → e < length outputs → capacity outputs' e ≡ capacity outputs e

-- node a of a run can do `times` firings in one batch
pub record CanFireBatchAt {A S T : Type 0} (s : Steps A S T) (r : Run A T S) (a times : ℕ) : Type 0 where
  pub inside : IsInRun r a times
  pub can : HoldsOfWork r a (λ w. CanFireBatch s (lists r.inputs.now) times ((wiring s r.net.now).ins a)
      ((wiring s r.net.now).outs a) (at_phase r.sizes.takes (phase_at w)) (at_phase r.sizes.puts (phase_at w)) w
      r.queues.items r.outputs.items)

-- what `times` firings of node a of a run in one batch do
pub record AreFiredAt {A S T : Type 0} (s : Steps A S T) (r r' : Run A T S) (a times : ℕ) : Type 0 where
  pub alone : FiresAlone r r' a times
  pub fired : (d : Work A T S) → let w = slice_index_or r.works.items a d in
      AreFired s (lists r.inputs.now) times ((wiring s r.net.now).ins a) ((wiring s r.net.now).outs a)
      (at_phase r.sizes.takes (phase_at w)) (at_phase r.sizes.puts (phase_at w)) w (slice_index_or r'.works.items a d)
      r.queues.items r'.queues.items r.outputs.items r'.outputs.items
