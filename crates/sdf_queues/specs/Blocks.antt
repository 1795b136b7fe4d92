-- Blocks taken from queues and put on queues, a part for each port.
use Rattle.std.specs.Prelude.{◌≡◌, ℕ, ◌≤◌, ◌<◌, ◌+◌, ◌*◌, ◌==◌, cond, List, [], ◌∷◌, ◌++◌, length, take, drop}
use Rattle.std.specs.Prelude.{slice_index, slice_index_or}
use Rattle.std.specs.List.{flat_map}
use Rattle.sdf_actor.specs.Histories.{spread}
use Rattle.sdf_node.specs.Many.{joined}
use Rattle.sdf_queues.specs.QueueValue.{QueueValue}

abbrev pub nothing : {T : Type 0} → QueueValue T
nothing = record { samples = []; room = 0 }

-- the samples on channel c, and how many it has room for
abbrev pub samples : {T : Type 0} → List (QueueValue T) → ℕ → List T
samples qs c = (slice_index_or qs c nothing).samples

abbrev pub room : {T : Type 0} → List (QueueValue T) → ℕ → ℕ
room qs c = (slice_index_or qs c nothing).room

-- the block at the fronts of the queues of some channels
abbrev pub front : {T : Type 0} → List ℕ → List ℕ → List (QueueValue T) → List T
front sizes ports qs = flat_map (λ c. take (slice_index sizes c) (samples qs c)) ports

-- `many` if channel c is one of these, otherwise 0
abbrev pub at_ports : List ℕ → ℕ → ℕ → ℕ
at_ports [] many c = 0
at_ports (d ∷ ds) many c = cond (d == c) many (at_ports ds many c)

-- each port is a channel of its own, and has a size
pub record ArePorts (ports sizes : List ℕ) (channels : ℕ) : Type 0 where
  pub known : (n : ℕ) → n < length ports → slice_index ports n < channels
  pub sized : length sizes ≡ channels
  pub once : (m n : ℕ) → m < length ports → n < length ports → slice_index ports m ≡ slice_index ports n → m ≡ n

-- the queue at each port holds what is taken from it
abbrev pub HoldBlocks : {T : Type 0} → List ℕ → List ℕ → List (QueueValue T) → Type 0
HoldBlocks ports sizes qs = (n : ℕ) → n < length ports →
    slice_index sizes (slice_index ports n) ≤ length (samples qs (slice_index ports n))

-- the queue at each port has room for what is put on it
abbrev pub HaveRoom : {T : Type 0} → List ℕ → List ℕ → List (QueueValue T) → Type 0
HaveRoom ports sizes qs = (n : ℕ) → n < length ports →
    length (samples qs (slice_index ports n)) + slice_index sizes (slice_index ports n) ≤ room qs (slice_index ports n)

-- the queue at each port holds what `times` firings take from it
abbrev pub HoldManyBlocks : {T : Type 0} → ℕ → List ℕ → List ℕ → List (QueueValue T) → Type 0
HoldManyBlocks times ports sizes qs = (n : ℕ) → n < length ports →
    times * slice_index sizes (slice_index ports n) ≤ length (samples qs (slice_index ports n))

-- the queue at each port has room for what `times` firings put on it
abbrev pub HaveRoomForMany : {T : Type 0} → ℕ → List ℕ → List ℕ → List (QueueValue T) → Type 0
HaveRoomForMany times ports sizes qs = (n : ℕ) → n < length ports →
    length (samples qs (slice_index ports n)) + times * slice_index sizes (slice_index ports n) ≤
    room qs (slice_index ports n)

-- for each channel c at one of the ports, `many c` samples are gone from the front of its queue; the other queues hold
-- the same samples
abbrev pub AreTaken : {T : Type 0} → List ℕ → (ℕ → ℕ) → List (QueueValue T) → List (QueueValue T) → Type 0
AreTaken ports many qs qs' = (c : ℕ) → c < length qs →
    samples qs' c ≡ drop (at_ports ports (many c) c) (samples qs c)

-- each queue c has the samples `put c` behind its old ones
abbrev pub ArePut : {T : Type 0} → (ℕ → List T) → List (QueueValue T) → List (QueueValue T) → Type 0
ArePut put qs qs' = (c : ℕ) → c < length qs → samples qs' c ≡ samples qs c ++ put c

-- each queue keeps its room
abbrev pub KeepRoom : {T : Type 0} → List (QueueValue T) → List (QueueValue T) → Type 0
KeepRoom qs qs' = (c : ℕ) → c < length qs → room qs' c ≡ room qs c

-- the block of firing i at the fronts of the queues
abbrev pub front_at : {T : Type 0} → List ℕ → List ℕ → List (QueueValue T) → ℕ → List T
front_at takes ins qs i = flat_map (λ c. take (slice_index takes c) (drop (i * slice_index takes c) (samples qs c))) ins

-- what `times` firings put on channel c, if block b has `more` samples for each firing
abbrev pub dealt : {T : Type 0} → List ℕ → List ℕ → ℕ → List T → ℕ → ℕ → List T
dealt puts outs more b c times = joined (λ i. spread (slice_index puts) outs (take more (drop (i * more) b)) c) times
