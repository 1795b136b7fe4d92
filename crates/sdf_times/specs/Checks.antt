-- The tests of a schedule that repeats itself each block: what they test.
use Rattle.std.specs.Prelude.{◌≡◌, ℕ, ◌+◌, ◌-◌, ◌*◌, ◌/◌, ◌%◌, ◌^◌, ◌≤◌, ◌<◌, ◌⊎◌, List, [], length, slice_index}
use Rattle.std.specs.Prelude.{slice_index_or}
use Rattle.std.specs.Prelude.{Option, Some}
use Rattle.sdf_limits.specs.declared.TheConstants.{MAX_RATE}
use Rattle.sdf_graph.specs.Rates.{GraphValue, ChannelValue, rates, channel, sum_to}
use Rattle.sdf_graph.specs.Periods.{IsPeriodVector}
use Rattle.sdf_graph.specs.Moved.{moves}
use Rattle.sdf_graph.specs.declared.channel.End.{End}
use Rattle.sdf_graph.specs.declared.channel.End.TheVariants.{Source, Target}
use Rattle.sdf_prec.specs.Blocks.{block, IsShort}
use Rattle.sdf_prec.specs.Costs.{AreCosts}
use Rattle.sdf_prec.specs.declared.firing.Firing.{Firing}
use Rattle.sdf_prec.specs.Tables.{TableValue, cell, IsTable}
use Rattle.sdf_times.specs.Times.{start_in}
use Rattle.sdf_times.specs.SelfTimed.{Plan}

-- a table as a plan
abbrev pub plan_of : GraphValue → List ℕ → TableValue → List ℕ → Plan
plan_of g firings t costs = record {
  rates = rates g;
  firings = slice_index firings;
  rows = t.rows;
  caps = slice_index t.caps;
  cost = slice_index costs;
}

-- the starts of an actor's firings in the first block, and each block t later than the one before
abbrev pub repeating : ℕ → List ℕ → ℕ → ℕ
repeating t xs k = slice_index xs (k % length xs) + t * (k / length xs)

-- the schedule of these starts, actor by actor
abbrev pub schedule_of : ℕ → List (List ℕ) → Firing → ℕ
schedule_of t starts f = repeating t (slice_index_or starts f.actor []) f.number

-- there is a start for each firing of the block
pub record IsFull (firings : List ℕ) (starts : List (List ℕ)) : Type 0 where
  pub actors : length starts ≡ length firings
  pub each : (a : ℕ) → a < length firings → length (slice_index_or starts a []) ≡ slice_index firings a

-- an actor's firings end before the next one starts, and the last before the first of the next block
pub record AreInTurn (xs : List ℕ) (pause t : ℕ) : Type 0 where
  pub next : (k : ℕ) → k + 1 < length xs → slice_index xs k + pause ≤ slice_index xs (k + 1)
  pub round : 0 < length xs → slice_index xs (length xs - 1) + pause ≤ slice_index xs 0 + t

-- so do a column's
pub record IsColumnInTurn (rows : List (List (Option Firing))) (cost : ℕ → ℕ) (starts : List (List ℕ)) (t q j : ℕ) :
    Type 0 where
  pub next : (k i : ℕ) (g f : Firing) → cell rows k j ≡ Some g → cell rows i j ≡ Some f → k < i →
      start_in starts g + q * cost g.actor ≤ start_in starts f
  pub round : (k i : ℕ) (g f : Firing) → cell rows k j ≡ Some g → cell rows i j ≡ Some f →
      start_in starts g + q * cost g.actor ≤ start_in starts f + t

-- what a pass over the first i rows of column j has found, if the column was free from `from` on: until is when it is
-- free again. All starts are put off by `add`
pub record IsPassed (rows : List (List (Option Firing))) (cost : ℕ → ℕ) (starts : List (List ℕ)) (q j add from i
    until : ℕ) : Type 0 where
  pub above : (k : ℕ) (g : Firing) → k < i → cell rows k j ≡ Some g → start_in starts g + add + q * cost g.actor ≤ until
  pub kept : from ≤ until
  pub fine : (k : ℕ) (g : Firing) → k < i → cell rows k j ≡ Some g → from ≤ start_in starts g + add
  pub pairs : (k m : ℕ) (g f : Firing) → k < m → m < i → cell rows k j ≡ Some g → cell rows m j ≡ Some f →
      start_in starts g + q * cost g.actor ≤ start_in starts f
  pub reached : (until ≡ from) ⊎ ((k : ℕ) × (g : Firing) × (k < i) × (cell rows k j ≡ Some g)
      × (until ≡ start_in starts g + add + q * cost g.actor))

-- a firing of the column starts before it is free
pub record IsTooSoon (rows : List (List (Option Firing))) (cost : ℕ → ℕ) (starts : List (List ℕ)) (q j add from : ℕ) :
    Type 0 where
  pub row : ℕ
  pub firing : Firing
  pub here : cell rows row j ≡ Some firing
  pub soon : (start_in starts firing + add < from) ⊎ ((k : ℕ) × (g : Firing) × (k < row) × (cell rows k j ≡ Some g)
      × (start_in starts firing < start_in starts g + q * cost g.actor))

-- the least number of firings with which there are `wanted` samples, if there are `lead` before the first and firing i
-- moves f i
pub record IsLeastWith (f : ℕ → ℕ) (lead wanted i : ℕ) : Type 0 where
  pub reaches : wanted ≤ lead + sum_to f i
  pub below : 0 < i → lead + sum_to f (i - 1) < wanted

-- one end of a channel waits for the other: firing k of it, in the block after the first, for the first j + 1 firings
-- at the other end, and no more. Its firings move a k samples, the others b j, and each block `whole`; with `lead`
-- samples more it could do
abbrev pub IsLastAwaited : (ℕ → ℕ) → (ℕ → ℕ) → ℕ → ℕ → ℕ → ℕ → Type 0
IsLastAwaited a b lead whole k j = (lead + sum_to b j < whole + sum_to a (k + 1))
    × (whole + sum_to a (k + 1) ≤ lead + sum_to b (j + 1))

-- none of them starts before the last firing for which it waits allows, which is `back` blocks before
abbrev pub IsLinkInTime : (ℕ → ℕ) → (ℕ → ℕ) → ℕ → ℕ → ℕ → List ℕ → List ℕ → ℕ → ℕ → Type 0
IsLinkInTime a b lead whole back xs ys pause t =
    (k j : ℕ) → k < length xs → IsLastAwaited a b lead whole k j →
    repeating t ys j + pause ≤ slice_index xs k + t * (1 + back)

-- what is known of the numbers at the two ends of a channel: the firings at `waits` have the starts xs in the first
-- block, those at `other` ys, and each block moves `whole`
pub record IsLink (e : ChannelValue) (waits other : End) (whole : ℕ) (xs ys : List ℕ) : Type 0 where
  pub put : 0 < length e.put
  pub take : 0 < length e.take
  pub small : (end : End) (i : ℕ) → moves end e i ≤ MAX_RATE
  pub some : 0 < whole
  pub few : whole < 2 ^ 40
  pub ends : sum_to (moves waits e) (length xs) ≡ whole
  pub others : sum_to (moves other e) (2 * length ys) ≡ 2 * whole
  pub short : length xs < 2 ^ 20
  pub short_there : length ys < 2 ^ 20
  pub fires : 0 < length ys

-- a table for blocks of j whole periods, and the costs of its actors' firings
pub record IsBlockRun (g : GraphValue) (reps : List ℕ) (j width : ℕ) (t : TableValue) (costs : List ℕ) : Type 0 where
  pub period : IsPeriodVector (rates g) reps
  pub some : 0 < j
  pub short : IsShort j reps
  pub table : IsTable (rates g) (slice_index (block j reps)) width t
  pub costs_are : AreCosts g.actors costs

-- with a start for each firing of the block
pub record IsTried (g : GraphValue) (t : TableValue) (costs : List ℕ) (starts : List (List ℕ)) : Type 0 where
  pub reps : List ℕ
  pub periods : ℕ
  pub width : ℕ
  pub run : IsBlockRun g reps periods width t costs
  pub full : IsFull (block periods reps) starts

abbrev pub line : List (List ℕ) → ℕ → List ℕ
line starts a = slice_index_or starts a []

-- what a block moves on a channel
abbrev pub whole_of : ChannelValue → List (List ℕ) → ℕ
whole_of e starts = sum_to (moves Source e) (length (line starts e.from))

-- the target of a channel waits for samples
abbrev pub AreSamplesInTime : ChannelValue → (ℕ → ℕ) → List (List ℕ) → ℕ → ℕ → Type 0
AreSamplesInTime e cost starts t q =
    IsLinkInTime (moves Target e) (moves Source e) (e.initial % whole_of e starts) (whole_of e starts)
    (e.initial / whole_of e starts) (line starts e.to) (line starts e.from) (q * cost e.from) t

-- and its source for room: for what the capacity is above the initial samples
abbrev pub IsRoomInTime : ChannelValue → ℕ → List (List ℕ) → ℕ → Type 0
IsRoomInTime e cap starts t =
    IsLinkInTime (moves Source e) (moves Target e) ((cap - e.initial) % whole_of e starts) (whole_of e starts)
    ((cap - e.initial) / whole_of e starts) (line starts e.from) (line starts e.to) 0 t

-- the firings at both ends of a channel wait for those at the other end
pub record IsChannelInTime (e : ChannelValue) (cap : ℕ) (cost : ℕ → ℕ) (starts : List (List ℕ)) (t q : ℕ) : Type 0 where
  pub samples : AreSamplesInTime e cost starts t q
  pub room : (e.from ≡ e.to → ⊥) → IsRoomInTime e cap starts t

-- what is tested of a schedule: each actor's firings, each column's, and both ends of each channel
pub record IsInTime (g : GraphValue) (table : TableValue) (cost : ℕ → ℕ) (starts : List (List ℕ))
    (t q : ℕ) : Type 0 where
  pub own : (a : ℕ) → a < length starts → AreInTurn (line starts a) (q * cost a) t
  pub columns : (j : ℕ) → IsColumnInTurn table.rows cost starts t q j
  pub channels : (c : ℕ) → c < length g.channels →
      IsChannelInTime (channel g c) (slice_index table.caps c) cost starts t q
