-- Statements of the laws.
use Rattle.std.specs.Prelude.{◌≡◌, ℕ, ◌+◌, ◌*◌, ◌≤◌, ◌<◌, List, length, take, slice_index, sum}
use Rattle.sdf_graph.specs.Rates.{Rates, IsAlike, IsSound, GraphValue, IsShape, rates, rate_at, sum_to}
use Rattle.sdf_graph.specs.Sequences.{times, IsAdmissible, IsPass, IsPeriod, repeated, FitsIn}
use Rattle.sdf_graph.specs.Periods.{IsPeriodVector, IsLeastPeriod}
use Rattle.sdf_graph.specs.Faults.{IsFaultless}

-- a graph in which no fault holds is within the limits
abbrev pub FaultlessGraphsHaveShapes : Type 0
FaultlessGraphsHaveShapes = (g : GraphValue) → IsFaultless g → IsShape g

-- the rates of a graph are sound
abbrev pub GraphsAreSound : Type 0
GraphsAreSound = (g : GraphValue) → IsShape g → IsSound (rates g)

-- the repetition vectors of a graph are periods
abbrev pub GraphsHavePeriods : Type 0
GraphsHavePeriods = (g : GraphValue) (q : List ℕ) → IsShape g → IsPeriodVector (rates g) q →
    IsPeriod (rates g) (slice_index q)

-- there is at most one least repetition vector
abbrev pub OneLeastPeriod : Type 0
OneLeastPeriod = (r : Rates) (p q : List ℕ) → IsLeastPeriod r p → IsLeastPeriod r q → p ≡ q

-- the actor that fires last is counted once more
abbrev pub LastCountsMore : Type 0
LastCountsMore = (w : List ℕ) (i a : ℕ) → i < length w → slice_index w i ≡ a →
    times (take (i + 1) w) a ≡ times (take i w) a + 1

-- the counts of all other actors stay
abbrev pub OthersCountSame : Type 0
OthersCountSame = (w : List ℕ) (i a : ℕ) → i < length w → (slice_index w i ≡ a → ⊥) →
    times (take (i + 1) w) a ≡ times (take i w) a

-- the front of a sequence counts no more than the whole
abbrev pub FrontsCountWithin : Type 0
FrontsCountWithin = (w : List ℕ) (i a : ℕ) → times (take i w) a ≤ times w a

-- a sum grows by the value of the next firing
abbrev pub SumsGrow : Type 0
SumsGrow = (f : ℕ → ℕ) (i : ℕ) → sum_to f (i + 1) ≡ sum_to f i + f i

-- a sum over more firings is no less
abbrev pub SumsRise : Type 0
SumsRise = (f : ℕ → ℕ) (i j : ℕ) → i ≤ j → sum_to f i ≤ sum_to f j

-- values that are small have small sums
abbrev pub SumsAreSmall : Type 0
SumsAreSmall = (f : ℕ → ℕ) (most : ℕ) → ((i : ℕ) → f i ≤ most) → (i : ℕ) → sum_to f i ≤ most * i

-- after whole cycles the sums of rates grow as from the start
abbrev pub CyclesBeginAnew : Type 0
CyclesBeginAnew = (xs : List ℕ) (k i : ℕ) → sum_to (rate_at xs) (i + k * length xs) ≡ sum_to (rate_at xs) i + k * sum xs

-- whole cycles move the sum of their rates each time
abbrev pub WholeCyclesMove : Type 0
WholeCyclesMove = (xs : List ℕ) (k : ℕ) → sum_to (rate_at xs) (k * length xs) ≡ k * sum xs

-- one cycle moves the sum of its rates
abbrev pub OneCycleMoves : Type 0
OneCycleMoves = (xs : List ℕ) → sum_to (rate_at xs) (length xs) ≡ sum xs

-- at a constant rate `n` firings move `n` times that rate
abbrev pub ConstantRatesMove : Type 0
ConstantRatesMove = (xs : List ℕ) → length xs ≡ 1 → (n : ℕ) → sum_to (rate_at xs) n ≡ n * slice_index xs 0

-- a list of numbers that are no greater has no greater sum
abbrev pub ListsSumWithin : Type 0
ListsSumWithin = (xs ys : List ℕ) → length xs ≡ length ys → ((a : ℕ) → slice_index xs a ≤ slice_index ys a) →
    sum xs ≤ sum ys

-- the schedule of a period can be repeated
abbrev pub PeriodsRepeat : Type 0
PeriodsRepeat =
    (r : Rates) (q : ℕ → ℕ) (w : List ℕ) (b : ℕ) → IsSound r → IsPeriod r q → IsPass r q w →
    IsAdmissible r (repeated b w) × ((a : ℕ) → a < r.actors → times (repeated b w) a ≡ b * q a)

-- the repeated schedule fits in the same capacities
abbrev pub CapacitiesRepeat : Type 0
CapacitiesRepeat =
    (r : Rates) (q cap : ℕ → ℕ) (w : List ℕ) (b : ℕ) → IsSound r → IsPeriod r q → IsPass r q w →
    FitsIn r cap w → FitsIn r cap (repeated b w)

-- graphs with the same rates have the same admissible sequences
abbrev pub AlikeSequences : Type 0
AlikeSequences = (r t : Rates) (w : List ℕ) → IsAlike r t → IsAdmissible r w → IsAdmissible t w
