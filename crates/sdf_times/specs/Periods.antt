-- Statements of the laws of self-timed runs.
use Rattle.std.specs.Prelude.{◌≡◌, ℕ, ◌+◌, ◌*◌, ◌≤◌, ◌<◌, length}
use Rattle.sdf_prec.specs.declared.firing.Firing.{Firing}
use Rattle.sdf_prec.specs.Tables.{row}
use Rattle.sdf_times.specs.Times.{load_of, work_of, AreStarts, IsMakespan}
use Rattle.sdf_times.specs.ByRows.{time_by_rows}
use Rattle.sdf_times.specs.SelfTimed.{Plan, HoldsBack, AreSelfTimed, IsBlockEnd, IsIterationPeriod, IsPlan, IsPeriodic}
use Rattle.sdf_times.specs.SelfTimed.{Attains}

-- the ends of the blocks of a self-timed run
pub record AreEnds (p : Plan) (end : ℕ → ℕ) : Type 0 where
  pub start : Firing → ℕ
  pub run : AreSelfTimed p start
  pub ends : (b : ℕ) → IsBlockEnd p start b (end b)

-- what can be run has self-timed starts
abbrev pub SelfTimedExist : Type 0
SelfTimedExist = (p : Plan) → IsPlan p → (start : Firing → ℕ) × AreSelfTimed p start

-- each block of a run has an end
abbrev pub BlocksEnd : Type 0
BlocksEnd = (p : Plan) (start : Firing → ℕ) (b : ℕ) → IsPlan p → (t : ℕ) × IsBlockEnd p start b t

-- self-timed starts are the least at which no firing starts sooner than the firings that hold it back allow
abbrev pub SelfTimedAreLeast : Type 0
SelfTimedAreLeast =
    (p : Plan) (start other : Firing → ℕ) → IsPlan p → AreSelfTimed p start →
    ((g f : Firing) (w : ℕ) → g.actor < p.rates.actors → f.actor < p.rates.actors → HoldsBack p g f w →
    other g + w ≤ other f) → (f : Firing) → f.actor < p.rates.actors → start f ≤ other f

-- there is one set of self-timed starts
abbrev pub SelfTimedAreOne : Type 0
SelfTimedAreOne =
    (p : Plan) (start other : Firing → ℕ) → IsPlan p → AreSelfTimed p start → AreSelfTimed p other → (f : Firing) →
    f.actor < p.rates.actors → start f ≡ other f

-- a certificate for t/q is right: the blocks of a run take t/q in the long run
abbrev pub PeriodsAreCertified : Type 0
PeriodsAreCertified =
    (p : Plan) (end : ℕ → ℕ) (t q : ℕ) (x : Firing → ℕ) → IsPlan p → AreEnds p end → 0 < q → IsPeriodic p t q x →
    Attains p t q → IsIterationPeriod end t q

-- there is at most one period
abbrev pub OnePeriod : Type 0
OnePeriod = (end : ℕ → ℕ) (t q u v : ℕ) → IsIterationPeriod end t q → IsIterationPeriod end u v → t * v ≡ u * q

-- no load is above the period
abbrev pub LoadsAreWithin : Type 0
LoadsAreWithin = (p : Plan) (end : ℕ → ℕ) (t q j : ℕ) → IsPlan p → AreEnds p end → IsIterationPeriod end t q →
    q * load_of p.cost p.rows j ≤ t

-- the period is no longer than what a block takes row by row
abbrev pub PeriodIsWithinRows : Type 0
PeriodIsWithinRows = (p : Plan) (end : ℕ → ℕ) (t q : ℕ) → IsPlan p → AreEnds p end → IsIterationPeriod end t q →
    t ≤ q * time_by_rows p.cost p.rows

-- and no longer than the work of the block
abbrev pub PeriodIsWithinWork : Type 0
PeriodIsWithinWork = (p : Plan) (end : ℕ → ℕ) (t q : ℕ) → IsPlan p → AreEnds p end → IsIterationPeriod end t q →
    t ≤ q * work_of p.rates.actors p.firings p.cost

-- the columns share the work: no period is below the work over their number
abbrev pub WorkIsShared : Type 0
WorkIsShared = (p : Plan) (end : ℕ → ℕ) (t q m : ℕ) → IsPlan p →
    ((i : ℕ) → i < length p.rows → length (row p.rows i) ≤ m) → AreEnds p end → IsIterationPeriod end t q →
    q * work_of p.rates.actors p.firings p.cost ≤ t * m

-- a single column does the work of a block in each period
abbrev pub OneColumnWorks : Type 0
OneColumnWorks = (p : Plan) (end : ℕ → ℕ) → IsPlan p → ((i : ℕ) → i < length p.rows → length (row p.rows i) ≤ 1) →
    AreEnds p end → IsIterationPeriod end (work_of p.rates.actors p.firings p.cost) 1

-- the makespan of one block alone, with links of any size, is no later than the end of the first block of a run
abbrev pub MakespanIsWithinFirst : Type 0
MakespanIsWithinFirst =
    (p : Plan) (end : ℕ → ℕ) (start : Firing → ℕ) (makespan : ℕ) → IsPlan p → AreEnds p end →
    AreStarts p.rates p.cost p.rows start → IsMakespan p.cost p.rows start makespan → makespan ≤ end 0

-- the period is no longer than the first block
abbrev pub PeriodIsWithinFirst : Type 0
PeriodIsWithinFirst = (p : Plan) (end : ℕ → ℕ) (t q : ℕ) → IsPlan p → AreEnds p end → IsIterationPeriod end t q →
    t ≤ q * end 0

-- and the first block takes no longer than row by row
abbrev pub FirstIsWithinRows : Type 0
FirstIsWithinRows = (p : Plan) (end : ℕ → ℕ) → IsPlan p → AreEnds p end → end 0 ≤ time_by_rows p.cost p.rows

-- a plan with other capacities
abbrev pub with_caps : Plan → (ℕ → ℕ) → Plan
with_caps p caps =
    record { rates = p.rates; firings = p.firings; rows = p.rows; caps = caps; cost = p.cost }

-- more room never makes the period longer
abbrev pub MoreRoomIsNoLonger : Type 0
MoreRoomIsNoLonger =
    (p : Plan) (caps end more : ℕ → ℕ) (t q u v : ℕ) → IsPlan p →
    ((c : ℕ) → c < p.rates.channels → p.caps c ≤ caps c) → AreEnds p end → AreEnds (with_caps p caps) more →
    IsIterationPeriod end t q → IsIterationPeriod more u v → u * q ≤ t * v
