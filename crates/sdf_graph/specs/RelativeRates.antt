-- The state of the walk over the channels: the relative rate of each reached actor, in its cycles per cycle of actor 0.
use Rattle.std.specs.Prelude.{◌≡◌, ℕ, ◌*◌, ◌/◌, ◌≤◌, ◌<◌, Bool, true, List, length, map, sum, slice_index}
use Rattle.std.specs.Prelude.{slice_index_or}
use Rattle.std.specs.List.{range_with_len}
use Rattle.sdf_limits.specs.declared.TheConstants.{MAX_CYCLE, MAX_PERIOD, MAX_RATE}
use Rattle.sdf_graph.specs.Rates.{GraphValue, ChannelValue, channel}
use Rattle.sdf_graph.specs.Periods.{Divides}
use Rattle.sdf_graph.specs.Marks.{is_marked}
use Rattle.sdf_graph.specs.declared.channel.Totals.{Totals}
use Rattle.sdf_graph.specs.declared.fault.GraphFault.{GraphFault}
use Rattle.sdf_graph.specs.declared.fault.GraphFault.TheVariants.{OutOfMemory, PeriodTooLong}
use Rattle.sdf_graph.specs.declared.repetitions.Ratio.{Ratio}

-- what a channel moves in a cycle of the actor at each end
abbrev pub totals : ChannelValue → Totals
totals e = record { from = e.from; put = sum e.put; to = e.to; take = sum e.take }

abbrev pub no_totals : Totals
no_totals = record { from = 0; put = 0; to = 0; take = 0 }

-- both ends are actors, and each moves something in a cycle, within the limits
pub record AreWithin (g : GraphValue) (t : Totals) : Type 0 where
  pub from_in : t.from < g.actors
  pub to_in : t.to < g.actors
  pub put_some : 0 < t.put
  pub take_some : 0 < t.take
  pub put_small : t.put ≤ MAX_RATE * MAX_CYCLE
  pub take_small : t.take ≤ MAX_RATE * MAX_CYCLE

-- the cycles of each actor in a period
pub record IsCycleVector (g : GraphValue) (p : List ℕ) : Type 0 where
  pub all : length p ≡ g.actors
  pub positive : (a : ℕ) → a < g.actors → 0 < slice_index p a
  pub balanced : (c : ℕ) → c < length g.channels →
      sum (channel g c).put * slice_index p (channel g c).from ≡ sum (channel g c).take * slice_index p (channel g c).to

abbrev pub unreached : Ratio
unreached = record { num = 0; den = 0 }

-- the relative rate of actor 0
abbrev pub one : Ratio
one = record { num = 1; den = 1 }

abbrev pub ratio : List Ratio → ℕ → Ratio
ratio ratios a = slice_index_or ratios a unreached

-- a / b is in lowest terms: in each equal fraction, a divides the top and b the bottom
pub record IsLowest (a b : ℕ) : Type 0 where
  pub top : (x y : ℕ) → x * b ≡ y * a → Divides a x
  pub bottom : (x y : ℕ) → x * b ≡ y * a → Divides b y

-- a / b is n / d in lowest terms
pub record IsReduced (n d a b : ℕ) : Type 0 where
  pub scale : ℕ
  pub top : n ≡ scale * a
  pub bottom : d ≡ scale * b
  pub lowest : IsLowest a b

-- f is the relative rate of actor a, in lowest terms: in every period actor a has num cycles for each den of actor 0
pub record IsRatio (g : GraphValue) (a : ℕ) (f : Ratio) : Type 0 where
  pub top_some : 0 < f.num
  pub bottom_some : 0 < f.den
  pub lowest : IsLowest f.num f.den
  pub share : (p : List ℕ) → IsCycleVector g p → slice_index p a * f.den ≡ slice_index p 0 * f.num

pub record IsSmall (f : Ratio) : Type 0 where
  pub top : f.num ≤ MAX_PERIOD
  pub bottom : f.den ≤ MAX_PERIOD

-- the relative rates of its ends balance a channel
abbrev pub IsBalanced : List Ratio → Totals → Type 0
IsBalanced ratios c = (ratio ratios c.from).num * c.put * (ratio ratios c.to).den ≡
    (ratio ratios c.to).num * c.take * (ratio ratios c.from).den

-- the relative rates of its ends balance channel c
abbrev pub IsBalancedAt : GraphValue → List Ratio → ℕ → Type 0
IsBalancedAt g ratios c = IsBalanced ratios (totals (channel g c))

-- actors that channels with the property P, walked both ways, join to actor 0
pub data IsReachedBy (g : GraphValue) (P : ℕ → Type 0) : ℕ → Type 0 where
  start : IsReachedBy g P 0
  along : (c : ℕ) → c < length g.channels → P c → IsReachedBy g P (channel g c).from → IsReachedBy g P (channel g c).to
  back : (c : ℕ) → c < length g.channels → P c → IsReachedBy g P (channel g c).to → IsReachedBy g P (channel g c).from

-- all actors have their relative rates, and channels that these balance join each actor to actor 0
pub record AreRatios (g : GraphValue) (ratios : List Ratio) : Type 0 where
  pub all : length ratios ≡ g.actors
  pub first : ratio ratios 0 ≡ one
  pub each : (a : ℕ) → a < g.actors → IsRatio g a (ratio ratios a) × IsSmall (ratio ratios a)
  pub tied : (a : ℕ) → a < g.actors → IsReachedBy g (IsBalancedAt g ratios) a

-- channel c is balanced, and both its ends are marked
pub record IsBalancedWithin (g : GraphValue) (ratios : List Ratio) (marked : List Bool) (c : ℕ) : Type 0 where
  pub even : IsBalancedAt g ratios c
  pub from : is_marked marked (channel g c).from ≡ true
  pub to : is_marked marked (channel g c).to ≡ true

-- the marked actors have their relative rates, and balanced channels between marked actors join each to actor 0
pub record IsWalk (g : GraphValue) (ratios : List Ratio) (marked : List Bool) : Type 0 where
  pub all : length ratios ≡ g.actors
  pub first : ratio ratios 0 ≡ one
  pub begun : is_marked marked 0 ≡ true
  pub each : (a : ℕ) → a < g.actors → is_marked marked a ≡ true →
      IsRatio g a (ratio ratios a) × IsSmall (ratio ratios a)
  pub tied : (a : ℕ) → is_marked marked a ≡ true → IsReachedBy g (IsBalancedWithin g ratios marked) a

-- m is the least number that the denominators of the first n ratios divide; it divides every other
pub record IsCommon (ratios : List Ratio) (n m : ℕ) : Type 0 where
  pub some : 0 < m
  pub each : (a : ℕ) → a < n → Divides (ratio ratios a).den m
  pub least : (x : ℕ) → ((a : ℕ) → a < n → Divides (ratio ratios a).den x) → Divides m x

-- the cycles of an actor in m cycles of actor 0
abbrev pub turns : ℕ → Ratio → ℕ
turns m f = m / f.den * f.num

-- the firings of actor a in m cycles of actor 0
abbrev pub firings : List ℕ → List Ratio → ℕ → ℕ → ℕ
firings cycles ratios m a = slice_index cycles a * turns m (ratio ratios a)

-- why the firings can't be returned
abbrev pub IsScaleFault : List ℕ → List Ratio → ℕ → GraphFault → Type 0
IsScaleFault cycles ratios m OutOfMemory = Unit {0}
IsScaleFault cycles ratios m PeriodTooLong = MAX_PERIOD <
    sum (map (firings cycles ratios m) (range_with_len 0 (length ratios)))
IsScaleFault cycles ratios m _ = ⊥
