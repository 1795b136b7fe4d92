-- The faults of a graph, in the order of their tests: the first one that holds is returned. And why a graph has no
-- repetition vector.
use Rattle.std.specs.Prelude.{◌≡◌, ◌≢◌, ℕ, ◌+◌, ◌<◌, ◌==◌, ◌&&◌, ◌||◌, Bool, true, List, [], ◌∷◌, length, sum, nat_le}
use Rattle.std.specs.Prelude.{nat_lt, Option, Some, None, if◌then◌else◌, set, ◌⊎◌}
use Rattle.sdf_limits.specs.declared.TheConstants.{MAX_ACTORS, MAX_LINKS, MAX_RATE, MAX_CYCLE, MAX_INITIAL}
use Rattle.sdf_limits.specs.declared.TheConstants.{MAX_PERIOD}
use Rattle.sdf_graph.specs.Rates.{GraphValue, ChannelValue, IsReached, cycle_length, rates}
use Rattle.sdf_graph.specs.Periods.{IsPeriodVector}
use Rattle.sdf_graph.specs.Marks.{IsBorder}
use Rattle.sdf_graph.specs.RelativeRates.{IsBalancedAt, IsRatio, IsWalk, AreRatios}
use Rattle.sdf_graph.specs.declared.repetitions.Ratio.{Ratio}
use Rattle.sdf_graph.specs.Balances.{IsBalance}
use Rattle.sdf_graph.specs.declared.balance.Balance.{Balance}
use Rattle.sdf_graph.specs.declared.fault.GraphFault.{GraphFault}
use Rattle.sdf_graph.specs.declared.fault.GraphFault.TheVariants.{OutOfMemory, ActorCount, ChannelCount, BadEnd}
use Rattle.sdf_graph.specs.declared.fault.GraphFault.TheVariants.{BadRate, CycleLength, InitialCount, NotConnected}
use Rattle.sdf_graph.specs.declared.fault.GraphFault.TheVariants.{Inconsistent, PeriodTooLong}

abbrev pub is_within : ℕ → ℕ → ℕ → Bool
is_within least most n = nat_le least n && nat_le n most

-- both ends of a channel are actors below `actors`
abbrev pub joins_actors : ℕ → ChannelValue → Bool
joins_actors actors e = nat_lt e.from actors && nat_lt e.to actors

-- no rate is over the limit
abbrev pub are_small : List ℕ → Bool
are_small [] = true
are_small (x ∷ xs) = nat_le x MAX_RATE && are_small xs

-- no rate is over the limit, and a list that is not empty has a rate above 0
abbrev pub are_rates : List ℕ → Bool
are_rates rates = are_small rates && (length rates == 0 || nat_lt 0 (sum rates))

abbrev pub has_rates : ChannelValue → Bool
has_rates e = are_rates e.put && are_rates e.take

-- there is a rate for each firing of a cycle of n, and n is from 1 to MAX_CYCLE
abbrev pub is_cycle : ℕ → List ℕ → Bool
is_cycle n rates = is_within 1 MAX_CYCLE (length rates) && length rates == n

-- each end of a channel has a rate for each firing of its actor's cycle, with the cycle lengths that `channels` gives
abbrev pub has_cycles : List ChannelValue → ChannelValue → Bool
has_cycles channels e = is_cycle (cycle_length channels e.from) e.put && is_cycle (cycle_length channels e.to) e.take

-- the first fault of the numbers of channel c
abbrev pub channel_fault : ℕ → List ChannelValue → ℕ → ChannelValue → Option GraphFault
channel_fault actors channels c e =
    if joins_actors actors e then (
    if has_rates e then (
    if has_cycles channels e then (
    if nat_le e.initial MAX_INITIAL then None else Some (InitialCount c)
    ) else Some (CycleLength c)
    ) else Some (BadRate c)
    ) else Some (BadEnd c)

abbrev pub or_else : Option GraphFault → Option GraphFault → Option GraphFault
or_else (Some fault) next = Some fault
or_else None next = next

-- the first fault of the rest of some channels, which begins at channel c
abbrev pub channels_fault : ℕ → List ChannelValue → ℕ → List ChannelValue → Option GraphFault
channels_fault actors channels c [] = None
channels_fault actors channels c (e ∷ es) = or_else (channel_fault actors channels c e)
    (channels_fault actors channels (c + 1) es)

-- the first fault of a graph's numbers: how many actors, how many channels, then each channel's numbers in order
abbrev pub numbers_fault : GraphValue → Option GraphFault
numbers_fault g =
    if is_within 1 MAX_ACTORS g.actors then (
    if nat_le (length g.channels) MAX_LINKS then channels_fault g.actors g.channels 0 g.channels else Some ChannelCount
    ) else Some ActorCount

-- channels, walked both ways, join each actor to actor 0
abbrev pub IsConnected : GraphValue → Type 0
IsConnected g = (a : ℕ) → a < g.actors → IsReached g a

-- the lowest actor that channels, walked both ways, do not join to actor 0
pub record IsLowestUnreached (g : GraphValue) (a : ℕ) : Type 0 where
  pub known : a < g.actors
  pub unreached : IsReached g a → ⊥
  pub lowest : (b : ℕ) → b < a → IsReached g b

-- no fault holds
pub record IsFaultless (g : GraphValue) : Type 0 where
  pub numbers : numbers_fault g ≡ None
  pub connected : IsConnected g

-- the first fault that holds; memory may be refused at any place
abbrev pub IsFirstFault : GraphValue → GraphFault → Type 0
IsFirstFault g OutOfMemory = Unit {0}
IsFirstFault g (NotConnected a) = (numbers_fault g ≡ None) × IsLowestUnreached g a
IsFirstFault g fault = numbers_fault g ≡ Some fault

-- the graph has no repetition vector, and in m, the balance of channel c, the samples put and taken differ; c is the
-- lowest channel that the relative rates of m do not balance
pub record IsInconsistent (g : GraphValue) (c : ℕ) (m : Balance) : Type 0 where
  pub none : (p : List ℕ) → IsPeriodVector (rates g) p → ⊥
  pub meets : IsBalance g c m
  pub differs : m.puts ≢ m.takes
  pub lowest : (d : ℕ) → d < c → IsBalancedAt g meets.ratios d

-- a walk over balanced channels from actor 0 comes by one more, `over`, to an actor whose relative rate is over the
-- limit
pub record IsFar (g : GraphValue) : Type 0 where
  pub ratios : List Ratio
  pub marked : List Bool
  pub walk : IsWalk g ratios marked
  pub over : ℕ
  pub actor : ℕ
  pub border : IsBorder g.channels marked over actor
  pub rate : Ratio
  pub share : IsRatio g actor rate
  pub even : IsBalancedAt g (set ratios actor rate) over
  pub far : (MAX_PERIOD < rate.num) ⊎ (MAX_PERIOD < rate.den)

-- relative rates of all actors balance all channels
pub record IsConsistent (g : GraphValue) : Type 0 where
  pub ratios : List Ratio
  pub shares : AreRatios g ratios
  pub even : (c : ℕ) → c < length g.channels → IsBalancedAt g ratios c

-- each repetition vector is too long, and all channels are balanced, or those of a walk to a far actor
pub record IsTooLong (g : GraphValue) : Type 0 where
  pub long : (p : List ℕ) → IsPeriodVector (rates g) p → MAX_PERIOD < sum p
  pub why : IsFar g ⊎ IsConsistent g

-- why there is no repetition vector: each fault is true of the graph
abbrev pub IsPeriodFault : GraphValue → GraphFault → Type 0
IsPeriodFault g OutOfMemory = Unit {0}
IsPeriodFault g (Inconsistent c m) = IsInconsistent g c m
IsPeriodFault g PeriodTooLong = IsTooLong g
IsPeriodFault g _ = ⊥
