-- What the definitions and laws see of a graph: its actors and channels, and how many samples firings move.
use Rattle.std.specs.Prelude.{◌≡◌, ℕ, zero, suc, ◌+◌, ◌%◌, ◌≤◌, ◌<◌, ◌==◌, if◌then◌else◌, List, [], ◌∷◌, length}
use Rattle.std.specs.Prelude.{slice_index, slice_index_or, sum}
use Rattle.sdf_limits.specs.declared.TheConstants.{MAX_ACTORS, MAX_LINKS, MAX_RATE, MAX_CYCLE, MAX_INITIAL}

-- the sum of the first i values
abbrev pub sum_to : (ℕ → ℕ) → ℕ → ℕ
sum_to f zero = 0
sum_to f (suc i) = sum_to f i + f i

-- the rate of firing i, given the rates of a cycle, which repeats after its last
abbrev pub rate_at : List ℕ → ℕ → ℕ
rate_at cycle i = slice_index cycle (i % length cycle)

pub record Rates : Type 0 where
  pub actors : ℕ
  pub channels : ℕ
  -- the actors at the two ends of a channel
  pub source : ℕ → ℕ
  pub target : ℕ → ℕ
  -- the firings in an actor's cycle, after which its rates repeat
  pub cycle : ℕ → ℕ
  -- how many samples a channel begins with
  pub initial : ℕ → ℕ
  -- how many samples the first i firings of its source put on channel c: produced c i
  pub produced : ℕ → ℕ → ℕ
  -- how many samples the first i firings of its target take from channel c: consumed c i
  pub consumed : ℕ → ℕ → ℕ

-- what the laws use of rates; it is true of all graphs
pub record IsSound (r : Rates) : Type 0 where
  pub source_in : (c : ℕ) → c < r.channels → r.source c < r.actors
  pub target_in : (c : ℕ) → c < r.channels → r.target c < r.actors
  pub produced_none : (c : ℕ) → r.produced c 0 ≡ 0
  pub consumed_none : (c : ℕ) → r.consumed c 0 ≡ 0
  pub produced_rises : (c i j : ℕ) → i ≤ j → r.produced c i ≤ r.produced c j
  pub consumed_rises : (c i j : ℕ) → i ≤ j → r.consumed c i ≤ r.consumed c j

-- a channel: the actors at its ends, what each firing of their cycles puts and takes, and how many samples it begins
-- with
pub record ChannelValue : Type 0 where
  pub from : ℕ
  pub put : List ℕ
  pub to : ℕ
  pub take : List ℕ
  pub initial : ℕ

abbrev pub no_channel : ChannelValue
no_channel = record { from = 0; put = []; to = 0; take = []; initial = 0 }

-- a graph as its number of actors and its channels
pub record GraphValue : Type 0 where
  pub actors : ℕ
  pub channels : List ChannelValue

abbrev pub channel : GraphValue → ℕ → ChannelValue
channel g c = slice_index_or g.channels c no_channel

-- the length of an actor's cycle: of its rate list at its first channel (of `put` if this goes from it to itself). It
-- is 1 for an actor without channels
abbrev pub cycle_length : List ChannelValue → ℕ → ℕ
cycle_length [] a = 1
cycle_length (e ∷ es) a = if e.from == a then length e.put else (if e.to == a then length e.take else cycle_length es a)

abbrev pub cycle : GraphValue → ℕ → ℕ
cycle g a = cycle_length g.channels a

-- the rates of a graph
abbrev pub rates : GraphValue → Rates
rates g = record {
  actors = g.actors;
  channels = length g.channels;
  source = λ c. (channel g c).from;
  target = λ c. (channel g c).to;
  cycle = cycle g;
  initial = λ c. (channel g c).initial;
  produced = λ c i. sum_to (rate_at (channel g c).put) i;
  consumed = λ c i. sum_to (rate_at (channel g c).take) i;
}

-- actors that channels, walked both ways, join to actor 0
pub data IsReached (g : GraphValue) : ℕ → Type 0 where
  start : IsReached g 0
  along : (c : ℕ) → c < length g.channels → IsReached g (channel g c).from → IsReached g (channel g c).to
  back : (c : ℕ) → c < length g.channels → IsReached g (channel g c).to → IsReached g (channel g c).from

-- the rates at one end of a channel, over a cycle of n firings
pub record IsCycle (n : ℕ) (rates : List ℕ) : Type 0 where
  pub all : length rates ≡ n
  pub some : 0 < n
  pub short : n ≤ MAX_CYCLE
  pub moves : 0 < sum rates
  pub small : (i : ℕ) → slice_index rates i ≤ MAX_RATE

-- each channel's ends are actors and have a rate for each firing of their cycles; the numbers are within the limits,
-- and the graph is connected
pub record IsShape (g : GraphValue) : Type 0 where
  pub some : 0 < g.actors
  pub few : g.actors ≤ MAX_ACTORS
  pub narrow : length g.channels ≤ MAX_LINKS
  pub put : (c : ℕ) → c < length g.channels → IsCycle (cycle g (channel g c).from) (channel g c).put
  pub take : (c : ℕ) → c < length g.channels → IsCycle (cycle g (channel g c).to) (channel g c).take
  pub connected : (a : ℕ) → a < g.actors → IsReached g a
  pub from_in : (c : ℕ) → c < length g.channels → (channel g c).from < g.actors
  pub to_in : (c : ℕ) → c < length g.channels → (channel g c).to < g.actors
  pub initial_small : (c : ℕ) → c < length g.channels → (channel g c).initial ≤ MAX_INITIAL

-- two graphs with the same rates, for example a net and the graph made of it
pub record IsAlike (r t : Rates) : Type 0 where
  pub actors : r.actors ≡ t.actors
  pub channels : r.channels ≡ t.channels
  pub source : (c : ℕ) → c < r.channels → r.source c ≡ t.source c
  pub target : (c : ℕ) → c < r.channels → r.target c ≡ t.target c
  pub initial : (c : ℕ) → c < r.channels → r.initial c ≡ t.initial c
  pub produced : (c i : ℕ) → c < r.channels → r.produced c i ≡ t.produced c i
  pub consumed : (c i : ℕ) → c < r.channels → r.consumed c i ≡ t.consumed c i
