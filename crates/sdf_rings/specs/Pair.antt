-- A ring at work: `in` puts 2 samples in a firing and `out` takes 3, over a channel that holds at most 6.
use Rattle.std.specs.Prelude.{◌≡◌, ℕ, ◌-◌, List, [], ◌∷◌, Option, Some, None}
use Rattle.sdf_prec.specs.declared.firing.Firing.{Firing}
use Rattle.sdf_actor.specs.declared.node.Node.TheVariants.{Source, Sink}
use Rattle.sdf_actor.specs.Steps.{Steps}
use Rattle.sdf_actor.specs.Nets.{Netlist, wiring}
use Rattle.sdf_rings.specs.Machine.{Machine, Event, Take, Put, put_on, taken_from, IsAllowed}
use Rattle.sdf_rings.specs.MachineLaws.{MachinePlan, IsMachinePlan, IsRunOf, firings, capacity, reached}

abbrev pub pair : {A T : Type 0} → Netlist A T
pair = record { nodes = Source 0 2 ∷ Sink 0 3 ∷ []; wires = record { from = (0, 0); to = (1, 0); initial = [] } ∷ [] }

-- the block fires `in` three times on the first processor and then `out` twice on the second
abbrev pub first : ℕ → List (Option Firing)
first i = Some (record { actor = 0; number = i }) ∷ None ∷ []

abbrev pub second : ℕ → List (Option Firing)
second i = None ∷ Some (record { actor = 1; number = i }) ∷ []

abbrev pub plan : {A S T : Type 0} → Steps A S T → MachinePlan
plan s = record {
  rates = (wiring s pair).rates;
  period = 3 ∷ 2 ∷ [];
  blocking = 1;
  width = 2;
  table = record {
    rows = first 0 ∷ first 1 ∷ first 2 ∷ second 0 ∷ second 1 ∷ [];
    order = 0 ∷ 0 ∷ 0 ∷ 1 ∷ 1 ∷ [];
    homes = Some 0 ∷ Some 1 ∷ [];
    caps = 6 ∷ [];
  };
}

-- what the ring holds
abbrev pub held : {A S T : Type 0} → Steps A S T → Machine T → ℕ
held s m = put_on (wiring s pair) m 0 - taken_from (wiring s pair) m 0

abbrev pub three_puts : List Event
three_puts = Put 0 ∷ Put 0 ∷ Put 0 ∷ []

abbrev pub and_a_take : List Event
and_a_take = Put 0 ∷ Put 0 ∷ Put 0 ∷ Take 0 ∷ []

-- in a run of two blocks three puts are allowed from the start, and a fourth is not
pub record ThreePutsFill {A S T : Type 0} (s : Steps A S T) (inputs : List (List T)) : Type 0 where
  pub run : IsRunOf s pair inputs (plan s) 2 three_puts
  pub full : held s (reached s pair inputs three_puts) ≡ 6
  pub no_more : IsAllowed (wiring s pair) (firings (plan s) 2) (capacity (plan s))
      (reached s pair inputs three_puts) (Put 0) → ⊥

-- after one take there is room for a put again
pub record ATakeMakesRoom {A S T : Type 0} (s : Steps A S T) (inputs : List (List T)) : Type 0 where
  pub run : IsRunOf s pair inputs (plan s) 2 and_a_take
  pub half : held s (reached s pair inputs and_a_take) ≡ 3
  pub more : IsAllowed (wiring s pair) (firings (plan s) 2) (capacity (plan s))
      (reached s pair inputs and_a_take) (Put 0)

abbrev pub PairIsPlanned : {A S T : Type 0} → Steps A S T → Type 0
PairIsPlanned s = IsMachinePlan s pair (plan s)

abbrev pub PairFills : {A S T : Type 0} → Steps A S T → Type 0
PairFills {A} {S} {T} s = (inputs : List (List T)) → ThreePutsFill s inputs

abbrev pub PairGoesOn : {A S T : Type 0} → Steps A S T → Type 0
PairGoesOn {A} {S} {T} s = (inputs : List (List T)) → ATakeMakesRoom s inputs
