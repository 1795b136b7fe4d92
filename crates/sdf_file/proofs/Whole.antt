-- What holds of every design holds of the design of a document.
use Rattle.sdf_limits.specs.declared.TheConstants.{MAX_CHANNEL, MAX_COST}
use Rattle.std.proofs.Common.{◌≡◌, ◌≤◌, ◌<◌, ◌+◌, ℕ, zero, suc, ℤ, List, [], ◌∷◌, map, max, length, true, refl, ap}
use Rattle.std.proofs.Common.{arith}
use Rattle.std.specs.Prelude.{slice_index}
use Rattle.std.specs.List.{All, fold}
use Rattle.std.specs.Option.{option_map_or}
use Rattle.std.proofs.Math.Nat.{max-le}
use Rattle.std.proofs.lemmas.List.Elements.{All-head, All-tail}
use Rattle.sdf_document.specs.declared.entry.ActorEntry.{ActorEntry}
use Rattle.sdf_document.specs.declared.entry.KindEntry.{KindEntry}
use Rattle.sdf_document.specs.declared.entry.KindEntry.TheVariants.{Input as InputEntry, Output as OutputEntry, Fir}
use Rattle.sdf_document.specs.declared.entry.KindEntry.TheVariants.{Decimate, Interpolate, Add, Fork, Gain, Delay}
use Rattle.sdf_document.specs.declared.entry.KindEntry.TheVariants.{Table, Deal, Gather, Clip, Offset}
use Rattle.sdf_document.specs.Kinds.{IsWithin}
use Rattle.sdf_document.specs.Actors.{ActorValue, actor_view, IsActorWithin}
use Rattle.sdf_actor.specs.declared.node.Node.{Node}
use Rattle.sdf_actor.specs.declared.sides.Lists.{Lists}
use Rattle.sdf_actor.specs.declared.sides.Lists.TheVariants.{Inputs, Outputs}
use Rattle.sdf_actor.specs.Sides.{list_of, list_count}
use Rattle.sdf_kit.specs.declared.kit.Kit.{Kit}
use Rattle.sdf_kit.specs.Kit.{kit_steps}
use Rattle.sdf_actor.specs.Nets.{Netlist}
use Rattle.sdf_actor.specs.NetFaults.{IsNetFault}
use Rattle.sdf_actor.specs.declared.fault.NetFault.{NetFault}
use Rattle.sdf_actor.specs.declared.fault.NetFault.TheVariants as nets
use Rattle.sdf_file.specs.Faults.{of_net}
use Rattle.sdf_file.specs.Designs.{node_of, HaveCosts, IsMadeFault}

-- one more than the number of a node's list, or 0
abbrev pub list_room : Lists → Node Kit → ℕ
list_room lists x = option_map_or (λ e. e + 1) (list_of lists x) 0

small_list : (lists : Lists) (k : KindEntry) → IsWithin true k → list_room lists (node_of k) ≤ MAX_CHANNEL + 1
small_list Inputs (InputEntry channel block) h = omega (arith, h.0.0.1)
small_list Inputs (OutputEntry channel block) h = omega arith
small_list Inputs (Fir up down shift taps) h = omega arith
small_list Inputs (Decimate factor) h = omega arith
small_list Inputs (Interpolate factor) h = omega arith
small_list Inputs (Add ways) h = omega arith
small_list Inputs (Fork ways) h = omega arith
small_list Inputs (Gain g shift) h = omega arith
small_list Inputs (Delay len) h = omega arith
small_list Inputs (Table offset values) h = omega arith
small_list Inputs (Deal ways run) h = omega arith
small_list Inputs (Gather ways run) h = omega arith
small_list Inputs (Clip least greatest) h = omega arith
small_list Inputs (Offset value) h = omega arith
small_list Outputs (InputEntry channel block) h = omega arith
small_list Outputs (OutputEntry channel block) h = omega (arith, h.0.0.1)
small_list Outputs (Fir up down shift taps) h = omega arith
small_list Outputs (Decimate factor) h = omega arith
small_list Outputs (Interpolate factor) h = omega arith
small_list Outputs (Add ways) h = omega arith
small_list Outputs (Fork ways) h = omega arith
small_list Outputs (Gain g shift) h = omega arith
small_list Outputs (Delay len) h = omega arith
small_list Outputs (Table offset values) h = omega arith
small_list Outputs (Deal ways run) h = omega arith
small_list Outputs (Gather ways run) h = omega arith
small_list Outputs (Clip least greatest) h = omega arith
small_list Outputs (Offset value) h = omega arith

small_lists : (lists : Lists) (es : List ActorEntry) (m : ℕ) → m ≤ MAX_CHANNEL + 1 → All (IsActorWithin true) es
    → fold (λ n x. max n (list_room lists x)) m (map (λ (a : ActorValue). node_of a.kind) (map actor_view es)) ≤
    MAX_CHANNEL + 1
small_lists lists [] m h all = h
small_lists lists (e ∷ es) m h all =
    small_lists lists es (max m (list_room lists (node_of e.kind)))
    (max-le h (small_list lists e.kind (All-head (IsActorWithin true) e es all).0))
    (All-tail (IsActorWithin true) e es all)

pub few_lists : (lists : Lists) (es : List ActorEntry) → All (IsActorWithin true) es
    → list_count lists (map (λ (a : ActorValue). node_of a.kind) (map actor_view es)) ≤ MAX_CHANNEL + 1
few_lists lists es all = small_lists lists es 0 (omega arith) all

abbrev pub costs_of : List ActorEntry → List ℕ
costs_of es = map (λ (a : ActorValue). a.cost) (map actor_view es)

each_costs : (es : List ActorEntry) → All (IsActorWithin true) es → (a : ℕ) → a < length es →
    (1 ≤ slice_index (costs_of es) a) × (slice_index (costs_of es) a ≤ MAX_COST)
each_costs [] all a h = absurd (omega arith)
each_costs (e ∷ es) all zero h = (All-head (IsActorWithin true) e es all).1.1.0
each_costs (e ∷ es) all (suc a) h = each_costs es (All-tail (IsActorWithin true) e es all) a (omega arith)

as_many : (es : List ActorEntry) → length (costs_of es) ≡ length es
as_many [] = refl
as_many (e ∷ es) = ap suc (as_many es)

-- actors within their limits have lawful costs
pub have_costs : (es : List ActorEntry) → All (IsActorWithin true) es → HaveCosts (length es) (costs_of es)
have_costs es all = record { all = as_many es; each = each_costs es all }

-- a fault of the net as one of the file
pub made_fault : (n : Netlist Kit ℤ) (fault : NetFault) → IsNetFault kit_steps n fault → IsMadeFault n (of_net fault)
made_fault n nets.OutOfMemory h = tt
made_fault n (nets.Graph f) h = h
made_fault n (nets.NoPort c) h = h
made_fault n (nets.PortTwice c) h = h
made_fault n (nets.PortOpen a side p) h = h
made_fault n (nets.ExtTwice a) h = h
made_fault n (nets.InputRates a) h = h
made_fault n (nets.OutputRates a) h = h
made_fault n nets.NoInput h = h
made_fault n (nets.NoOutput e) h = h
