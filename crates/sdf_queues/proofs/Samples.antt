-- How many samples a block moves at a source or a sink.
use Rattle.std.proofs.Common.{◌≡◌, ℕ, ◌*◌, ◌≤◌, ◌<◌, ◌⊎◌, inl, inr, length, get_or, ap, arith}
use Rattle.std.specs.Prelude.{is_some, sum}
use Rattle.std.proofs.Math.Nat.{mul-le-mul, mul-le-mul_left}
use Rattle.std.proofs.lemmas.Bool.{cases_lt}
use Rattle.std.proofs.lemmas.List.{get_or_past}
use Rattle.std.proofs.lemmas.List.Sums.{passes_at_first, get_or-le-sum_by}
use Rattle.sdf_limits.specs.declared.TheConstants.{MAX_RATE, MAX_BLOCK}
use Rattle.sdf_graph.specs.Rates.{IsShape}
use Rattle.sdf_actor.specs.declared.node.Node.{Node}
use Rattle.sdf_actor.specs.declared.node.Node.TheVariants.{Sink}
use Rattle.sdf_actor.specs.Graphs.{graph_of}
use Rattle.sdf_actor.specs.Nets.{Netlist, node, IsNet}
use Rattle.sdf_actor.specs.Sides.{list_of, block_of, first_with, period_samples}
use Rattle.sdf_actor.specs.Steps.{Steps}
use Rattle.sdf_actor.proofs.Theorems.{blocks_are_rates}
use Rattle.sdf_queues.specs.Periods.{AreBlocksSmall}

pub blocks_small : {A S T : Type 0} (s : Steps A S T) (n : Netlist A T) → IsNet s n → IsShape (graph_of s n) →
    AreBlocksSmall s n
blocks_small {A} s n net shape j q lists least short = go (cases_lt first (length n.nodes))
  where
    first : ℕ
    first = first_with lists n.nodes

    go : (first < length n.nodes) ⊎ (length n.nodes ≤ first) →
        j * period_samples n.nodes lists q ≤ MAX_RATE * MAX_BLOCK
    go (inl low) =
        let on = passes_at_first (λ (x : Node A). is_some (list_of lists x)) n.nodes (Sink 0 0) low in
        let small = (blocks_are_rates s n net shape lists first low on).1 in
        let each : get_or q first 0 ≤ sum q =
        get_or-le-sum_by (λ x. x) q first 0 (omega (arith, least.is.all, low)) in
        let period : block_of (node n first) * get_or q first 0 ≤ MAX_RATE * sum q = mul-le-mul small each in
        let block : j * (block_of (node n first) * get_or q first 0) ≤ j * (MAX_RATE * sum q) =
        mul-le-mul_left j period in
        let turn : j * (MAX_RATE * sum q) ≡ MAX_RATE * (j * sum q) = omega arith in
        omega (arith, block, turn, short)
    go (inr none) =
        let nothing : block_of (get_or n.nodes first (Sink 0 0)) ≡ 0 =
        ap block_of (get_or_past n.nodes first (Sink 0 0) none) in
        let none_moved : j * (block_of (get_or n.nodes first (Sink 0 0)) * get_or q first 0) ≡
        j * (0 * get_or q first 0) = ap (λ m. j * (m * get_or q first 0)) nothing in
        omega (arith, none_moved)
