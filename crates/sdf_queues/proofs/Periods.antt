-- The lists of a net's nodes, and what every run depends on.
use Rattle.std.proofs.Common.{◌≡◌, ℕ, ◌≤◌, ◌<◌, Some, length, ap, inl, inr, ◌⊎◌, arith}
use Rattle.std.proofs.lemmas.Bool.{cases_lt}
use Rattle.sdf_actor.specs.declared.node.Node.TheVariants.{Sink}
use Rattle.sdf_actor.specs.declared.sides.Lists.TheVariants.{Outputs}
use Rattle.sdf_actor.specs.Nets.{Netlist, node}
use Rattle.sdf_actor.specs.Sides.{list_of, list_count}
use Rattle.sdf_actor.specs.NetFaults.{HasLists}
use Rattle.sdf_actor.specs.Steps.{Steps}
use Rattle.sdf_actor.proofs.Theorems.{accepted_is_lawful, list_below, periods_are_whole}
use Rattle.sdf_queues.specs.Laws.{NetsHaveFacts}
use Rattle.sdf_queues.specs.Periods.{AreApart, HasSinks}
use Rattle.sdf_queues.proofs.Cycles.{phases}

-- no two sinks make one list
pub sinks_apart : {A T : Type 0} (n : Netlist A T) → HasLists n.nodes → AreApart n
sinks_apart n has a d e x y la ld xa xd = go (cases_lt a d) (cases_lt d a)
  where
    at_a : list_of Outputs (node n a) ≡ Some e
    at_a = ap (list_of Outputs) xa

    at_d : list_of Outputs (node n d) ≡ Some e
    at_d = ap (list_of Outputs) xd

    go : (a < d) ⊎ (d ≤ a) → (d < a) ⊎ (a ≤ d) → a ≡ d
    go (inl less) _ = absurd (has.once d ld (inr (e, at_d, (a, less, at_a))))
    go (inr _) (inl less) = absurd (has.once a la (inr (e, at_a, (d, less, at_d))))
    go (inr p) (inr q) = omega arith

-- the list of a sink is one of the outputs
pub sinks_below : {A T : Type 0} (n : Netlist A T) (a ext block : ℕ) → a < length n.nodes → node n a ≡ Sink ext block →
    ext < list_count Outputs n.nodes
sinks_below n a ext block l x = list_below Outputs n.nodes a ext l (ap (list_of Outputs) x)

pub has_sinks : {A T : Type 0} (n : Netlist A T) → HasLists n.nodes → HasSinks n
has_sinks n has = record { apart = sinks_apart n has; below = sinks_below n }

pub has_facts : {A S T : Type 0} (s : Steps A S T) → NetsHaveFacts s
has_facts s n accepted =
    let lawful = accepted_is_lawful s n accepted.0 accepted.1 in
    record {
      net = lawful.net;
      graph = lawful.graph;
      alike = lawful.alike;
      phases = phases s (periods_are_whole s) n accepted.0 lawful.net lawful.graph lawful.alike accepted.1;
      sinks = has_sinks n accepted.1.lists;
    }
