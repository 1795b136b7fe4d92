-- What is known of a net whose nodes fire.
use Rattle.std.proofs.Common.{◌≡◌, ℕ, ◌<◌, [], ◌∷◌, length, map, get_or, subst, ap, ◌∙◌, arith}
use Rattle.std.specs.List.{range_with_len}
use Rattle.std.proofs.lemmas.List.{get_or_default}
use Rattle.sdf_actor.specs.declared.node.Node.TheVariants.{Sink}
use Rattle.sdf_actor.specs.Steps.{Steps}
use Rattle.sdf_actor.specs.Histories.{IsWired}
use Rattle.sdf_actor.specs.Nets.{Netlist, node, wiring, to_port, inputs_of, IsNet}
use Rattle.sdf_queues.proofs.Theorems.{nodes_take_theirs}

pub record Known {A S T : Type 0} (s : Steps A S T) (n : Netlist A T) : Type 0 where
  pub good : IsNet s n
  pub wired : IsWired (wiring s n)

module _ {A S T : Type 0} (s : Steps A S T) (n : Netlist A T) (net : Known s n) (a : ℕ)
    (known : a < length n.nodes) where
  -- a channel that leads to a node is at one of its ports
  pub ins_all : (c : ℕ) → c < length n.wires → (wiring s n).rates.target c ≡ a →
      (i : ℕ) × (i < length ((wiring s n).ins a)) × (get_or ((wiring s n).ins a) i 0 ≡ c)
  ins_all c l e = let at = (nodes_take_theirs s n a c net.good known l).0 e in
      (at.0, at.1, get_or_default ((wiring s n).ins a) at.0 0 c at.1 ∙ at.2)

  -- the one channel into a sink
  pub into_sink : (ext block : ℕ) → node n a ≡ Sink ext block →
      ((wiring s n).ins a ≡ to_port n a 0 ∷ []) × (to_port n a 0 < length n.wires)
      × ((wiring s n).rates.target (to_port n a 0) ≡ a)
  into_sink ext block is =
      let into : (wiring s n).ins a ≡ to_port n a 0 ∷ [] =
      ap (λ x. map (to_port n a) (range_with_len 0 (inputs_of s x))) is in
      let one : length ((wiring s n).ins a) ≡ 1 = ap length into in
      let first : get_or ((wiring s n).ins a) 0 0 ≡ to_port n a 0 = ap (λ xs. get_or xs 0 0) into in
      let at = net.wired.ins_are a 0 known (omega (arith, one)) in
      (into, subst (λ c. c < length n.wires) first at.0, subst (λ c. (wiring s n).rates.target c ≡ a) first at.1)
