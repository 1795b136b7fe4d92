-- A resumed net reads the same lists.
use Rattle.std.proofs.Common.{◌≡◌, ℕ, ◌+◌, ◌*◌, ◌<◌, List, [], ◌∷◌, length, map, max, cond, not, get_or, Option, None}
use Rattle.std.proofs.Common.{refl, sym, ap, ◌∙◌, subst, arith}
use Rattle.std.specs.Prelude.{is_some}
use Rattle.std.specs.List.{fold, position_or_len}
use Rattle.std.specs.Option.{option_map_or}
use Rattle.std.proofs.Math.ListN.{get_or-map as get_or_mapped}
use Rattle.std.proofs.lemmas.List.{get_or-map, length-map, same_lists}
use Rattle.std.proofs.lemmas.List.Folds.{fold-map}
use Rattle.sdf_actor.specs.declared.node.Node.{Node}
use Rattle.sdf_actor.specs.declared.node.Node.TheVariants.{Source, Sink, Inner}
use Rattle.sdf_actor.specs.declared.net_state.NetState.{NetState}
use Rattle.sdf_actor.specs.declared.sides.Lists.{Lists}
use Rattle.sdf_actor.specs.declared.sides.Lists.TheVariants.{Inputs, Outputs}
use Rattle.sdf_actor.specs.Nets.{Netlist, node}
use Rattle.sdf_actor.specs.NetStates.{IsResumedNode, IsResumedNet}
use Rattle.sdf_actor.specs.Sides.{list_of, list_count, block_of, first_with, period_samples}
use Rattle.sdf_actor.specs.Steps.{Steps}
use Rattle.sdf_queues.specs.RunResults.{AreInputs}
use Rattle.sdf_queues.specs.Feeds.{ResumedNetsNeed}

-- the list of a node and the samples that it moves, whatever actors compute
abbrev lists_of : {A : Type 0} → Lists → Node A → Option ℕ × ℕ
lists_of lists x = (list_of lists x, block_of x)

same_node : {A B S T : Type 0} (s : Steps A S T) (r : Steps B S T) (state : Option S) (lists : Lists) (x : Node A)
    (y : Node B) → IsResumedNode s r state x y → lists_of lists y ≡ lists_of lists x
same_node s r state Inputs (Source ext block) y e = ap (lists_of Inputs) e
same_node s r state Inputs (Sink ext block) y e = ap (lists_of Inputs) e
same_node s r state Inputs (Inner x) y (b, now, e, _, _) = ap (lists_of Inputs) e
same_node s r state Outputs (Source ext block) y e = ap (lists_of Outputs) e
same_node s r state Outputs (Sink ext block) y e = ap (lists_of Outputs) e
same_node s r state Outputs (Inner x) y (b, now, e, _, _) = ap (lists_of Outputs) e

-- how many lists there are, of the numbers of the nodes' lists
count_of : {A : Type 0} (lists : Lists) (xs : List (Node A)) →
    fold (λ m o. max m (option_map_or (λ e. e + 1) o.0 0)) 0 (map (lists_of lists) xs) ≡ list_count lists xs
count_of lists xs = fold-map (λ (m : ℕ) (o : Option ℕ × ℕ). max m (option_map_or (λ e. e + 1) o.0 0))
    (lists_of lists) 0 xs

-- and the first node that has one
first_of : {A : Type 0} (lists : Lists) (xs : List (Node A)) →
    position_or_len (λ (o : Option ℕ × ℕ). is_some o.0) (map (lists_of lists) xs) ≡ first_with lists xs
first_of lists [] = refl
first_of lists (x ∷ xs) =
    let more = first_of lists xs in
    λ κ. cond (not (is_some (list_of lists x))) (1 + more κ) 0

-- so the samples that a source reads in a period
abbrev asked : List (Option ℕ × ℕ) → List ℕ → ℕ
asked v q = (get_or v (position_or_len (λ o. is_some o.0) v) (None, 0)).1
    * get_or q (position_or_len (λ o. is_some o.0) v) 0

period_samples-asked : {A : Type 0} (xs : List (Node A)) (q : List ℕ) →
    period_samples xs Inputs q ≡ asked (map (lists_of Inputs) xs) q
period_samples-asked xs q =
    let block : block_of (get_or xs (first_with Inputs xs) (Sink 0 0)) ≡
    (get_or (map (lists_of Inputs) xs) (first_with Inputs xs) (None, 0)).1 =
    ap (λ (o : Option ℕ × ℕ). o.1) (sym (get_or_mapped (lists_of Inputs) xs (first_with Inputs xs) (Sink 0 0))) in
    ap (λ b. b * get_or q (first_with Inputs xs) 0) block
    ∙ ap (λ f. (get_or (map (lists_of Inputs) xs) f (None, 0)).1 * get_or q f 0) (sym (first_of Inputs xs))

module _ {A B S T : Type 0} {s : Steps A S T} {r : Steps B S T} {n : Netlist A T} {rest : NetState T S}
    {m : Netlist B T}
    (begins : IsResumedNet s r n rest m) (l : Lists) where
  same_lists_of : map (lists_of l) m.nodes ≡ map (lists_of l) n.nodes
  same_lists_of =
      same_lists (map (lists_of l) m.nodes) (map (lists_of l) n.nodes)
      (length-map m.nodes (lists_of l) ∙ (begins.nodes ∙ sym (length-map n.nodes (lists_of l))))
      (λ a d h.
      let here : a < length m.nodes = omega (arith, length-map m.nodes (lists_of l), h) in
      let there : a < length n.nodes = omega (arith, begins.nodes, here) in
      get_or-map (lists_of l) m.nodes a (Sink 0 0) d here ∙
      (same_node s r (get_or rest.states.items a None) l (node n a) (node m a) (begins.each a there)
      ∙ sym (get_or-map (lists_of l) n.nodes a (Sink 0 0) d there)))

  pub as_many_lists : list_count l m.nodes ≡ list_count l n.nodes
  as_many_lists = sym (count_of l m.nodes) ∙ (ap (fold
      (λ (k : ℕ) (o : Option ℕ × ℕ). max k (option_map_or (λ e. e + 1) o.0 0)) 0) same_lists_of
      ∙ count_of l n.nodes)

pub begun_nets_ask : {A B S T : Type 0} (s : Steps A S T) (r : Steps B S T) → ResumedNetsNeed s r
begun_nets_ask s r n rest m q periods inputs begins =
    let count = as_many_lists begins Inputs in
    let samples : period_samples m.nodes Inputs q ≡ period_samples n.nodes Inputs q =
    period_samples-asked m.nodes q ∙ (ap (λ v. asked v q) (same_lists_of begins Inputs)
    ∙ sym (period_samples-asked n.nodes q)) in
    let one : AreInputs (list_count Inputs m.nodes) (periods * period_samples m.nodes Inputs q) inputs ≡
    AreInputs (list_count Inputs n.nodes) (periods * period_samples n.nodes Inputs q) inputs =
    λ κ. AreInputs (count κ) (periods * samples κ) inputs in
    (subst (λ X. X) one, subst (λ X. X) (sym one))
