use Rattle.std.proofs.Common.{◌≡◌, ◌<◌, ℕ, Some, length, get_or, slice_index, sym, ap, ◌∙◌, subst}
use Rattle.std.specs.Prelude.{IsSome}
use Rattle.sdf_actor.specs.Nets.{wire}
use Rattle.sdf_actor.specs.Wires.{lists}
use Rattle.sdf_actor.proofs.Theorems.{nets_are_wired}
use Rattle.sdf_rings.specs.RingNodes.{IsRingNode}
use Rattle.sdf_rings.specs.Begun.{HasBegun}
use Rattle.sdf_rings.specs.Openings.{end_at}
use Rattle.sdf_rings.proofs.Begun.{AtNode, taken_out, ins_there, outs_there, not_in, not_out, ins_once, has_ins}
use Rattle.sdf_rings.proofs.Begun.{has_outs, ins_at, outs_at, own_are_pairs}
use Rattle.sdf_rings.proofs.Lists.{if_ok, ok_then}
use Rattle.sdf_rings.proofs.setup.ring_nodes.begin_node.Given.{Over}
use Rattle.sdf_rings.proofs.setup.ring_nodes.begin_node.Goals.{After-channels_in}
use Rattle.sdf_rings.proofs.setup.ring_nodes.begin_node.Goals as goal

at_node : (g : Over) (c : After-channels_in g) →
    AtNode g.A.Actor.steps c.args.start.now.net.now c.args.a c.args.ends.now.producers.items
    c.args.ends.now.consumers.items
at_node g c = record {
  good = c.requires.start.can.net;
  wired = nets_are_wired g.A.Actor.steps c.args.start.now.net.now c.requires.start.can.net;
  known = c.requires.known;
  has = c.requires.ends;
}

pub take_ends-requires-clause-there : goal.take_ends-requires-clause-there
take_ends-requires-clause-there g c =
    let here = at_node g (goal.at.take_ends-requires-clause-there g c).After-channels_in in
    subst (λ cs. (i : ℕ) → i < length cs → IsSome (end_at c.args.ends.now.consumers.items (slice_index cs i)))
    (sym c.channels_in.ensures) (ins_there here)

pub take_ends-requires-2-clause-there : goal.take_ends-requires-2-clause-there
take_ends-requires-2-clause-there g c =
    let here = at_node g (goal.at.take_ends-requires-2-clause-there g c).After-channels_in in
    subst (λ cs. (i : ℕ) → i < length cs → IsSome (end_at c.args.ends.now.producers.items (slice_index cs i)))
    (sym c.channels_out.ensures) (outs_there here)

pub take_ends-requires-2-clause-once : goal.take_ends-requires-2-clause-once
take_ends-requires-2-clause-once g c =
    let n = c.args.start.now.net.now in
    let wired = nets_are_wired g.A.Actor.steps n c.requires.start.can.net in
    subst (λ cs. (i k : ℕ) → i < length cs → k < length cs → slice_index cs i ≡ slice_index cs k → i ≡ k)
    (sym c.channels_out.ensures) (λ i k. wired.outs_once c.args.a i k c.requires.known)

pub take_ends-requires-clause-once : goal.take_ends-requires-clause-once
take_ends-requires-clause-once g c =
    let here = at_node g (goal.at.take_ends-requires-clause-once g c).After-channels_in in
    subst (λ cs. (i k : ℕ) → i < length cs → k < length cs → slice_index cs i ≡ slice_index cs k → i ≡ k)
    (sym c.channels_in.ensures) (ins_once here)

pub make_node-requires-clause-ins : goal.make_node-requires-clause-ins
make_node-requires-clause-ins g c κs within =
    let here = at_node g (goal.at.make_node-requires-clause-ins g c).After-channels_in in
    has_ins here c.in_ok-ins.ins.items
    (taken_out _ c.in_ok-ins.ins _ _ c.channels_in.ensures c.in_ok-ins.ensures.all c.in_ok-ins.ensures.each)

pub make_node-requires-clause-outs : goal.make_node-requires-clause-outs
make_node-requires-clause-outs g c κs within =
    let here = at_node g (goal.at.make_node-requires-clause-outs g c).After-channels_in in
    has_outs here c.in_ok-outs.outs.items
    (taken_out _ c.in_ok-outs.outs _ _ c.channels_out.ensures c.in_ok-outs.ensures.all c.in_ok-outs.ensures.each)

pub make_node-requires-clause-own : goal.make_node-requires-clause-own
make_node-requires-clause-own g c κs within =
    let here = at_node g (goal.at.make_node-requires-clause-own g c).After-channels_in in
    own_are_pairs here c.in_ok-ins.ins.items c.in_ok-outs.outs.items
    (taken_out _ c.in_ok-ins.ins _ _ c.channels_in.ensures c.in_ok-ins.ensures.all c.in_ok-ins.ensures.each)
    (taken_out _ c.in_ok-outs.outs _ _ c.channels_out.ensures c.in_ok-outs.ensures.all c.in_ok-outs.ensures.each)

pub returns-clause-producers : goal.returns-clause-producers
returns-clause-producers g c =
    let n = c.args.start.now.net.now in
    let here = at_node g (goal.at.returns-clause-producers g c).After-channels_in in
    ok_then c.make_node.result (IsRingNode g.A.Actor.steps n (lists c.args.start.now.inputs.now))
    (λ _. (k : ℕ) → ((wire n k).from.0 ≡ c.args.a → ⊥) →
    end_at c.take_ends-2.new.ends.items k ≡ end_at c.args.ends.now.producers.items k) c.make_node.ensures.ring_node
    (λ _ _ k apart. c.in_ok-outs.ensures.others k
    (subst (λ cs. (i : ℕ) → i < length cs → slice_index cs i ≡ k → ⊥) (sym c.channels_out.ensures)
    (not_out here k apart)))

pub returns-clause-consumers : goal.returns-clause-consumers
returns-clause-consumers g c =
    let n = c.args.start.now.net.now in
    let here = at_node g (goal.at.returns-clause-consumers g c).After-channels_in in
    ok_then c.make_node.result (IsRingNode g.A.Actor.steps n (lists c.args.start.now.inputs.now))
    (λ _. (k : ℕ) → ((wire n k).to.0 ≡ c.args.a → ⊥) →
    end_at c.take_ends.new.ends.items k ≡ end_at c.args.ends.now.consumers.items k) c.make_node.ensures.ring_node
    (λ _ _ k apart. c.in_ok-ins.ensures.others k
    (subst (λ cs. (i : ℕ) → i < length cs → slice_index cs i ≡ k → ⊥) (sym c.channels_in.ensures)
    (not_in here k apart)))

pub returns-clause-begun : goal.returns-clause-begun
returns-clause-begun g c =
    let s = g.A.Actor.steps in
    let start = c.args.start.now in
    let n = start.net.now in
    let a = c.args.a in
    let ends = c.args.ends.now in
    let ins = c.in_ok-ins.ins in
    let outs = c.in_ok-outs.outs in
    let here = at_node g (goal.at.returns-clause-begun g c).After-channels_in in
    let at_in = ins_at here ins.items
    (taken_out _ ins _ _ c.channels_in.ensures c.in_ok-ins.ensures.all c.in_ok-ins.ensures.each) in
    let at_out = outs_at here outs.items
    (taken_out _ outs _ _ c.channels_out.ensures c.in_ok-outs.ensures.all c.in_ok-outs.ensures.each) in
    if_ok c.make_node.result (IsRingNode s n (lists start.inputs.now))
    (λ x. (x.actor ≡ a) × (x.done ≡ 0) × (x.asked ≡ slice_index start.asked.items a))
    (λ x. (x.ins ≡ ins) × (x.outs ≡ outs))
    (HasBegun s n (lists start.inputs.now) (slice_index start.asked.items) ends.producers.items ends.consumers.items a)
    c.make_node.ensures.ring_node c.make_node.ensures.begun c.make_node.ensures.ends
    (λ x is begun same. record {
      is = is;
      actor_is = begun.0;
      undone = begun.1;
      asked_is = begun.2;
      ins_are = λ k d l e. at_in k d l e ∙ ap (λ v. Some (get_or v.items (wire n k).to.1 d)) (sym same.0);
      outs_are = λ k d l e. at_out k d l e ∙ ap (λ v. Some (get_or v.items (wire n k).from.1 d)) (sym same.1);
    })
