use Rattle.std.proofs.Common.{◌≡◌, ◌<◌, [], length, map, get_or, drop, sym, ap, ◌∙◌, subst}
use Rattle.std.proofs.lemmas.List.{get_or-map, length-map}
use Rattle.sdf_actor.specs.declared.node.Node.TheVariants.{Sink}
use Rattle.sdf_actor.specs.Nets.{Wire, no_wire, wiring}
use Rattle.sdf_actor.specs.NetStates.{state_left, IsNetState}
use Rattle.sdf_actor.specs.Wires.{lists, wires, netlist}
use Rattle.sdf_actor.proofs.ResumedGraphs.{no_firing}
use Rattle.sdf_actor.proofs.Netlists.{wired}
use Rattle.sdf_actor.proofs.net.Net.initial_state.Goals as goal

pub returns : goal.returns
returns g c = λ inputs.
    let s = g.A.Actor.steps in
    let n = netlist c.self.inside.nodes.items c.self.inside.links.items in
    let good = c.self.invariant.is_net in
    let begins = λ (w : Wire g.row.A-Token.Denot). w.initial in
    let nodes = c.deref.ensures.value in
    let held : lists c.in_ok-initial_samples.field-0.items ≡ map begins (wires c.self.inside.links.items) =
    c.in_ok-initial_samples.ensures ∙ ap (λ ls. map begins (wires ls)) c.deref-2.ensures.value in
    let none = (wired s n good).sound.consumed_none in
    subst (λ v. IsNetState s v inputs (λ _. 0) (record {
      states = c.in_ok-first_states.field-0;
      held = c.in_ok-initial_samples.field-0;
    })) c.self.view_is
    (record {
      history = (wiring s n).starts;
      is = no_firing s n good inputs;
      left = record {
        nodes = c.in_ok-first_states.ensures.all ∙ ap length nodes;
        states = λ a l. c.in_ok-first_states.ensures.each a (subst (λ v. a < length v) (sym nodes) l)
            ∙ ap (λ v. state_left s (get_or v a (Sink 0 0)) []) nodes;
        channels = sym (length-map c.in_ok-initial_samples.field-0.items (λ v. v.items))
            ∙ (ap length held ∙ length-map (wires c.self.inside.links.items) begins);
        held = λ d l. ap (λ v. get_or v d []) held ∙ (get_or-map begins (wires c.self.inside.links.items) d no_wire [] l
            ∙ ap (λ i. drop i ((wiring s n).starts d)) (sym (none d)));
      };
    })
