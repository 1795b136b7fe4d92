use Rattle.std.proofs.Common.{rules, ◌≡◌, ◌∙◌, ◌++◌, ◌<◌, length, take, arith, subst, sym, inr, false}
use Rattle.std.specs.Prelude.{slice_range}
use Rattle.std.proofs.Math.Seq.{take-length}
use Rattle.sdf_profile.specs.Written.{DifferInCosts, empty, kept}
use Rattle.std.proofs.lemmas.Slice.{between_to_end}
use Rattle.sdf_profile.proofs.Pieces.{behind_nothing, written_turn, written_fault, written_end, costed_by, differ_turn}
use Rattle.sdf_profile.proofs.Ranges.{take-range}
use Rattle.sdf_profile.proofs.replaced.text_with.Goals as goal

pub loop-actor-init : goal.loop-actor-init
loop-actor-init c = record {
  within = search rules;
  made = rw c.new-text.ensures.items empty;
  same = rw c.new-text.ensures.items (behind_nothing _);
}

pub returns-clause-differs : goal.returns-clause-differs
returns-clause-differs c =
    let graph = c.args.graph.now in
    let costs = c.args.costs.now in
    let read = c.loop-actor.read in
    let text = c.loop-actor.text.items in
    let rest = slice_range graph read (length graph) in
    let all : c.loop-actor.actor ≡ length costs = omega arith in
    let paid : take c.loop-actor.actor costs ≡ costs = rw all (take-length costs) in
    let whole : take read graph ++ rest ≡ graph =
    sym (take-range read (length graph) graph c.loop-actor.invariant.within) ∙ take-length graph in
    let made : DifferInCosts costs (take read graph) text =
    subst (λ ns. DifferInCosts ns (take read graph) text) paid c.loop-actor.invariant.made in
    let written : c.extend_from_slice.new.self.items ≡ text ++ rest = search rules in
    rw written (subst (λ it. DifferInCosts costs it (text ++ rest)) whole
    (kept costs (take read graph) text rest made))

pub loop-actor-preserved : goal.loop-actor-preserved
loop-actor-preserved c =
    let place : c.loop-actor.actor < length c.args.places.now = omega arith in
    let cost : c.loop-actor.actor < length c.args.costs.now = omega arith in
    let turn = written_turn c.args.graph.now c.loop-actor.read c.loop-actor.actor c.args.places.now c.args.costs.now
    c.loop-actor.text.items c.push_cost.new.text.items c.in-Some.end
    (record { start = 0; length = 0; long = false }) c.in_ok-end.field-0 place cost c.in_ok-end.ensures.exactly
    c.in-Some.is in
    let differ = differ_turn c.args.costs.now c.args.graph.now c.push_cost.new.text.items c.loop-actor.actor
    c.in_ok-end.field-0 c.in-Some.end cost
    (c.in_ok-end.ensures.cost (take c.loop-actor.actor c.args.costs.now) c.loop-actor.invariant.made)
    c.in-Some.is in
    record { within = search rules; made = differ; same = turn ∙ c.loop-actor.invariant.same }

pub returns-in_default-clause-exactly : goal.returns-in_default-clause-exactly
returns-in_default-clause-exactly c =
    let place : c.loop-actor.actor < length c.args.places.now = omega arith in
    let cost : c.loop-actor.actor < length c.args.costs.now = omega arith in
    let fault = written_fault c.args.graph.now c.loop-actor.read c.loop-actor.actor c.args.places.now
    c.args.costs.now c.loop-actor.text.items c.push_cost.new.text.items
    (record { start = 0; length = 0; long = false }) c.in_ok-end.field-0 place cost c.in_ok-end.ensures.exactly
    c.in_default.is in
    inr (costed_by _ _ _ _ c.if-places-costs.false (sym c.loop-actor.invariant.same ∙ fault))

pub returns-clause-exactly : goal.returns-clause-exactly
returns-clause-exactly c =
    let graph = c.args.graph.now in
    let all : c.loop-actor.actor ≡ length c.args.costs.now = omega arith in
    let written : c.extend_from_slice.new.self.items
    ≡ c.loop-actor.text.items ++ slice_range graph c.loop-actor.read (length graph) = search rules in
    let end = written_end graph c.loop-actor.read c.loop-actor.actor c.args.places.now c.args.costs.now
    c.loop-actor.text.items c.extend_from_slice.new.self.items
    (slice_range graph c.loop-actor.read (length graph)) (omega arith) (omega arith)
    (between_to_end graph c.loop-actor.read (length graph) (omega arith)) written in
    costed_by _ _ _ _ c.if-places-costs.false (sym c.loop-actor.invariant.same ∙ end)
