use Rattle.std.proofs.Common.{sym, subst}
use Rattle.sdf_rings.specs.Quiescence.{AreQuiescent}
use Rattle.sdf_rings.specs.Rests.{RingsValue, HaveMet, AreAtRest}
use Rattle.sdf_rings.proofs.Quiet.{are_quiescent}
use Rattle.sdf_rings.proofs.Rests.{are_at_rest}
use Rattle.sdf_rings.proofs.rings.Rings.at_rest.Goals as goal

pub returns-clause-rest : goal.returns-clause-rest
returns-clause-rest g c =
    let x = c.self.inside in
    let s = g.A.Actor.steps in
    let met = subst (λ (v : RingsValue _ _ _). HaveMet v.net v.seats v.places) (sym c.self.view_is) c.requires.met in
    subst (λ (v : RingsValue _ _ _). AreAtRest s v.net v.inputs v.seats v.places) c.self.view_is
    (are_at_rest c.self.invariant.0 met)

pub returns-clause-quiescent : goal.returns-clause-quiescent
returns-clause-quiescent g c =
    let x = c.self.inside in
    let s = g.A.Actor.steps in
    let met = subst (λ (v : RingsValue _ _ _). HaveMet v.net v.seats v.places) (sym c.self.view_is) c.requires.met in
    let accepted = c.net_facts.ensures.accepted in
    subst (λ (v : RingsValue _ _ _). AreQuiescent s v) c.self.view_is
    (are_quiescent c.self.invariant.0 met accepted.1)
