use Rattle.std.proofs.Common.{◌≡◌, ◌++◌, ◌∷◌, ◌<◌, ℕ, [], length, map, get_or, sym, ap, ◌∙◌, subst, arith, below_more}
use Rattle.std.proofs.lemmas.List.{get_or_append_left, get_or_push, length-map, map-append}
use Rattle.sdf_actor.specs.Nets.{node, cycle_of}
use Rattle.sdf_actor.specs.Sides.{channels_at}
use Rattle.sdf_actor.specs.Wires.{lists}
use Rattle.sdf_queues.specs.Sizes.{at_phase, rows_on}
use Rattle.sdf_queues.proofs.PortRows.{phase_known, sized, are_rows}
use Rattle.sdf_queues.proofs.Readings.{vec_long}
use Rattle.sdf_queues.proofs.Theorems.{nets_have_facts}
use Rattle.sdf_queues.proofs.sizes.Sizes.rows.Goals as goal

pub on-requires : goal.on-requires
on-requires g c =
    let facts = nets_have_facts g.A.Actor.steps c.args.net.now c.node.ensures.accepted in
    phase_known facts.net c.requires.sizes c.args.a c.requires.known c.args.side
    c.loop-phase.phase (omega (
      arith,
      c.loop-phase-test.true,
      c.cycle-phase-end.ensures,
      ap (cycle_of g.A.Actor.steps) c.node.ensures.value,
    ))

pub at_channels-requires : goal.at_channels-requires
at_channels-requires g c =
    let facts = nets_have_facts g.A.Actor.steps c.args.net.now c.node.ensures.accepted in
    subst (λ row. (p : ℕ) → p < length c.channels_of-channels.result.now →
    get_or c.channels_of-channels.result.now p 0 < length row) (sym c.on.ensures)
    (subst (λ cs. (p : ℕ) → p < length cs → get_or cs p 0 <
    length (at_phase (rows_on c.args.side c.args.self.now) c.loop-phase.phase))
    (sym c.channels_of-channels.ensures)
    (λ p l.
    sized facts.net c.requires.sizes c.args.a c.requires.known c.args.side c.loop-phase.phase p (omega (
      arith,
      c.loop-phase-test.true,
      c.cycle-phase-end.ensures,
      ap (cycle_of g.A.Actor.steps) c.node.ensures.value,
    )) l))

pub loop-phase-preserved : goal.loop-phase-preserved
loop-phase-preserved g c =
    let was = c.loop-phase.rows.items in
    let row = c.in_ok-at_channels.field-0 in
    let i : ℕ = c.loop-phase.phase in
    let now : lists c.push.new.self.items ≡ lists was ++ row.items ∷ [] =
    ap lists c.in_ok-push.ensures.items ∙ map-append (λ v. v.items) was (row ∷ []) in
    let long : length (lists was) ≡ i = length-map was (λ v. v.items)
    ∙ (vec_long c.loop-phase.rows ∙ c.loop-phase.invariant.len) in
    record {
      len = omega (arith, c.in_ok-push.ensures.len, c.loop-phase.invariant.len);
      each = below_more (λ blocking. at_phase (lists c.push.new.self.items) blocking ≡
          map (λ d. get_or (at_phase (rows_on c.args.side c.args.self.now) blocking) d 0)
          (channels_at g.A.Actor.steps c.args.net.now c.args.side c.args.a)) i
          (λ blocking h. ap (λ rows. at_phase rows blocking) now
          ∙ (get_or_append_left (lists was) (row.items ∷ []) [] blocking
          (omega (arith, long, h)) ∙ c.loop-phase.invariant.each blocking h))
          (ap (λ rows. at_phase rows i) now ∙ (get_or_push (lists was) row.items [] i long ∙
          (c.in_ok-at_channels.ensures ∙ ap (λ xs. map (λ d. get_or xs d 0)
          c.channels_of-channels.result.now) c.on.ensures ∙
          ap (map (λ d. get_or (at_phase (rows_on c.args.side c.args.self.now) i) d 0))
          c.channels_of-channels.ensures)));
    }

pub returns : goal.returns
returns g c =
    let cycle : c.loop-phase.phase ≡ cycle_of g.A.Actor.steps (node c.args.net.now c.args.a) =
    (let e : c.loop-phase.phase ≡ c.cycle-phase-end.result =
    omega (arith, c.loop-phase-test.false, c.loop-phase.auto.phase-end) in e) ∙
    (c.cycle-phase-end.ensures ∙ ap (cycle_of g.A.Actor.steps) c.node.ensures.value) in
    let facts = nets_have_facts g.A.Actor.steps c.args.net.now c.node.ensures.accepted in
    are_rows facts.net c.requires.sizes c.args.a c.requires.known c.args.side
    (lists c.loop-phase.rows.items) (length-map c.loop-phase.rows.items (λ v. v.items)
    ∙ (vec_long c.loop-phase.rows ∙ (c.loop-phase.invariant.len ∙ cycle)))
    (λ blocking h. c.loop-phase.invariant.each blocking (omega (arith, cycle, h)))
