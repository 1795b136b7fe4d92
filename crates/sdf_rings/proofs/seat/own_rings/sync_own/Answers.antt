use Rattle.std.proofs.Common.{rules, ◌≡◌, ◌<◌, ℕ, [], length, get_or, refl, sym, ap, ◌∙◌, subst, arith}
use Rattle.rtrb.specs.Ring.{IsPair, sent, known_items}
use Rattle.sdf_actor.specs.Nets.{wire, wiring}
use Rattle.sdf_actor.proofs.Theorems.{nets_are_wired}
use Rattle.sdf_rings.specs.Ends.{Drew, Gave}
use Rattle.sdf_rings.proofs.Each.{each_then}
use Rattle.sdf_rings.proofs.Known.{at_port, port_at, port_below, from_below}
use Rattle.sdf_rings.proofs.Looks.{drew_join, drew_looked, gave_join, gave_looked}
use Rattle.sdf_rings.proofs.OwnEnds.{own_pairs_kept, begin_next, begin_none}
use Rattle.sdf_rings.proofs.PortBlocks.{ins_long, port_of}
use Rattle.sdf_rings.proofs.seat.own_rings.sync_own.Goals.{then-link-actor, else-link-actor}
use Rattle.sdf_rings.proofs.seat.own_rings.sync_own.Goals as goal

pub bounds-ins-i : goal.bounds-ins-i
bounds-ins-i g c =
    port_below c.requires.net c.args.actor
    c.channels_in-channels.ensures c.loop-i-test.true (c.loop-i.auto.ins ∙ c.requires.ins)

pub offset_bounds-ins-i : goal.offset_bounds-ins-i
offset_bounds-ins-i g c =
    let h = port_below c.requires.net c.args.actor
    c.channels_in-channels.ensures c.loop-i-test.true (c.loop-i.auto.ins ∙ c.requires.ins) in
    search rules

pub link-link-requires-after_bounds : goal.link-link-requires-after_bounds
link-link-requires-after_bounds g c κs within =
    let n = c.args.net.now in
    let i : ℕ = c.loop-i.i in
    let is = c.channels_in-channels.ensures in
    let at = (nets_are_wired g.A.Actor.steps n c.requires.net).ins_are c.args.actor i c.requires.known
    (subst (λ cs. i < length cs) is c.loop-i-test.true) in
    subst (λ cs. get_or cs i 0 < length n.wires) (sym is) at.0

pub bounds-outs-link : goal.bounds-outs-link
bounds-outs-link g c =
    let from = from_below c.requires.net c.args.actor c.requires.known c.channels_in-channels.ensures c.loop-i-test.true
    c.link-link.ensures.value c.if-link-actor.true in
    omega (arith, from, c.loop-i.auto.outs, c.requires.outs)

pub sync_ring-requires : goal.sync_ring-requires
sync_ring-requires g c =
    let s = g.A.Actor.steps in
    let n = c.args.net.now in
    let a = c.args.actor in
    let i = c.loop-i.i in
    let ch : ℕ = get_or ((wiring s n).ins a) i 0 in
    let at = port_at c.requires.net a i c.requires.known
    (port_below c.requires.net a c.channels_in-channels.ensures c.loop-i-test.true refl) in
    let link = c.link-link.ensures.value ∙ ap (λ cs. wire n (get_or cs i 0)) c.channels_in-channels.ensures in
    let pairs = own_pairs_kept n a c.args.ins.now c.loop-i.ins c.args.outs.now c.loop-i.outs (λ _. []) (λ _. [])
    c.loop-i.auto.ins c.loop-i.auto.outs c.loop-i.invariant.ins c.loop-i.invariant.outs c.requires.pairs in
    let here = pairs ch c.index-ins-i.result c.index-outs-link.result at.0
    (ap (λ w. w.from.0) (sym link) ∙ c.if-link-actor.true) at.1 in
    subst (λ q. IsPair (get_or c.loop-i.outs q c.index-outs-link.result) (get_or c.loop-i.ins i c.index-ins-i.result))
    (ap (λ w. w.from.1) (sym link))
    (subst (λ p. IsPair (get_or c.loop-i.outs (wire n ch).from.1 c.index-outs-link.result)
    (get_or c.loop-i.ins p c.index-ins-i.result)) at.2 here)

pub loop-i-preserved : goal.loop-i-preserved
loop-i-preserved g c =
    let s = g.A.Actor.steps in
    let n = c.args.net.now in
    let a = c.args.actor in
    let i = c.loop-i.i in
    let link : (k : ℕ) → k < length n.wires → (wire n k).to.0 ≡ a → (wire n k).to.1 ≡ i →
    wire n k ≡ wire n (get_or c.channels_in-channels.result.now i 0) = λ k l t e.
    ap (wire n) (sym (at_port c.requires.net l t e))
    ∙ ap (λ cs. wire n (get_or cs i 0)) (sym c.channels_in-channels.ensures) in
    let inside : i < length c.loop-i.ins = port_below c.requires.net a c.channels_in-channels.ensures c.loop-i-test.true
    (c.loop-i.auto.ins ∙ c.requires.ins) in
    elim c.if-link-actor.branch [
      | then-link-actor w ↦
          let x = w.sync_ring.new.consumer in
          let y = w.sync_ring.new.producer in
          let q = c.link-link.result.now.from.1 in
          let from = from_below c.requires.net a c.requires.known c.channels_in-channels.ensures c.loop-i-test.true
          c.link-link.ensures.value w.if-link-actor.true in
          let there : q < length c.loop-i.outs = omega (arith, from, c.loop-i.auto.outs, c.requires.outs) in
          let ins = each_then (λ p r. Drew p r []) (λ p r t. drew_join p r t [] []) c.args.ins.now c.loop-i.ins i x
          w.index-ins-i.result inside w.index-ins-i.is c.loop-i.invariant.ins
          (subst (λ z. Drew z x []) (sym w.index-ins-i.is)
          (drew_looked (get_or c.loop-i.ins i w.index-ins-i.result) x w.sync_ring.ensures.consumer)) in
          let outs = each_then (λ p r. Gave p r []) (λ p r t. gave_join p r t [] []) c.args.outs.now c.loop-i.outs q y
          w.index-outs-link.result there w.index-outs-link.is c.loop-i.invariant.outs
          (subst (λ z. Gave z y []) (sym w.index-outs-link.is)
          (gave_looked (get_or c.loop-i.outs q w.index-outs-link.result) y w.sync_ring.ensures.producer)) in
          record {
            ins = rw w.ins-is ins;
            outs = rw w.outs-is outs;
            begin = rw (w.ins-is, w.outs-is) (begin_next n a c.loop-i.ins c.loop-i.outs x y i q inside there
                (known_items x, w.sync_ring.ensures.met.all_known) w.index-outs-link.result w.index-outs-link.is
                (w.sync_ring.ensures.producer.1 ∙ ap sent (sym w.index-outs-link.is))
                (λ k l t e. ap (λ z. z.from.1) (link k l t e ∙ sym c.link-link.ensures.value))
                c.loop-i.invariant.begin);
          }
      | else-link-actor w ↦ record {
        ins = rw w.ins-is c.loop-i.invariant.ins;
        outs = rw w.outs-is c.loop-i.invariant.outs;
        begin = rw (w.ins-is, w.outs-is) (begin_none n a c.loop-i.ins c.loop-i.outs i
            (λ k l f t e. w.if-link-actor.false (ap (λ z. z.from.0) (sym (link k l t e ∙ sym c.link-link.ensures.value))
            ∙ f)) c.loop-i.invariant.begin);
      }
    ]

pub returns-clause-begin : goal.returns-clause-begin
returns-clause-begin g c = λ k d e l f t.
    let s = g.A.Actor.steps in
    let n = c.args.net.now in
    let long = ins_long c.requires.net c.requires.known in
    let inside = port_of c.requires.net c.requires.known k l t in
    let all : length c.channels_in-channels.result.now ≡ length ((wiring s n).ins c.args.actor) =
    ap length c.channels_in-channels.ensures in
    c.loop-i.invariant.begin k d e l f t (omega arith)
