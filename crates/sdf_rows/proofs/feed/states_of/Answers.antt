use Rattle.std.proofs.Common.{◌≡◌, ◌+◌, ◌<◌, length, get_or, None, ap, ◌∙◌, arith}
use Rattle.std.proofs.lemmas.List.{get_or_read, length_push}
use Rattle.sdf_actor.specs.Nets.{node}
use Rattle.sdf_node.specs.Kept.{kept_state}
use Rattle.sdf_rows.proofs.Readings.{push_at}
use Rattle.sdf_rows.proofs.feed.states_of.Goals as goal

pub loop-a-init : goal.loop-a-init
loop-a-init g c = record { all = ap length c.new-copies.ensures.items; each = λ b d l. absurd (omega arith) }

pub bounds-states-a : goal.bounds-states-a
bounds-states-a g c = omega (arith, c.loop-a-test.true, c.len-a-end.ensures, c.requires)

pub loop-a-preserved : goal.loop-a-preserved
loop-a-preserved g c =
    let n = c.args.net.now in
    let k = c.loop-a.invariant in
    let items = c.in_ok-push.ensures.items in
    let within : c.loop-a.a < length c.args.states.now =
    omega (arith, c.loop-a-test.true, c.len-a-end.ensures, c.requires) in
    record {
      all = ap length items ∙ (length_push c.loop-a.copies.items c.in_ok-kept.field-0 ∙ ap (λ m. m + 1) k.all);
      each = λ b d l. push_at (λ a x. x ≡ kept_state (node n a) (get_or c.args.states.now a d)) c.loop-a.copies.items
          c.push.new.self.items c.in_ok-kept.field-0 None c.loop-a.a items k.all (λ a h. k.each a d h)
          (c.in_ok-kept.ensures ∙ (ap (λ x. kept_state x c.index-states-a.result) c.node.ensures.value
          ∙ ap (kept_state (node n c.loop-a.a)) (get_or_read c.args.states.now c.loop-a.a c.index-states-a.result
          within c.index-states-a.is d))) b l;
    }

pub returns-clause-all : goal.returns-clause-all
returns-clause-all g c =
    let end : c.loop-a.a ≡ length c.args.net.now.nodes =
    omega (arith, c.len-a-end.ensures, c.loop-a-test.false, c.loop-a.auto.a-end) in
    c.loop-a.invariant.all ∙ end

pub returns-clause-each : goal.returns-clause-each
returns-clause-each g c = λ b d l. c.loop-a.invariant.each b d
    (omega (arith, l, c.len-a-end.ensures, c.loop-a-test.false))
