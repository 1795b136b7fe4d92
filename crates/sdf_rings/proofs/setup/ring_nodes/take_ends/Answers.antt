use Rattle.std.proofs.Common.{◌≡◌, Some, get_or, sym, ◌∙◌, subst, arith}
use Rattle.std.specs.Option.{IsSome}
use Rattle.sdf_rings.specs.Openings.{end_at}
use Rattle.sdf_rings.proofs.Begun.{some_in}
use Rattle.sdf_rings.proofs.Lists.{vec_long, push_each}
use Rattle.sdf_rings.proofs.setup.ring_nodes.take_ends.Goals as goal

pub take_end-requires-clause-known : goal.take_end-requires-clause-known
take_end-requires-clause-known g c =
    let i = c.loop-channel.channel-index in
    let ch = get_or c.args.channels.now i 0 in
    some_in c.loop-channel.ends.items ch
    (subst (λ o. IsSome o) (sym (c.loop-channel.invariant.others ch
    (λ k l e. let same : k ≡ i = c.requires.once k i (omega arith) c.loop-channel-test.true e in
    absurd (omega arith)))) (c.requires.there i c.loop-channel-test.true))

pub take_end-requires-clause-there : goal.take_end-requires-clause-there
take_end-requires-clause-there g c =
    let i = c.loop-channel.channel-index in
    let ch = get_or c.args.channels.now i 0 in
    subst (λ o. IsSome o) (sym (c.loop-channel.invariant.others ch
    (λ k l e. let same : k ≡ i = c.requires.once k i (omega arith) c.loop-channel-test.true e in
    absurd (omega arith)))) (c.requires.there i c.loop-channel-test.true)

pub loop-channel-preserved : goal.loop-channel-preserved
loop-channel-preserved g c =
    let i = c.loop-channel.channel-index in
    let ch = get_or c.args.channels.now i 0 in
    let others = c.loop-channel.invariant.others in
    record {
      len = omega (arith, c.in_ok-push.ensures.len, c.loop-channel.invariant.len);
      each = push_each (λ k x. end_at c.args.ends.now.items (get_or c.args.channels.now k 0) ≡ Some x)
          c.loop-channel.taken.items c.push.new.self.items c.take_end.result i
          c.in_ok-push.ensures.items (vec_long c.loop-channel.taken ∙ c.loop-channel.invariant.len)
          c.loop-channel.invariant.each
          (sym (others ch (λ k l e. let same : k ≡ i = c.requires.once k i (omega arith) c.loop-channel-test.true e in
          absurd (omega arith))) ∙ c.take_end.ensures.end);
      others = λ k h. c.take_end.ensures.others k (λ e. h i (omega arith) e) ∙ others k (λ j l. h j (omega arith));
    }
