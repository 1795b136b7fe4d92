use Rattle.std.proofs.Common.{◌≡◌, ◌+◌, ◌<◌, ◌∙◌, ℕ, length, get_or, slice_index, subst, sym, ap, arith}
use Rattle.std.proofs.lemmas.List.{get_or_default}
use Rattle.sdf_graph.specs.Rates.{channel, no_channel}
use Rattle.sdf_warm_up.specs.WarmUps.{AreFirings, AreEarly, AreFar, IsLate, IsMovedOn, cold}
use Rattle.sdf_warm_up.proofs.Passing.{IsPassing, passes_late, passes_moved, is_pass, none_is_late}
use Rattle.sdf_warm_up.proofs.warm_up.move_targets.Goals.{in-Stays, in-MovesOn}
use Rattle.sdf_warm_up.proofs.warm_up.move_targets.Goals as goal

pub loop-channel-init : goal.loop-channel-init
loop-channel-init c = record {
  since = c.requires.since;
  passing = record {
    early = c.requires.early;
    passed = λ n behind. record { past = λ i l. absurd (omega arith); next = λ i l known. behind i known };
    so_far = λ i l. absurd (omega arith);
  };
}

pub loop-channel-preserved : goal.loop-channel-preserved
loop-channel-preserved c =
    let g = c.args.graph.now in
    let memory : ℕ → ℕ = slice_index c.args.memory.now in
    let first = c.args.since.now in
    let now = c.loop-channel.since in
    let new = c.move_target.new.since in
    let i : ℕ = c.loop-channel.channel-index in
    let item = c.channel-item.result in
    let list = c.channels-channel-items.ensures.list in
    let known : i < length g.channels = omega (arith, c.loop-channel-test.true, ap length list) in
    let at : item ≡ channel g i = c.channel-item.is
    ∙ (ap (λ xs. get_or xs i item) list ∙ get_or_default g.channels i item no_channel known) in
    let shape = c.channels-channel-items.ensures.shape in
    let before = c.loop-channel.invariant.passing in
    record {
      since = subst (λ n. AreFirings n new) c.loop-channel.invariant.since.all c.move_target.ensures.since;
      passing = elim c.match-move_target.branch [
        | in-Stays w ↦
            subst (IsPassing g memory first new (i + 1)) (sym w.moves-is)
            (subst (λ xs. IsPassing g memory first xs (i + 1) c.loop-channel.moves) (sym w.in-Stays.ensures.is.0)
            (passes_late g memory first now i c.loop-channel.moves
            (subst (λ e. IsLate e memory (slice_index now)) at w.in-Stays.ensures.is.1) before))
        | in-MovesOn w ↦
            subst (IsPassing g memory first new (i + 1)) (sym w.moves-is)
            (passes_moved g memory first now new i c.loop-channel.moves known
            (shape.from_in i known)
            (omega (arith, shape.to_in i known, c.loop-channel.invariant.since.all, c.requires.all))
            (subst (λ e. IsMovedOn e memory now new) at w.in-MovesOn.ensures.is) before)
      ];
    }

pub returns-in-TooFar-clause-since : goal.returns-in-TooFar-clause-since
returns-in-TooFar-clause-since c =
    subst (λ n. AreFirings n c.move_target.new.since) c.loop-channel.invariant.since.all c.move_target.ensures.since

pub returns-in-TooFar-clause-early : goal.returns-in-TooFar-clause-early
returns-in-TooFar-clause-early c =
    subst (AreEarly c.args.graph.now (slice_index c.args.memory.now)) (sym c.in-TooFar.ensures.is.0)
    c.loop-channel.invariant.passing.early

pub returns-in-TooFar-clause-pass : goal.returns-in-TooFar-clause-pass
returns-in-TooFar-clause-pass c =
    let g = c.args.graph.now in
    let memory : ℕ → ℕ = slice_index c.args.memory.now in
    let now = c.loop-channel.since in
    let i : ℕ = c.loop-channel.channel-index in
    let item = c.channel-item.result in
    let list = c.channels-channel-items.ensures.list in
    let known : i < length g.channels = omega (arith, c.loop-channel-test.true, ap length list) in
    let at : item ≡ channel g i = c.channel-item.is
    ∙ (ap (λ xs. get_or xs i item) list ∙ get_or_default g.channels i item no_channel known) in
    let shape = c.channels-channel-items.ensures.shape in
    none_is_late g memory now i known (shape.from_in i known) (shape.to_in i known)
    c.loop-channel.invariant.passing.early
    (subst (λ e. AreFar e.take (cold e memory (slice_index now))) at c.in-TooFar.ensures.is.1)

pub returns-clause-early : goal.returns-clause-early
returns-clause-early c = c.loop-channel.invariant.passing.early

pub returns-clause-pass : goal.returns-clause-pass
returns-clause-pass c =
    let list = c.channels-channel-items.ensures.list in
    is_pass c.args.graph.now (slice_index c.args.memory.now) c.args.since.now c.loop-channel.since
    c.loop-channel.channel-index c.loop-channel.moves
    (omega (arith, c.loop-channel-test.false, c.loop-channel.auto.channel-index-end, ap length list))
    c.loop-channel.invariant.passing
