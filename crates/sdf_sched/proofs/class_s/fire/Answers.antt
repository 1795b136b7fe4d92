use Rattle.std.proofs.Common.{◌≡◌, ℕ, ◌<◌, None, Option, length, List, refl, get_or, slice_index, ap, sym, subst, ◌∙◌}
use Rattle.std.proofs.Common.{arith}
use Rattle.std.proofs.lemmas.Bool.{false≢true}
use Rattle.std.proofs.lemmas.List.{get_or_read}
use Rattle.sdf_graph.specs.Rates.{ChannelValue, channel, rates, GraphValue, no_channel}
use Rattle.sdf_graph.specs.Sequences.{IsRunnable}
use Rattle.sdf_graph.specs.CountsValue.{CountsValue}
use Rattle.sdf_graph.proofs.Theorems.{graphs_are_sound}
use Rattle.sdf_sched.specs.ClassS.{IsTested}
use Rattle.sdf_sched.proofs.Updates.{stands_at}
use Rattle.sdf_sched.proofs.Runnable.{after_firing, all_caught_up, from_start, from_none, next_tested, next_passed}
use Rattle.sdf_sched.proofs.class_s.fire.Goals as goal
use Rattle.sdf_sched.proofs.class_s.fire.Goals.{then-awaits, else-awaits}

pub fire-requires-clause-known : goal.fire-requires-clause-known
fire-requires-clause-known c =
    let xs = c.args.candidates.now.runnable.items in
    let is : c.index-actor.result.now ≡ get_or xs c.args.at 0 =
    get_or_read xs c.args.at c.index-actor.result.now c.requires.place c.index-actor.ensures 0 in
    omega (
      arith,
      ((c.requires.list.list.each (get_or xs c.args.at 0)).0 (stands_at xs _ c.args.at c.requires.place refl)).0,
      ap (λ (s : GraphValue). s.actors) c.requires.same,
    )

pub loop-channel-init : goal.loop-channel-init
loop-channel-init c =
    let xs = c.args.candidates.now.runnable.items in
    let ws = c.args.candidates.now.awaited.items in
    let is : c.index-actor.result.now ≡ get_or xs c.args.at 0 =
    get_or_read xs c.args.at c.index-actor.result.now c.requires.place c.index-actor.ensures 0 in
    let same : c.fire.new.self.graph ≡ c.args.graph.now =
    ap (λ (t : CountsValue). t.graph) c.fire.ensures ∙ c.requires.same in
    let known = ((c.requires.list.list.each (get_or xs c.args.at 0)).0
    (stands_at xs _ c.args.at c.requires.place refl)).0 in
    record {
      list = after_firing c.args.graph.now c.fire.new.self.graph same
          (graphs_are_sound c.args.graph.now c.channels-channels.ensures.shape) _ c.args.counts.now.fired
          c.fire.new.self.fired c.index-actor.result.now (omega (arith, c.requires.each))
          (ap (λ (t : CountsValue). t.fired) c.fire.ensures)
          xs c.dismiss.new.candidates.runnable.items ws c.dismiss.new.candidates.awaited.items c.requires.list
          (subst (λ a. IsTested (rates c.fire.new.self.graph) (slice_index c.args.firings.now)
          (slice_index c.fire.new.self.fired) a xs ws c.dismiss.new.candidates.runnable.items
          c.dismiss.new.candidates.awaited.items) (sym is) c.dismiss.ensures.tested)
          _ (λ d l e. from_start _ d (c.outgoing-channel-items.ensures.all d l e));
      capacity = refl;
    }

pub admit-requires-clause-below : goal.admit-requires-clause-below
admit-requires-clause-below c = λ a h. omega (arith, (c.loop-channel.invariant.list.each a h).0)

pub admit-requires-clause-listed : goal.admit-requires-clause-listed
admit-requires-clause-listed c =
    let same : c.fire.new.self.graph ≡ c.args.graph.now =
    ap (λ (t : CountsValue). t.graph) c.fire.ensures ∙ c.requires.same in
    λ h. subst (λ (s : GraphValue). IsRunnable (rates s) (slice_index c.args.firings.now)
    (slice_index c.fire.new.self.fired) c.fed.inside.to) (sym same) (c.loop-channel.invariant.list.each _ h)

pub loop-channel-preserved : goal.loop-channel-preserved
loop-channel-preserved c =
    let same : c.fire.new.self.graph ≡ c.args.graph.now =
    ap (λ (t : CountsValue). t.graph) c.fire.ensures ∙ c.requires.same in
    let at = get_or c.outgoing-channel-items.result.now c.loop-channel.channel-index 0 in
    let known : at < length c.channels-channels.result.now =
    omega (
      arith,
      (c.outgoing-channel-items.ensures.each c.loop-channel.channel-index c.loop-channel-test.true).0,
      ap length c.channels-channels.ensures.list,
    ) in
    let read = get_or_read c.channels-channels.result.now at c.index-channels-channel.result known
    c.index-channels-channel.is no_channel in
    let to : c.fed.inside.to ≡ (channel c.args.graph.now at).to =
    ap (λ (e : ChannelValue). e.to) (c.fed.view_is ∙ read)
    ∙ ap (λ (chs : List ChannelValue). (get_or chs at no_channel).to) c.channels-channels.ensures.list in
    let xs = c.loop-channel.candidates.runnable.items in
    let ws = c.loop-channel.candidates.awaited.items in
    elim c.if-awaits.branch [
      | then-awaits w ↦
          rw w.candidates-is (record {
            list = next_tested c.args.graph.now _ _ c.outgoing-channel-items.result.now c.loop-channel.channel-index
                c.fed.inside.to to xs ws c.loop-channel.invariant.list c.fire.new.self.graph same _ _
                w.admit.ensures.tested;
            capacity = w.admit.ensures.capacity ∙ c.loop-channel.invariant.capacity;
          })
      | else-awaits w ↦
          rw w.candidates-is (record {
            list = next_passed c.args.graph.now _ _ c.outgoing-channel-items.result.now c.loop-channel.channel-index
                c.fed.inside.to to xs ws c.loop-channel.invariant.list
                (λ e. false≢true (w.if-awaits.ensures.1
                (ap (λ (l : List (Option ℕ)). get_or l c.fed.inside.to None) c.deref.ensures.value ∙ e)));
            capacity = c.loop-channel.invariant.capacity;
          })
    ]

pub returns-clause-list : goal.returns-clause-list
returns-clause-list c =
    all_caught_up (rates c.args.graph.now) _ _
    _ (λ d h. from_none _ c.loop-channel.channel-index d (omega arith) h) _ _ c.loop-channel.invariant.list
