use Rattle.std.proofs.Common.{◌+◌, ◌<◌, ◌^◌, List, length, get_or, sym, subst}
use Rattle.sdf_graph.specs.declared.channel.End.TheVariants.{Source, Target}
use Rattle.sdf_graph.specs.Rates.{ChannelValue, rate_at, no_channel}
use Rattle.sdf_graph.specs.Moved.{AreMoved}
use Rattle.sdf_graph.proofs.Moves.{room_after, moved_by}
use Rattle.sdf_graph.proofs.counts.move_all.Goals as goal

pub move_tokens-requires-2-clause-can : goal.move_tokens-requires-2-clause-can
move_tokens-requires-2-clause-can c i l =
    let taken = subst (λ (chs : List ChannelValue). AreMoved chs Target c.args.i c.incoming.result.now
    (length c.incoming.result.now) c.args.held.now c.move_tokens.new.held) c.channels-channels.ensures.list
    c.move_tokens.ensures in
    let at = get_or c.outgoing.result.now i 0 in
    let known = (c.outgoing.ensures.each i l).0 in
    subst (λ (chs : List ChannelValue). get_or c.move_tokens.new.held at 0
    + rate_at (get_or chs at no_channel).put c.args.i <
    2 ^ 64) (sym c.channels-channels.ensures.list)
    (room_after c.args.graph.now c.args.actor c.args.i c.incoming.result.now c.args.held.now c.move_tokens.new.held
    c.incoming.ensures.channels taken at known (c.requires.room at known))

pub returns : goal.returns
returns c =
    let taken = subst (λ (chs : List ChannelValue). AreMoved chs Target c.args.i c.incoming.result.now
    (length c.incoming.result.now) c.args.held.now c.move_tokens.new.held) c.channels-channels.ensures.list
    c.move_tokens.ensures in
    let put = subst (λ (chs : List ChannelValue). AreMoved chs Source c.args.i c.outgoing.result.now
    (length c.outgoing.result.now) c.move_tokens.new.held c.move_tokens-2.new.held)
    c.channels-channels.ensures.list c.move_tokens-2.ensures in
    moved_by c.args.graph.now c.args.actor c.args.i c.incoming.result.now c.args.held.now c.move_tokens.new.held
    c.incoming.ensures.channels taken c.outgoing.result.now c.move_tokens-2.new.held c.outgoing.ensures put
