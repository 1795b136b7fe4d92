use Rattle.std.proofs.Common.{rules, List, ℕ, subst, length, get_or, MatchOption}
use Rattle.std.proofs.lemmas.List.{get_or_read}
use Rattle.sdf_graph.specs.Rates.{ChannelValue, rates}
use Rattle.sdf_graph.specs.Sequences.{IsEnabled, IsShortChannel}
use Rattle.sdf_graph.specs.CountsValue.{CountsValue, counts}
use Rattle.sdf_graph.specs.Moved.{HoldEnough, IsFirstShort}
use Rattle.sdf_graph.proofs.Moves.{short_or_enabled}
use Rattle.sdf_graph.proofs.counts.Counts.short_channel.Goals as goal

pub returns : goal.returns
returns c =
    let mine = get_or_read c.self.inside.fired.items c.args.actor c.index.result.now (search rules) c.index.ensures 0 in
    let first = subst (λ n. MatchOption c.first_short.result
    (HoldEnough c.channels.result.now n c.deref.result.now c.incoming.result.now (length c.incoming.result.now))
    (IsFirstShort c.channels.result.now n c.deref.result.now c.incoming.result.now)) mine c.first_short.ensures in
    let found = subst (λ (held : List ℕ). MatchOption c.first_short.result
    (HoldEnough c.channels.result.now (get_or c.self.inside.fired.items c.args.actor 0) held c.incoming.result.now
    (length c.incoming.result.now)) (IsFirstShort c.channels.result.now
    (get_or c.self.inside.fired.items c.args.actor 0) held c.incoming.result.now))
    c.deref.ensures.value first in
    subst (λ (t : CountsValue). MatchOption c.first_short.result (IsEnabled (rates t.graph) (counts t) c.args.actor)
    (IsShortChannel (rates t.graph) (counts t) c.args.actor)) c.self.view_is
    (short_or_enabled _ c.self.inside.held.items c.self.invariant c.args.actor c.incoming.result.now
    c.incoming.ensures.channels c.first_short.result
    (subst (λ (chs : List ChannelValue). MatchOption c.first_short.result
    (HoldEnough chs (get_or c.self.inside.fired.items c.args.actor 0) c.self.inside.held.items
    c.incoming.result.now (length c.incoming.result.now))
    (IsFirstShort chs (get_or c.self.inside.fired.items c.args.actor 0) c.self.inside.held.items
    c.incoming.result.now)) c.channels.ensures.list found))
