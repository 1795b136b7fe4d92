use Rattle.std.proofs.Common.{◌<◌, length, get_or, sym, ap, ◌∙◌, subst, arith}
use Rattle.std.proofs.lemmas.List.{get_or_default}
use Rattle.sdf_graph.specs.Rates.{ChannelValue, no_channel}
use Rattle.sdf_actor.specs.Nets.{wiring}
use Rattle.sdf_rings.specs.Openings.{IsGreatestOf}
use Rattle.sdf_rings.proofs.Openings.{greatest_is}
use Rattle.sdf_rings.proofs.setup.openings.room_of.Goals as goal

pub returns-in-Some : goal.returns-in-Some
returns-in-Some g c =
    let n = c.args.net.now in
    let shape = c.graph.result.now in
    let inside : c.args.c < length shape.channels = omega (arith, c.graph.ensures.rates.channels, c.requires.known) in
    let put = c.channels.ensures.shape.put c.args.c inside in
    let at = c.index-channels-c.is ∙ (ap (λ xs. get_or xs c.args.c c.index-channels-c.result) c.channels.ensures.list
    ∙ get_or_default shape.channels c.args.c c.index-channels-c.result no_channel inside) in
    let greatest = subst (λ (e : ChannelValue). IsGreatestOf e.put c.greatest_put-block.result) at
    c.greatest_put-block.ensures in
    let link = c.link-link.ensures.value in
    let own = ap (λ w. w.from.0) (sym link) ∙ (c.if-link.false ∙ ap (λ w. w.to.0) link) in
    record {
      between_two = λ ne. absurd (ne own);
      own = λ e. (
        c.greatest_put-block.result,
        greatest_is shape (wiring g.A.Actor.steps n).rates c.graph.ensures.rates c.args.c
            c.greatest_put-block.result inside (omega (arith, put.all, put.some)) greatest,
        omega (arith, c.in-Some.ensures.1, c.cap-held.ensures),
      );
    }
