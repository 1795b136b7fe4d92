use Rattle.std.proofs.Common.{◌≡◌, ◌*◌, length, get_or, ap, ◌∙◌}
use Rattle.sdf_graph.specs.Rates.{ChannelValue, channel}
use Rattle.sdf_graph.specs.declared.channel.End.TheVariants.{Source, Target}
use Rattle.sdf_graph.specs.Moved.{moves}
use Rattle.sdf_graph.specs.Rates.{sum_to}
use Rattle.sdf_times.specs.Checks.{line, whole_of}
use Rattle.sdf_times.proofs.Settings.{samples_link, same_link, same_in_time}
use Rattle.sdf_times.proofs.links.samples_in_time.Goals.{After-pause_of-pause}
use Rattle.sdf_times.proofs.links.samples_in_time.Goals as goal

from_is : (c : After-pause_of-pause) → c.channel.inside.from ≡ (channel c.args.graph.now c.args.number).from
from_is c = ap (λ (e : ChannelValue). e.from) (c.channel.view_is ∙ c.channel_at-channel.ensures.is)

to_is : (c : After-pause_of-pause) → c.channel.inside.to ≡ (channel c.args.graph.now c.args.number).to
to_is c = ap (λ (e : ChannelValue). e.to) (c.channel.view_is ∙ c.channel_at-channel.ensures.is)

from_line : (c : After-pause_of-pause) → c.line_of-from.result.now ≡
    line c.args.starts.now (channel c.args.graph.now c.args.number).from
from_line c = c.line_of-from.ensures ∙ ap (line c.args.starts.now) (from_is c)

to_line : (c : After-pause_of-pause) → c.line_of-to.result.now ≡
    line c.args.starts.now (channel c.args.graph.now c.args.number).to
to_line c = c.line_of-to.ensures ∙ ap (line c.args.starts.now) (to_is c)

whole_is : (c : After-pause_of-pause) → c.whole_of-whole.result ≡
    whole_of (channel c.args.graph.now c.args.number) c.args.starts.now
whole_is c = c.whole_of-whole.ensures
    ∙ (λ i. sum_to (moves Source (c.channel_at-channel.ensures.is i)) (length (from_line c i)))

pub link_in_time-requires-clause-link : goal.link_in_time-requires-clause-link
link_in_time-requires-clause-link c =
    same_link (channel c.args.graph.now c.args.number) c.channel_at-channel.result.now Target Source
    (whole_of (channel c.args.graph.now c.args.number) c.args.starts.now) c.whole_of-whole.result
    (line c.args.starts.now (channel c.args.graph.now c.args.number).to) c.line_of-to.result.now
    (line c.args.starts.now (channel c.args.graph.now c.args.number).from) c.line_of-from.result.now
    c.channel_at-channel.ensures.is (whole_is c) (to_line c) (from_line c)
    (samples_link c.args.graph.now c.channel_at-channel.ensures.shape c.args.table.now c.args.costs.now
    c.args.starts.now c.requires.tried c.args.number c.requires.known)

pub returns : goal.returns
returns c =
    let d = (goal.at.returns c).After-pause_of-pause in
    let first_is : c.channel.inside.initial ≡ (channel c.args.graph.now c.args.number).initial =
    ap (λ (e : ChannelValue). e.initial) (c.channel.view_is ∙ c.channel_at-channel.ensures.is) in
    let pause_is : c.pause_of-pause.result ≡
    c.args.q * get_or c.args.costs.now (channel c.args.graph.now c.args.number).from 0 =
    c.pause_of-pause.ensures.is ∙ ap (λ a. c.args.q * get_or c.args.costs.now a 0) (from_is d) in
    same_in_time (channel c.args.graph.now c.args.number) c.channel_at-channel.result.now Target Source
    (channel c.args.graph.now c.args.number).initial c.channel.inside.initial
    (whole_of (channel c.args.graph.now c.args.number) c.args.starts.now) c.whole_of-whole.result
    (line c.args.starts.now (channel c.args.graph.now c.args.number).to) c.line_of-to.result.now
    (line c.args.starts.now (channel c.args.graph.now c.args.number).from) c.line_of-from.result.now
    (c.args.q * get_or c.args.costs.now (channel c.args.graph.now c.args.number).from 0) c.pause_of-pause.result
    c.args.t c.link_in_time.result c.channel_at-channel.ensures.is first_is (whole_is d) (to_line d) (from_line d)
    pause_is c.link_in_time.ensures
