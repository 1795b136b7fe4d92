use Rattle.std.proofs.Common.{◌≡◌, ◌-◌, refl, length, get_or, ap, ◌∙◌, arith}
use Rattle.sdf_graph.specs.Rates.{ChannelValue, channel}
use Rattle.sdf_graph.specs.declared.channel.End.TheVariants.{Source, Target}
use Rattle.sdf_graph.specs.Moved.{moves}
use Rattle.sdf_graph.specs.Rates.{sum_to}
use Rattle.sdf_times.specs.Checks.{line, whole_of}
use Rattle.sdf_times.proofs.Settings.{room_link, same_link, same_in_time, initial_low, cap_few}
use Rattle.sdf_times.proofs.links.room_in_time.Goals.{After-whole_of-whole}
use Rattle.sdf_times.proofs.links.room_in_time.Goals as goal

from_is : (c : After-whole_of-whole) → c.channel.inside.from ≡ (channel c.args.graph.now c.args.number).from
from_is c = ap (λ (e : ChannelValue). e.from) (c.channel.view_is ∙ c.channel_at-channel.ensures.is)

to_is : (c : After-whole_of-whole) → c.channel.inside.to ≡ (channel c.args.graph.now c.args.number).to
to_is c = ap (λ (e : ChannelValue). e.to) (c.channel.view_is ∙ c.channel_at-channel.ensures.is)

from_line : (c : After-whole_of-whole) → c.line_of-from.result.now ≡
    line c.args.starts.now (channel c.args.graph.now c.args.number).from
from_line c = c.line_of-from.ensures ∙ ap (line c.args.starts.now) (from_is c)

to_line : (c : After-whole_of-whole) → c.line_of-to.result.now ≡
    line c.args.starts.now (channel c.args.graph.now c.args.number).to
to_line c = c.line_of-to.ensures ∙ ap (line c.args.starts.now) (to_is c)

whole_is : (c : After-whole_of-whole) → c.whole_of-whole.result ≡
    whole_of (channel c.args.graph.now c.args.number) c.args.starts.now
whole_is c = c.whole_of-whole.ensures
    ∙ (λ i. sum_to (moves Source (c.channel_at-channel.ensures.is i)) (length (from_line c i)))

pub link_in_time-requires-clause-link : goal.link_in_time-requires-clause-link
link_in_time-requires-clause-link c =
    let d = (goal.at.link_in_time-requires-clause-link c).After-whole_of-whole in
    same_link (channel c.args.graph.now c.args.number) c.channel_at-channel.result.now Source Target
    (whole_of (channel c.args.graph.now c.args.number) c.args.starts.now) c.whole_of-whole.result
    (line c.args.starts.now (channel c.args.graph.now c.args.number).from) c.line_of-from.result.now
    (line c.args.starts.now (channel c.args.graph.now c.args.number).to) c.line_of-to.result.now
    c.channel_at-channel.ensures.is (whole_is d) (from_line d) (to_line d)
    (room_link c.args.graph.now c.channel_at-channel.ensures.shape c.args.table.now c.args.costs.now
    c.args.starts.now c.requires.tried c.args.number c.requires.known)

pub overflow_sub-room : goal.overflow_sub-room
overflow_sub-room c =
    let low = initial_low c.args.graph.now c.channel_at-channel.ensures.shape c.args.table.now c.args.costs.now
    c.args.starts.now c.requires.tried c.args.number c.requires.known in
    let first_is : c.channel.inside.initial ≡ (channel c.args.graph.now c.args.number).initial =
    ap (λ (e : ChannelValue). e.initial) (c.channel.view_is ∙ c.channel_at-channel.ensures.is) in
    omega (arith, low, c.cap.ensures)

pub link_in_time-requires-clause-first : goal.link_in_time-requires-clause-first
link_in_time-requires-clause-first c =
    let high = cap_few c.args.graph.now c.channel_at-channel.ensures.shape c.args.table.now c.args.costs.now
    c.args.starts.now c.requires.tried c.args.number c.requires.known in
    omega (arith, high, c.cap.ensures)

pub returns : goal.returns
returns c =
    let d = (goal.at.returns c).After-whole_of-whole in
    let first_is : c.channel.inside.initial ≡ (channel c.args.graph.now c.args.number).initial =
    ap (λ (e : ChannelValue). e.initial) (c.channel.view_is ∙ c.channel_at-channel.ensures.is) in
    let room_is : c.cap.result - c.channel.inside.initial ≡
    get_or c.args.table.now.caps c.args.number 0 - (channel c.args.graph.now c.args.number).initial =
    (λ i. c.cap.ensures i - first_is i) in
    same_in_time (channel c.args.graph.now c.args.number) c.channel_at-channel.result.now Source Target
    (get_or c.args.table.now.caps c.args.number 0 - (channel c.args.graph.now c.args.number).initial)
    (c.cap.result - c.channel.inside.initial)
    (whole_of (channel c.args.graph.now c.args.number) c.args.starts.now) c.whole_of-whole.result
    (line c.args.starts.now (channel c.args.graph.now c.args.number).from) c.line_of-from.result.now
    (line c.args.starts.now (channel c.args.graph.now c.args.number).to) c.line_of-to.result.now
    0 0 c.args.t c.link_in_time.result c.channel_at-channel.ensures.is room_is (whole_is d) (from_line d) (to_line d)
    refl c.link_in_time.ensures
