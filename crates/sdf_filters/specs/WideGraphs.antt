-- The graph file of a converter with wide taps.
use Rattle.std.specs.Prelude.{ℕ, ◌+◌, ◌-◌, ◌==◌, List, [], ◌++◌, if◌then◌else◌, length, codes, decimal}
use Rattle.std.specs.Prelude.{slice_get, Option, Some, None}
use Rattle.sdf_filters.specs.declared.ends.End.{End}
use Rattle.sdf_filters.specs.declared.ends.End.TheVariants.{Input, Part, PartSecond, Round, Output}
use Rattle.sdf_filters.specs.declared.ends.Part.{Part as StagePart}
use Rattle.sdf_filters.specs.declared.ends.Part.TheVariants.{Fork, Wait, High, Less, Low, Both}
use Rattle.sdf_filters.specs.declared.stage.Stage.{Stage}
use Rattle.sdf_filters.specs.declared.stage.WideStage.{WideStage}
use Rattle.sdf_filters.specs.Filters.{end}
use Rattle.sdf_filters.specs.Graphs.{texts_to, part_name, actor_text, link_text, channel_text, join_text, joining_text}
use Rattle.sdf_filters.specs.Graphs.{source, title, fork_text}

-- The shifts of the filter of the large taps and of the other one. A tap of the first filter counts 2^bits, and before
-- the other one, from the second stage on, a gain takes 7 bits: high_shift + bits = low_shift + these.
abbrev pub high_shift : ℕ → ℕ → ℕ
high_shift number bits = if number == 1 then 15 - bits else 21 - bits

abbrev pub low_shift : ℕ → ℕ
low_shift number = if number == 1 then 15 else 14

-- the fork of a stage
unfoldable pub fork_part : ℕ → ℕ → ℕ → List ℕ
fork_part channels channel number =
    actor_text channels (Part Fork number channel) (codes "fork") ++ codes "ways = 2\n"

-- the delay before the filter of the large taps
unfoldable pub wait_part : ℕ → ℕ → ℕ → ℕ → List ℕ
wait_part channels channel number wait =
    actor_text channels (Part Wait number channel) (codes "delay") ++ codes "length = " ++ decimal wait ++ end

-- the keys of a filter and its file
unfoldable pub fir_keys : StagePart → ℕ → Stage → ℕ → List ℕ
fir_keys part number s shift =
    codes "up = " ++ decimal s.up ++ codes "\ndown = " ++ decimal s.down ++ codes "\nshift = " ++ decimal shift
    ++ codes "\nfile = \"" ++ part_name part number ++ codes ".toml\"\n"

-- the filter of the large taps
unfoldable pub high_part : ℕ → ℕ → ℕ → WideStage → List ℕ
high_part channels channel number w =
    actor_text channels (Part High number channel) (codes "fir")
    ++ fir_keys High number w.stage (high_shift number w.bits)

-- the gain before the other filter, which the first stage does not have
unfoldable pub less_part : ℕ → ℕ → ℕ → List ℕ
less_part channels channel number =
    if number == 1 then [] else
    actor_text channels (Part Less number channel) (codes "gain")
    ++ codes "gain = 1\nshift = 7\n"

-- the other filter
unfoldable pub low_part : ℕ → ℕ → ℕ → Stage → List ℕ
low_part channels channel number s =
    actor_text channels (Part Low number channel) (codes "fir") ++ fir_keys Low number s (low_shift number)

-- the sum of both
unfoldable pub both_part : ℕ → ℕ → ℕ → List ℕ
both_part channels channel number =
    actor_text channels (Part Both number channel) (codes "add") ++ codes "ways = 2\n"

-- the fork, and the filter of the large taps behind its delay
unfoldable pub high_branch : ℕ → ℕ → ℕ → WideStage → List ℕ
high_branch channels channel number w =
    fork_part channels channel number ++ wait_part channels channel number w.wait
    ++ high_part channels channel number w

-- the other filter behind its gain, and the sum
unfoldable pub low_branch : ℕ → ℕ → ℕ → Stage → List ℕ
low_branch channels channel number s =
    less_part channels channel number ++ low_part channels channel number s ++ both_part channels channel number

-- the stage at a place of a channel
abbrev pub wide_stage_text : ℕ → ℕ → ℕ → Option WideStage → List ℕ
wide_stage_text channels channel place None = []
wide_stage_text channels channel place (Some w) =
    high_branch channels channel (place + 1) w ++ low_branch channels channel (place + 1) w.stage

abbrev pub wide_stages_text : ℕ → ℕ → List WideStage → List ℕ
wide_stages_text channels channel stages =
    texts_to (λ place. wide_stage_text channels channel place (slice_get stages place)) (length stages)

-- the gain that rounds the samples of a channel with this number of stages
unfoldable pub round_text : ℕ → ℕ → ℕ → List ℕ
round_text channels channel stages =
    if stages == 0 then [] else
    actor_text channels (Round channel) (codes "gain") ++ codes "gain = 1\nshift = 6\n"

-- the actors of a channel
unfoldable pub wide_actors : ℕ → List WideStage → ℕ → List ℕ
wide_actors channels stages channel =
    actor_text channels (Input channel) (codes "input") ++ channel_text channel
    ++ join_text channels channel ++ wide_stages_text channels channel stages
    ++ round_text channels channel (length stages)
    ++ actor_text channels (Output channel) (codes "output") ++ channel_text channel

-- the end after n stages of a channel
abbrev pub wide_end : ℕ → ℕ → ℕ → End
wide_end channels channel n = if n == 0 then source channels channel else Part Both n channel

-- the links of the filter of the large taps
unfoldable pub high_links : ℕ → ℕ → ℕ → List ℕ
high_links channels channel n =
    link_text channels (Part Fork n channel) (Part Wait n channel)
    ++ link_text channels (Part Wait n channel) (Part High n channel)

-- the links of the other filter
unfoldable pub low_links : ℕ → ℕ → ℕ → List ℕ
low_links channels channel n =
    if n == 1 then link_text channels (PartSecond Fork n channel) (Part Low n channel) else
    link_text channels (PartSecond Fork n channel) (Part Less n channel)
    ++ link_text channels (Part Less n channel) (Part Low n channel)

-- the links of the sum
unfoldable pub both_links : ℕ → ℕ → ℕ → List ℕ
both_links channels channel n =
    link_text channels (Part High n channel) (Part Both n channel)
    ++ link_text channels (Part Low n channel) (PartSecond Both n channel)

-- the links of the stage after n others
unfoldable pub wide_step : ℕ → ℕ → ℕ → List ℕ
wide_step channels channel n =
    link_text channels (wide_end channels channel n) (Part Fork (n + 1) channel)
    ++ high_links channels channel (n + 1) ++ low_links channels channel (n + 1) ++ both_links channels channel (n + 1)

-- the links after the stages of a channel
unfoldable pub last_links : ℕ → ℕ → ℕ → List ℕ
last_links channels channel n =
    if n == 0 then link_text channels (wide_end channels channel n) (Output channel) else
    link_text channels (wide_end channels channel n) (Round channel)
    ++ link_text channels (Round channel) (Output channel)

-- the links of a channel with this number of stages
unfoldable pub wide_links : ℕ → ℕ → ℕ → List ℕ
wide_links channels stages channel =
    joining_text channels channel ++ texts_to (wide_step channels channel) stages ++ last_links channels channel stages

-- the graph file: each channel has these stages
abbrev pub wide_graph_text : ℕ → ℕ → ℕ → List WideStage → List ℕ
wide_graph_text from to channels stages =
    title from to channels ++ fork_text channels ++ texts_to (wide_actors channels stages) channels
    ++ texts_to (wide_links channels (length stages)) channels
