-- The graph file of a converter.
use Rattle.std.specs.Prelude.{ℕ, zero, suc, ◌+◌, ◌==◌, List, [], ◌++◌, if◌then◌else◌, length, codes, decimal}
use Rattle.std.specs.Prelude.{slice_get, Option, Some, None}
use Rattle.sdf_filters.specs.declared.graph.TheConstants.{STAGE_SHIFT}
use Rattle.sdf_filters.specs.declared.ends.End.{End}
use Rattle.sdf_filters.specs.declared.ends.End.TheVariants.{Input, Fork, Branch, Silence, Sum, SumSecond, Filter}
use Rattle.sdf_filters.specs.declared.ends.End.TheVariants.{Part, PartSecond, Round, Output}
use Rattle.sdf_filters.specs.declared.ends.Part.{Part as StagePart}
use Rattle.sdf_filters.specs.declared.ends.Part.TheVariants.{Fork as ForkPart, Wait, High, Less, Low, Both}
use Rattle.sdf_filters.specs.declared.stage.Stage.{Stage}
use Rattle.sdf_filters.specs.Filters.{end}

-- the first n texts, joined
abbrev pub texts_to : (ℕ → List ℕ) → ℕ → List ℕ
texts_to text zero = []
texts_to text (suc n) = texts_to text n ++ text n

-- the mark after the names of a channel's actors: nothing if there is one channel
abbrev pub mark : ℕ → ℕ → List ℕ
mark channels channel = if channels == 1 then [] else codes "-" ++ decimal channel

-- a stage's name: the first one has the number 1
abbrev pub stage_name : ℕ → List ℕ
stage_name number = codes "stage" ++ decimal number

-- the word of a part of a stage of wide taps
abbrev pub part_word : StagePart → List ℕ
part_word ForkPart = codes "fork"
part_word Wait = codes "wait"
part_word High = codes "high"
part_word Less = codes "less"
part_word Low = codes "low"
part_word Both = codes "both"

-- a part's name: its word, and the number of its stage
abbrev pub part_name : StagePart → ℕ → List ℕ
part_name part number = part_word part ++ decimal number

-- an actor's name, or a port of it
abbrev pub end_text : ℕ → End → List ℕ
end_text channels (Input channel) = codes "in" ++ mark channels channel
end_text channels Fork = codes "fork"
end_text channels (Branch channel) = codes "fork:" ++ decimal channel
end_text channels (Silence channel) = codes "silence" ++ mark channels channel
end_text channels (Sum channel) = codes "add" ++ mark channels channel
end_text channels (SumSecond channel) = codes "add" ++ mark channels channel ++ codes ":1"
end_text channels (Filter number channel) = stage_name number ++ mark channels channel
end_text channels (Part part number channel) = part_name part number ++ mark channels channel
end_text channels (PartSecond part number channel) = part_name part number ++ mark channels channel ++ codes ":1"
end_text channels (Round channel) = codes "round" ++ mark channels channel
end_text channels (Output channel) = codes "out" ++ mark channels channel

-- a key and an actor, or a port of one
unfoldable pub key_text : ℕ → List ℕ → End → List ℕ
key_text channels word e = word ++ codes " = \"" ++ end_text channels e ++ codes "\"\n"

-- a link
unfoldable pub link_text : ℕ → End → End → List ℕ
link_text channels from to =
    codes "\n[[link]]\n" ++ key_text channels (codes "from") from ++ key_text channels (codes "to") to

-- an actor's name and kind
unfoldable pub actor_text : ℕ → End → List ℕ → List ℕ
actor_text channels e kind =
    codes "\n[[actor]]\n" ++ key_text channels (codes "name") e ++ codes "kind = \"" ++ kind ++ codes "\"\n"

-- the key `channel`
abbrev pub channel_text : ℕ → List ℕ
channel_text channel = codes "channel = " ++ decimal channel ++ end

-- the keys of a stage and its file
unfoldable pub keys_text : ℕ → Stage → List ℕ
keys_text number s =
    codes "up = " ++ decimal s.up ++ codes "\ndown = " ++ decimal s.down ++ codes "\nshift = " ++ decimal STAGE_SHIFT
    ++ codes "\nfile = \"" ++ stage_name number ++ codes ".toml\"\n"

-- the stage at a place of a channel
abbrev pub stage_text : ℕ → ℕ → ℕ → Option Stage → List ℕ
stage_text channels channel place None = []
stage_text channels channel place (Some s) =
    actor_text channels (Filter (place + 1) channel) (codes "fir") ++ keys_text (place + 1) s

abbrev pub stages_text : ℕ → ℕ → List Stage → List ℕ
stages_text channels channel stages =
    texts_to (λ place. stage_text channels channel place (slice_get stages place)) (length stages)

-- the actor that passes on the first channel's samples with gain 0; `sum_text` is the actor that adds them to a channel
unfoldable pub silence_text : ℕ → ℕ → List ℕ
silence_text channels channel = actor_text channels (Silence channel) (codes "gain") ++ codes "gain = 0\nshift = 0\n"

unfoldable pub sum_text : ℕ → ℕ → List ℕ
sum_text channels channel = actor_text channels (Sum channel) (codes "add") ++ codes "ways = 2\n"

-- the actors that join a channel to the first one
abbrev pub join_text : ℕ → ℕ → List ℕ
join_text channels channel = if channel == 0 then [] else silence_text channels channel ++ sum_text channels channel

-- the actors of a channel
unfoldable pub channel_actors : ℕ → List Stage → ℕ → List ℕ
channel_actors channels stages channel =
    actor_text channels (Input channel) (codes "input") ++ channel_text channel
    ++ join_text channels channel ++ stages_text channels channel stages
    ++ actor_text channels (Output channel) (codes "output") ++ channel_text channel

-- the end from which the stages of a channel take their samples
abbrev pub source : ℕ → ℕ → End
source channels channel =
    if channels == 1 then Input channel else if channel == 0 then Branch channel else Sum channel

-- the links before a channel's stages
unfoldable pub joining_text : ℕ → ℕ → List ℕ
joining_text channels channel =
    if channels == 1 then [] else
    if channel == 0 then link_text channels (Input channel) Fork else
    link_text channels (Input channel) (Sum channel) ++ link_text channels (Branch channel) (Silence channel)
    ++ link_text channels (Silence channel) (SumSecond channel)

-- the end after n stages of a channel
abbrev pub end_after : ℕ → ℕ → ℕ → End
end_after channels channel n = if n == 0 then source channels channel else Filter n channel

-- the link from the end after n stages into the next stage
unfoldable pub step_text : ℕ → ℕ → ℕ → List ℕ
step_text channels channel n = link_text channels (end_after channels channel n) (Filter (n + 1) channel)

-- the links of a channel with this number of stages
unfoldable pub channel_links : ℕ → ℕ → ℕ → List ℕ
channel_links channels stages channel =
    joining_text channels channel ++ texts_to (step_text channels channel) stages
    ++ link_text channels (end_after channels channel stages) (Output channel)

-- the fork of several channels
unfoldable pub fork_text : ℕ → List ℕ
fork_text channels =
    if channels == 1 then [] else actor_text channels Fork (codes "fork") ++ codes "ways = " ++ decimal channels ++ end

-- a comment line with a word and a number
unfoldable pub note : List ℕ → ℕ → List ℕ
note word number = codes "# " ++ word ++ codes " " ++ decimal number ++ end

-- the comment lines with the two rates
unfoldable pub rates_text : ℕ → ℕ → List ℕ
rates_text from to = note (codes "from") from ++ note (codes "to") to

-- the rate that the design is made for
unfoldable pub rate_text : ℕ → List ℕ
rate_text rate = codes "rate = " ++ decimal rate ++ end

-- the first lines of the file: comments, the format, and the rate that the design is made for
unfoldable pub title : ℕ → ℕ → ℕ → List ℕ
title from to channels =
    rates_text from to ++ note (codes "channels") channels ++ codes "format = 1\n" ++ rate_text from

-- the graph file: each channel has these stages
abbrev pub graph_text : ℕ → ℕ → ℕ → List Stage → List ℕ
graph_text from to channels stages =
    title from to channels ++ fork_text channels ++ texts_to (channel_actors channels stages) channels
    ++ texts_to (channel_links channels (length stages)) channels
