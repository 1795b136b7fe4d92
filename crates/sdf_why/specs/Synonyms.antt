-- Words that are not kinds, but that users try for one.
use Rattle.std.specs.Prelude.{ℕ, Bool, List, [], codes, map, Option, bytes_eq, find}
use Rattle.std.specs.List.{list_any}
use Rattle.sdf_kinds.specs.declared.row.Kind.{Kind}
use Rattle.sdf_kinds.specs.declared.row.Kind.TheVariants as kinds
use Rattle.sdf_why.specs.declared.synonyms.Purpose.{Purpose}
use Rattle.sdf_why.specs.declared.synonyms.Purpose.TheVariants.{Filter, Converter, Volume, Mixer, Difference, Splitter}
use Rattle.sdf_why.specs.declared.synonyms.Purpose.TheVariants.{Lag, Limiter, Bias, Shaper, Demultiplexer, Multiplexer}
use Rattle.sdf_why.specs.declared.synonyms.Purpose.TheVariants.{Source, Sink}
use Rattle.sdf_why.specs.declared.synonyms.TheConstants.{PURPOSES, FILTERS, CONVERTERS, VOLUMES, MIXERS, DIFFERENCES}
use Rattle.sdf_why.specs.declared.synonyms.TheConstants.{SPLITTERS, LAGS, LIMITERS, BIASES, SHAPERS, DEMULTIPLEXERS}
use Rattle.sdf_why.specs.declared.synonyms.TheConstants.{MULTIPLEXERS, SOURCES, SINKS}

-- the words that users try for a purpose
abbrev pub words_of : Purpose → List (List ℕ)
words_of Filter = map (λ word. word.now) FILTERS.now
words_of Converter = map (λ word. word.now) CONVERTERS.now
words_of Volume = map (λ word. word.now) VOLUMES.now
words_of Mixer = map (λ word. word.now) MIXERS.now
words_of Difference = map (λ word. word.now) DIFFERENCES.now
words_of Splitter = map (λ word. word.now) SPLITTERS.now
words_of Lag = map (λ word. word.now) LAGS.now
words_of Limiter = map (λ word. word.now) LIMITERS.now
words_of Bias = map (λ word. word.now) BIASES.now
words_of Shaper = map (λ word. word.now) SHAPERS.now
words_of Demultiplexer = map (λ word. word.now) DEMULTIPLEXERS.now
words_of Multiplexer = map (λ word. word.now) MULTIPLEXERS.now
words_of Source = map (λ word. word.now) SOURCES.now
words_of Sink = map (λ word. word.now) SINKS.now

-- the kind that serves a purpose
abbrev pub kind_of : Purpose → Kind
kind_of Filter = kinds.Fir
kind_of Converter = kinds.Fir
kind_of Volume = kinds.Gain
kind_of Mixer = kinds.Add
kind_of Difference = kinds.Add
kind_of Splitter = kinds.Fork
kind_of Lag = kinds.Delay
kind_of Limiter = kinds.Clip
kind_of Bias = kinds.Offset
kind_of Shaper = kinds.Table
kind_of Demultiplexer = kinds.Deal
kind_of Multiplexer = kinds.Gather
kind_of Source = kinds.Input
kind_of Sink = kinds.Output

-- how the kind serves the purpose, where its name does not say it
abbrev pub advice_of : Purpose → List ℕ
advice_of Filter = codes "  `sdfw fir` prints the taps of a low-pass, high-pass or band-pass\n"
advice_of Converter = codes "  `sdfw resample` writes a whole converter\n"
advice_of Volume = []
advice_of Mixer = []
advice_of Difference = codes "  one of its inputs comes from a gain of -1\n"
advice_of Splitter = []
advice_of Lag = []
advice_of Limiter = []
advice_of Bias = []
advice_of Shaper = []
advice_of Demultiplexer = []
advice_of Multiplexer = []
advice_of Source = []
advice_of Sink = []

abbrev pub has_word : List ℕ → Purpose → Bool
has_word word purpose = list_any (bytes_eq word) (words_of purpose)

abbrev pub purposes : List Purpose
purposes = PURPOSES

-- the first purpose that has a word
abbrev pub purpose_of : List ℕ → Option Purpose
purpose_of word = find (has_word word) purposes
