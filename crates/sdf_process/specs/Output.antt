-- The output of a design and a WAV file.
use Rattle.std.specs.Prelude.{◌≡◌, ℕ, ◌+◌, ◌-◌, ◌*◌, ◌/◌, ◌%◌, ◌<◌, ◌≤◌, nat_lt, not, ◌==◌, if◌then◌else◌, ℤ, pos, List}
use Rattle.std.specs.Prelude.{map, option_map, slice_index_or, Option, Some, None}
use Rattle.std.specs.Int.{w16, saturate_signed}
use Rattle.std.specs.List.{flat_map, range_with_len}
use Rattle.sdf_limits.specs.declared.TheConstants.{MAX_PERIOD, MAX_RATE}
use Rattle.sdf_wav.specs.Sound.{Sound, frames_of}
use Rattle.sdf_wav.specs.Canonical.{size_fault}
use Rattle.sdf_wav.specs.PiecesOut.{file_header}
use Rattle.sdf_wav.specs.declared.wav.TheConstants.{MAX_CHANNELS}
use Rattle.sdf_actor.specs.Nets.{Netlist}
use Rattle.sdf_actor.specs.Sides.{list_count, period_samples}
use Rattle.sdf_actor.specs.declared.sides.Lists.TheVariants.{Inputs, Outputs}
use Rattle.sdf_process.specs.declared.io_rates.StreamInfo.{StreamInfo}
use Rattle.sdf_process.specs.declared.io_rates.IoRates.{IoRates}
use Rattle.sdf_process.specs.declared.io_rates.OutputSize.{OutputSize}
use Rattle.sdf_faults.specs.declared.fault.Fault.{Fault}
use Rattle.sdf_faults.specs.declared.fault.Fault.TheVariants.{Wav, ChannelsMissing, RateNotWhole}

-- the I/O rates of a net with least repetition vector q: what it exchanges with files in a period
abbrev pub io_rates_of : {A : Type 0} → Netlist A ℤ → List ℕ → IoRates
io_rates_of n q = record {
  inputs = list_count Inputs n.nodes;
  outputs = list_count Outputs n.nodes;
  taken = period_samples n.nodes Inputs q;
  made = period_samples n.nodes Outputs q;
}

-- the stream info of a sound: what is known of it before its samples are read
abbrev pub info_of : Sound → StreamInfo
info_of s = record { rate = s.rate; channels = s.channels; frames = frames_of s }

-- the number of periods that it takes to read this many frames
abbrev pub periods_for : IoRates → ℕ → ℕ
periods_for x frames = (frames + (x.taken - 1)) / x.taken

-- frames a second of the output
abbrev pub rate_for : IoRates → ℕ → ℕ
rate_for x rate = rate * x.made / x.taken

-- frames of the output, which has whole periods
abbrev pub frames_for : IoRates → ℕ → ℕ
frames_for x frames = periods_for x frames * x.made

-- the reason why a sound with this stream info has no output, if it has none
abbrev pub info_fault : IoRates → StreamInfo → Option Fault
info_fault x a =
    if nat_lt a.channels x.inputs then Some ChannelsMissing
    else (if not (a.rate * x.made % x.taken == 0) then Some RateNotWhole
    else option_map Wav (size_fault (rate_for x a.rate) x.outputs (frames_for x a.frames * x.outputs)))

-- the periods, the rate, the frames and the fault of the output of a sound
abbrev pub periods_of : IoRates → Sound → ℕ
periods_of x s = periods_for x (frames_of s)

abbrev pub output_rate : IoRates → Sound → ℕ
output_rate x s = rate_for x s.rate

abbrev pub output_frames : IoRates → Sound → ℕ
output_frames x s = frames_for x (frames_of s)

abbrev pub output_fault : IoRates → Sound → Option Fault
output_fault x s = info_fault x (info_of s)

-- the header of the output of a sound with this stream info
abbrev pub output_header : IoRates → StreamInfo → List ℕ
output_header x a = file_header (rate_for x a.rate) x.outputs (frames_for x a.frames)

-- sample i of channel e; there are zeros past the last frame
abbrev pub sample : Sound → ℕ → ℕ → ℤ
sample s e i = slice_index_or s.samples (i * s.channels + e) (pos 0)

-- n samples of channel e from sample `at` on; `channel_samples` has the first n
abbrev pub channel_samples_from : Sound → ℕ → ℕ → ℕ → List ℤ
channel_samples_from s at n e = map (sample s e) (range_with_len at n)

abbrev pub channel_samples : Sound → ℕ → ℕ → List ℤ
channel_samples s n e = channel_samples_from s 0 n e

-- each channel that is read, for this many periods
abbrev pub lists_to : ℕ → IoRates → Sound → List (List ℤ)
lists_to periods x s = map (channel_samples s (periods * x.taken)) (range_with_len 0 x.inputs)

-- each channel that is read, for this many periods behind the first `at`
abbrev pub lists_from : ℕ → ℕ → IoRates → Sound → List (List ℤ)
lists_from at periods x s = map (channel_samples_from s (at * x.taken) (periods * x.taken)) (range_with_len 0 x.inputs)

-- the input lists, for all periods
abbrev pub input_lists : IoRates → Sound → List (List ℤ)
input_lists x s = lists_to (periods_of x s) x s

-- frame i of some lists, each sample clamped to 16 bits
abbrev pub frame : List (List ℤ) → ℕ → List ℤ
frame lists i = map (λ xs. saturate_signed w16 (slice_index_or xs i (pos 0))) lists

-- n frames from frame `at` on, one after the other; `interleaved` has the first n
abbrev pub interleaved_from : ℕ → ℕ → List (List ℤ) → List ℤ
interleaved_from at n lists = flat_map (frame lists) (range_with_len at n)

abbrev pub interleaved : ℕ → List (List ℤ) → List ℤ
interleaved n lists = interleaved_from 0 n lists

-- lists, one behind the other
abbrev pub in_turn : List (List ℤ) → List ℤ
in_turn lists = flat_map (λ l. l) lists

-- the sound of the output lists
abbrev pub output_of : IoRates → Sound → List (List ℤ) → Sound
output_of x s lists = record {
  rate = output_rate x s;
  channels = x.outputs;
  samples = interleaved (output_frames x s) lists;
}

-- what is true of a net's I/O rates
pub record AreIoRates (x : IoRates) : Type 0 where
  pub some_taken : 0 < x.taken
  pub some_made : 0 < x.made
  pub few_taken : x.taken ≤ MAX_RATE * MAX_PERIOD
  pub few_made : x.made ≤ MAX_RATE * MAX_PERIOD
  pub few_inputs : x.inputs ≤ MAX_CHANNELS
  pub one_output : 1 ≤ x.outputs
  pub few_outputs : x.outputs ≤ MAX_CHANNELS

-- the size of the output of a sound with this stream info: its rate and its length, if there is an output
pub record IsOutputSize (x : IoRates) (a : StreamInfo) (e : OutputSize) : Type 0 where
  pub is_allowed : info_fault x a ≡ None
  pub rate : e.rate ≡ rate_for x a.rate
  pub periods : e.periods ≡ periods_for x a.frames
  pub some_rate : 0 < e.rate
  pub few_bytes_a_second : e.rate * (2 * x.outputs) ≤ 4294967295
  pub few_bytes : 2 * (e.periods * x.made * x.outputs) ≤ 4294967259
