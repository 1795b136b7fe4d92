-- What proofs of other crates cite of this one: each statement of specs/Laws.antt, by its lemma.
use Rattle.sdf_graph.specs.Laws.{PeriodsRepeat, CapacitiesRepeat, AlikeSequences, GraphsAreSound}
use Rattle.sdf_graph.specs.Laws.{FaultlessGraphsHaveShapes}
use Rattle.sdf_graph.specs.Laws.{GraphsHavePeriods, OneLeastPeriod, LastCountsMore, OthersCountSame}
use Rattle.sdf_graph.specs.Laws.{FrontsCountWithin, SumsGrow, SumsRise, SumsAreSmall, CyclesBeginAnew}
use Rattle.sdf_graph.specs.Laws.{WholeCyclesMove, OneCycleMoves, ConstantRatesMove, ListsSumWithin}
use Rattle.sdf_graph.proofs.Alike.{admissible_alike}
use Rattle.sdf_graph.proofs.Cycles.{sum_to_more, sum_to_rises, sum_within, sum_to_small, sum_to_anew}
use Rattle.sdf_graph.proofs.Cycles.{sum_to_cycles, sum_to_cycle, sum_to_steady}
use Rattle.sdf_graph.proofs.Faultless.{shape_of}
use Rattle.sdf_graph.proofs.Greedy.{times_same, times_other, times_within}
use Rattle.sdf_graph.proofs.Least.{one_least_period as least_is_one}
use Rattle.sdf_graph.proofs.Repeated.{periods_repeat as words_repeat, capacities_repeat as places_repeat}
use Rattle.sdf_graph.proofs.Shapes.{sound_of, period_of}

pub faultless_graphs_have_shapes : FaultlessGraphsHaveShapes
faultless_graphs_have_shapes = shape_of

pub graphs_are_sound : GraphsAreSound
graphs_are_sound = sound_of

pub graphs_have_periods : GraphsHavePeriods
graphs_have_periods = period_of

pub one_least_period : OneLeastPeriod
one_least_period = least_is_one

pub last_counts_more : LastCountsMore
last_counts_more = times_same

pub others_count_same : OthersCountSame
others_count_same = times_other

pub fronts_count_within : FrontsCountWithin
fronts_count_within = times_within

pub sums_grow : SumsGrow
sums_grow = sum_to_more

pub sums_rise : SumsRise
sums_rise = sum_to_rises

pub lists_sum_within : ListsSumWithin
lists_sum_within = sum_within

pub sums_are_small : SumsAreSmall
sums_are_small = sum_to_small

pub cycles_begin_anew : CyclesBeginAnew
cycles_begin_anew = sum_to_anew

pub whole_cycles_move : WholeCyclesMove
whole_cycles_move = sum_to_cycles

pub one_cycle_moves : OneCycleMoves
one_cycle_moves = sum_to_cycle

pub constant_rates_move : ConstantRatesMove
constant_rates_move = sum_to_steady

pub periods_repeat : PeriodsRepeat
periods_repeat = words_repeat

pub capacities_repeat : CapacitiesRepeat
capacities_repeat = places_repeat

pub alike_sequences : AlikeSequences
alike_sequences = admissible_alike
