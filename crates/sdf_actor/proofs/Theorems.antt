-- What proofs of other crates cite of this one: laws of histories and nets, by their lemmas, for actors of any steps;
-- and lemmas about parts of lists, and about the numbers of a net's lists, that these need.
use Rattle.std.proofs.Common.{ℕ, ◌+◌, arith}
use Rattle.sdf_graph.specs.Rates.{Rates}
use Rattle.sdf_graph.proofs.Theorems.{graphs_have_periods}
use Rattle.sdf_actor.specs.GoingOn.{HistoriesGoOn, StatesGoOn, ArrivalsGoOn, PeriodsAreWhole}
use Rattle.sdf_actor.specs.Laws.{HistoryIsUnique, HistoriesGrow, NetsAreWired, PortsHaveChannels, TakenStays}
use Rattle.sdf_actor.specs.Laws.{PutIsDealt, PutStays, AcceptedIsLawful, RatesBeginAnew, ListsAreBelow, PartsAgree}
use Rattle.sdf_actor.specs.Laws.{PartsAreBehind, FrontsGoOn, PiecesJoin, PiecesPart, BlocksAreRates}
use Rattle.sdf_actor.specs.Locals.{LocalsBegin, LocalsGrow, LocalsMeet}
use Rattle.sdf_actor.specs.Nets.{wiring, answers}
use Rattle.sdf_actor.specs.Steps.{Steps}
use Rattle.sdf_actor.proofs.Agree.{SameInput, SameOutput, taken_before_agrees, put_agrees}
use Rattle.sdf_actor.proofs.Continuing.{history_goes_on, rest_goes_on, arrivals_go_on as arrivals_on}
use Rattle.sdf_actor.proofs.Counts.{list_below as is_below}
use Rattle.sdf_actor.proofs.Dealt.{put_is_dealt as is_dealt}
use Rattle.sdf_actor.proofs.GoesOn.{begin_anew as rates_begin_anew, between_past as part_past}
use Rattle.sdf_actor.proofs.HistoryLaws.{history_is_unique as is_unique, histories_grow as all_grow}
use Rattle.sdf_actor.proofs.Locals.{local_begins, local_grows, locals_are_history}
use Rattle.sdf_actor.proofs.Making.{is_lawful, block_small}
use Rattle.sdf_actor.proofs.Netlists.{wired, to_port_is, from_port_is}
use Rattle.sdf_actor.proofs.Pieces.{between_agree as parts_agree, take_on as front_goes_on, take_begun}
use Rattle.sdf_actor.proofs.Pieces.{flat_map_same as all_same, flat_map_apart as all_apart}
use Rattle.sdf_actor.proofs.WholePeriods.{are_whole}

pub history_is_unique : {A S T : Type 0} (s : Steps A S T) → HistoryIsUnique s
history_is_unique = is_unique

pub histories_grow : {A S T : Type 0} (s : Steps A S T) → HistoriesGrow s
histories_grow = all_grow

pub accepted_is_lawful : {A S T : Type 0} (s : Steps A S T) → AcceptedIsLawful s
accepted_is_lawful = is_lawful

pub blocks_are_rates : {A S T : Type 0} (s : Steps A S T) → BlocksAreRates s
blocks_are_rates s n good shape = block_small s n good shape

pub nets_are_wired : {A S T : Type 0} (s : Steps A S T) → NetsAreWired s
nets_are_wired = wired

pub ports_have_channels : {A S T : Type 0} (s : Steps A S T) → PortsHaveChannels s
ports_have_channels s n a p good known = (to_port_is s n good a p known, from_port_is s n good a p known)

pub taken_stays : {A S T : Type 0} (s : Steps A S T) → TakenStays s
taken_stays s n V W a i good known within on =
    let input : SameInput (wiring s n) V W a i = record {
      known = known;
      agree = λ c l e. take_begun (V c) (W c) ((wiring s n).rates.consumed c i) (on c l) (within c l e);
    } in
    taken_before_agrees (wired s n good) input i (omega arith)

pub put_is_dealt : {A S T : Type 0} (s : Steps A S T) → PutIsDealt s
put_is_dealt s n V ch i good = is_dealt (wiring s n) (wired s n good) V ch i

pub put_stays : {A S T : Type 0} (s : Steps A S T) → PutStays s
put_stays s n V W a i good known within on =
    let output : SameOutput (wiring s n) V W a (i + 1) = record {
      known = known;
      agree = λ c l e. take_begun (V c) (W c)
          ((wiring s n).rates.initial c + (wiring s n).rates.produced c (i + 1)) (on c l) (within c l e);
    } in
    put_agrees (wired s n good) output i (omega arith)

pub locals_begin : {A S T : Type 0} (s : Steps A S T) → LocalsBegin s
locals_begin s n inputs a good = local_begins (wired s n good) (answers s n inputs) a

pub locals_grow : {A S T : Type 0} (s : Steps A S T) → LocalsGrow s
locals_grow s n inputs a k V W b good known local once =
    local_grows (wired s n good) known local once

pub locals_meet : {A S T : Type 0} (s : Steps A S T) → LocalsMeet s
locals_meet s n inputs k own good = locals_are_history (wired s n good) k own

pub periods_are_whole : {A S T : Type 0} (s : Steps A S T) → PeriodsAreWhole s
periods_are_whole s n q b good shape alike accepted =
    are_whole s n graphs_have_periods good shape alike q accepted b

pub histories_go_on : {A B S T : Type 0} (s : Steps A S T) (r : Steps B S T) → HistoriesGoOn s r
histories_go_on s r n m first later all k i V U rest h = history_goes_on h all

pub states_go_on : {A B S T : Type 0} (s : Steps A S T) (r : Steps B S T) → StatesGoOn s r
states_go_on s r n m first later k i V U rest last h = rest_goes_on h last

pub arrivals_go_on : {A B S T : Type 0} (s : Steps A S T) (r : Steps B S T) → ArrivalsGoOn s r
arrivals_go_on s r n m first later k i V U rest h = arrivals_on h

pub begin_anew : {r : Rates} {k : ℕ → ℕ} → RatesBeginAnew r k
begin_anew = rates_begin_anew

pub list_below : {A : Type 0} → ListsAreBelow A
list_below = is_below

pub between_agree : {X : Type 0} → PartsAgree X
between_agree = parts_agree

pub between_past : {X : Type 0} → PartsAreBehind X
between_past = part_past

pub take_on : {X : Type 0} → FrontsGoOn X
take_on = front_goes_on

pub flat_map_same : {X : Type 0} → PiecesJoin X
flat_map_same = all_same

pub flat_map_apart : {X : Type 0} → PiecesPart X
flat_map_apart = all_apart
