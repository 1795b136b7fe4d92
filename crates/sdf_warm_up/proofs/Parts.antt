-- Parts of a run that are made apart go on to one run.
use Rattle.std.proofs.Common.{◌≡◌, ℕ, ◌+◌, ◌≤◌, ◌<◌, List, [], ◌++◌, length, map, get_or, sym, ap, ◌∙◌, subst}
use Rattle.std.proofs.Common.{arith, append_assoc, ⊎_elim}
use Rattle.std.specs.List.{range_with_len}
use Rattle.std.proofs.lemmas.Bool.{cases_lt}
use Rattle.std.proofs.lemmas.List.{get_or_past, length-append}
use Rattle.std.proofs.lemmas.List.FromFn.{get_or-map-range_with_len, length-map-range_with_len}
use Rattle.sdf_sched.specs.Period.{Schedule}
use Rattle.sdf_actor.specs.declared.net_state.NetState.{NetState}
use Rattle.sdf_actor.specs.Nets.{Netlist}
use Rattle.sdf_actor.specs.NetStates.{AreJoined}
use Rattle.sdf_actor.specs.Steps.{Steps}
use Rattle.sdf_queues.specs.RunResults.{HasInputs, periods_of}
use Rattle.sdf_queues.specs.Feeds.{HasRun, AreFull, GoesOnBy}
use Rattle.sdf_warm_up.specs.Laws.{RunsLate, ArePartsOf, PartsGoOn, RunsGoOnTwice, RunsLeaveStates}
use Rattle.sdf_warm_up.proofs.Running.{leave}

-- lists joined, number by number
abbrev both : {T : Type 0} → List (List T) → List (List T) → List (List T)
both first later = map (λ e. get_or first e [] ++ get_or later e []) (range_with_len 0 (length first))

length_both : {T : Type 0} (first later : List (List T)) → length (both first later) ≡ length first
length_both first later = length-map-range_with_len (λ e. get_or first e [] ++ get_or later e []) 0 (length first)

are_both : {T : Type 0} (first later : List (List T)) → length first ≡ length later →
    AreJoined first later (both first later)
are_both first later same e = ⊎_elim here past (cases_lt e (length first))
  where
    here : e < length first → get_or (both first later) e [] ≡ get_or first e [] ++ get_or later e []
    here l = get_or-map-range_with_len (λ e. get_or first e [] ++ get_or later e []) 0 (length first) e e [] l
        (omega arith)

    past : length first ≤ e → get_or (both first later) e [] ≡ get_or first e [] ++ get_or later e []
    past l = get_or_past (both first later) e [] (omega (arith, length_both first later)) ∙
        sym ((λ κ. get_or_past first e [] l κ ++ get_or_past later e [] (omega arith) κ))

-- what is joined of three may be joined in either order
in_turn : {T : Type 0} (a b c ab bc abc : List (List T)) → AreJoined a b ab → AreJoined b c bc → AreJoined a bc abc →
    AreJoined ab c abc
in_turn a b c ab bc abc front back all e =
    all e ∙ (ap (λ xs. get_or a e [] ++ xs) (back e) ∙
    (sym (append_assoc (get_or a e []) (get_or b e []) (get_or c e [])) ∙
    ap (λ xs. xs ++ get_or c e []) (sym (front e))))

-- the inputs of some periods and of more, joined, are those of all
module _ {A T : Type 0} (n : Netlist A T) (q : List ℕ) (few more : ℕ) (first later all : List (List T))
    (joined : AreJoined first later all) (many : length all ≡ length first) where
  long : (e : ℕ) → length (get_or all e []) ≡ length (get_or first e []) + length (get_or later e [])
  long e = ap length (joined e) ∙ length-append (get_or first e []) (get_or later e [])

  pub inputs_join : HasInputs n q few first → HasInputs n q more later → HasInputs n q (few + more) all
  inputs_join given also = record {
    count = many ∙ given.count;
    even = λ e l. omega (
      arith,
      long e,
      long 0,
      given.even e (omega (arith, many)),
      also.even e (omega (arith, many, given.count, also.count)),
    );
    enough = λ e l. omega (
      arith,
      long e,
      given.enough e (omega (arith, many)),
      also.enough e (omega (arith, many, given.count, also.count)),
    );
  }

  pub full_join : AreFull n q few first → AreFull n q more later → length later ≡ length first →
      AreFull n q (few + more) all
  full_join full also same e l = omega (
    arith,
    long e,
    full e (omega (arith, many)),
    also e (omega (arith, many)),
  )

-- a run that goes on from a net state, and one that goes on from what it leaves
pub goes_twice : {A S T : Type 0} (s : Steps A S T) → RunsGoOnTwice s
goes_twice s n q few more front after all on next joined rest mid last goes full later fronts as_many made_are
    made_many = record {
      given = inputs_join n q few more front after all fronts as_many goes.given later.given;
      count = made_many ∙ goes.count;
      runs = λ before first whole made outputs given fed run wholes outs many.
          let same = given.count ∙ sym goes.given.count in
          let mids = are_both first front same in
          let mids_made = are_both made on (run.count ∙ sym goes.count) in
          subst (λ k. HasRun s n whole (periods_of q k) outputs last)
          (let e : before + few + more ≡ before + (few + more) = omega arith in e)
          (later.runs (before + few) (both first front) whole (both made on) outputs
          (inputs_join n q before few first front (both first front) mids (length_both first front) given goes.given)
          (full_join n q before few first front (both first front) mids (length_both first front) fed full (sym same))
          (goes.runs before first (both first front) made (both made on) given fed run mids mids_made
          (length_both made on))
          (in_turn first front after (both first front) all whole mids fronts wholes)
          (in_turn made on next (both made on) joined outputs mids_made made_are outs)
          (many ∙ sym (length_both made on)));
    }

-- what such a run leaves, a run of all periods leaves
pub left_on : {A S T : Type 0} (s : Steps A S T) → RunsLeaveStates s
left_on s n q more later on rest last was goes full =
    let same : length was.inputs ≡ length later = was.given.count ∙ sym goes.given.count in
    let joined = are_both was.inputs later same in
    let many = length_both was.inputs later in
    record {
      periods = was.periods + more;
      inputs = both was.inputs later;
      outputs = both was.outputs on;
      given = inputs_join n q was.periods more was.inputs later (both was.inputs later) joined many was.given
          goes.given;
      full = full_join n q was.periods more was.inputs later (both was.inputs later) joined many was.full full
          (sym same);
      run = goes.runs was.periods was.inputs (both was.inputs later) was.outputs (both was.outputs on) was.given
          was.full was.run joined (are_both was.outputs on (was.run.count ∙ sym goes.count))
          (length_both was.outputs on);
    }

-- the long run leaves what the one leaves that is started late
module _ {A S T : Type 0} {s : Steps A S T} {n : Netlist A T} {p : Schedule} {spare warm more : ℕ}
    {before tail front after on next : List (List T)} {rest last end : NetState T S}
    (h : ArePartsOf s n p spare warm more before tail front after on next rest last end) where
  abbrev q : List ℕ
  q = p.repetitions

  module _ (few : ℕ) (first mid made outputs : List (List T)) (given : HasInputs n q few first)
      (full : AreFull n q few first) (run : HasRun s n first (periods_of q few) made rest)
      (mids : AreJoined first front mid) (outs : AreJoined made on outputs) (many : length outputs ≡ length made)
    where
      -- all that was read before the other run was started
      abbrev start : List (List T)
      start = both first before

      starts : AreJoined first before start
      starts = are_both first before (given.count ∙ sym h.given.count)

      here : few + (spare + warm) ≡ few + spare + warm
      here = omega arith

      late : RunsLate s n p (few + spare) warm start tail mid outputs h.back
      late = record {
        period = h.period;
        memory = h.warm_up.memory;
        since = h.warm_up.since;
        warm_up = h.warm_up.is;
        given = inputs_join n q few spare first before start starts (length_both first before) given h.given;
        full = full_join n q few spare first before start starts (length_both first before) full h.full
            (h.given.count ∙ sym given.count);
        joined = in_turn first before tail start front mid starts h.joined mids;
        made = h.made;
        short = h.short;
        other = last;
        long = subst (λ k. HasRun s n mid (periods_of q k) outputs last) here
            (h.goes.runs few first mid made outputs given full run mids outs many);
      }

      pub left_late : HasRun s n mid (periods_of q (few + (spare + warm))) outputs h.back
      left_late = subst (λ k. HasRun s n mid (periods_of q k) outputs h.back) (sym here)
          (leave s n p (few + spare) warm start tail mid outputs h.back late)

  pub back_too : GoesOnBy s n q rest (spare + warm) front on h.back
  back_too = record { given = h.goes.given; count = h.goes.count; runs = left_late }

pub parts : {A S T : Type 0} (s : Steps A S T) → PartsGoOn s
parts s n p spare warm more before tail front after all on next joined rest last end h =
    goes_twice s n p.repetitions (spare + warm) more front after all on next joined rest h.back end (back_too h) h.fed
    h.late
