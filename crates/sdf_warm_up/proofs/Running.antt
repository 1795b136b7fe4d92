-- A warm run leaves what the long one leaves, in periods.
use Rattle.std.proofs.Common.{◌≡◌, ℕ, ◌+◌, ◌*◌, List, get_or, refl, sym, ap, ◌∙◌, subst, arith}
use Rattle.std.specs.Prelude.{IsTrue, is_some}
use Rattle.sdf_graph.specs.Rates.{rates}
use Rattle.sdf_graph.specs.Sequences.{IsPass}
use Rattle.sdf_graph.proofs.Theorems.{one_least_period}
use Rattle.sdf_sched.specs.Period.{Schedule}
use Rattle.sdf_actor.specs.declared.sides.Lists.TheVariants.{Inputs}
use Rattle.sdf_actor.specs.Graphs.{graph_of}
use Rattle.sdf_actor.specs.NetFaults.{IsAccepted}
use Rattle.sdf_actor.specs.Nets.{Netlist, node, wiring, IsHistoryOf}
use Rattle.sdf_actor.specs.NetStates.{Leaves, AllRead}
use Rattle.sdf_actor.specs.Sides.{list_of, block_of, period_samples}
use Rattle.sdf_actor.specs.Steps.{Steps}
use Rattle.sdf_queues.specs.RunResults.{HasInputs, periods_of}
use Rattle.sdf_queues.specs.Feeds.{AreFull}
use Rattle.sdf_queues.specs.Periods.{HasPeriod}
use Rattle.sdf_queues.proofs.Theorems.{nets_can_run, periods_may_leave}
use Rattle.sdf_warm_up.specs.Laws.{StartsLate, WarmRunsLeave, WarmRunsGoOn}
use Rattle.sdf_warm_up.proofs.Forgetting.{states_agree}

module _ {A S T : Type 0} (s : Steps A S T) where
  -- all sources read all of an input that is full
  all_read : (n : Netlist A T) (p : Schedule) (few : ℕ) (first : List (List T)) → HasPeriod s n p →
      HasInputs n p.repetitions few first → AreFull n p.repetitions few first →
      AllRead n first (periods_of p.repetitions few)
  all_read n p few first has given full a ext block l is =
      let q : List ℕ = p.repetitions in
      let on : IsTrue (is_some (list_of Inputs (node n a))) =
      subst (λ y. IsTrue (is_some (list_of Inputs y))) (sym is) refl in
      let same : has.accepted.0 ≡ q =
      one_least_period (rates (graph_of s n)) has.accepted.0 q has.accepted.1.period has.period.least in
      let accepted : IsAccepted s n q = subst (IsAccepted s n) same has.accepted.1 in
      let each : block_of (node n a) * get_or q a 0 ≡ period_samples n.nodes Inputs q = accepted.inputs a l on in
      let asks : block * get_or q a 0 ≡ period_samples n.nodes Inputs q =
      ap (λ b. b * get_or q a 0) (sym (ap block_of is)) ∙ each in
      full ext ((nets_can_run s n p few first has given).reads a ext block l is).0 ∙
      (ap (λ z. few * z) (sym asks) ∙ (let e : few * (block * get_or q a 0) ≡ block * (few * get_or q a 0) =
      omega arith in e))

  pub leave : WarmRunsLeave s
  leave n p few warm first later all outputs rest h = record {
    history = h.long.history;
    is = h.long.is;
    count = h.long.count;
    each = h.long.each;
    left = subst (λ j. Leaves s n j h.long.history rest) (sym counts)
        (states_agree s n first later all (periods_of q few) (periods_of q warm) h.memory h.since pass.0 h.long.history
        h.short.history rest late h.short.left);
  }
    where
      q : List ℕ
      q = p.repetitions

      counts : periods_of q (few + warm) ≡ (λ a. periods_of q few a + periods_of q warm a)
      counts = λ κ a. (let e : (few + warm) * get_or q a 0 ≡ few * get_or q a 0 + warm * get_or q a 0 =
          omega arith in e) κ

      pass : (w : List ℕ) × IsPass (wiring s n).rates (periods_of q warm) w
      pass = (nets_can_run s n p few first h.period h.given).paced.passes warm

      late : StartsLate s n first later all (periods_of q few) (periods_of q warm) h.memory h.since pass.0
          h.long.history h.short.history
      late = record {
        net = h.period.net;
        whole = periods_may_leave s n p few h.period;
        warm = h.warm_up;
        order = pass.1.0;
        counts = λ a l. sym (pass.1.1 a l);
        read = all_read n p few first h.period h.given h.full;
        joined = h.joined;
        long = subst (λ j. IsHistoryOf s n all j h.long.history) counts h.long.is;
        short = h.short.is;
      }

  pub go_on : WarmRunsGoOn s
  go_on n p few warm more first before front later all outputs on joined rest last h given full goes =
      goes.runs (few + warm) front all outputs joined given full
      (leave n p few warm first before front outputs rest h)
