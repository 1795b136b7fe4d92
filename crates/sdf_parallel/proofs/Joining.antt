-- Parts are joined, one after another.
use Rattle.std.proofs.Common.{◌≡◌, ℕ, ◌+◌, ◌-◌, ◌*◌, ◌≤◌, List, [], length, get_or, sym, ap}
use Rattle.std.proofs.Common.{◌∙◌, arith, subst, take_all, ⊎_elim}
use Rattle.std.specs.List.{between}
use Rattle.std.proofs.lemmas.Bool.{cases_lt}
use Rattle.std.proofs.lemmas.List.{get_or_past}
use Rattle.std.proofs.lemmas.Slice.{between_from_start}
use Rattle.sdf_sched.specs.Period.{Schedule}
use Rattle.sdf_actor.specs.declared.net_state.NetState.{NetState}
use Rattle.sdf_actor.specs.declared.sides.Lists.TheVariants.{Inputs}
use Rattle.sdf_actor.specs.Nets.{Netlist}
use Rattle.sdf_actor.specs.NetStates.{AreJoined}
use Rattle.sdf_actor.specs.Sides.{period_samples}
use Rattle.sdf_actor.specs.Steps.{Steps}
use Rattle.sdf_queues.specs.RunResults.{HasInputs}
use Rattle.sdf_queues.specs.Feeds.{AreFull, GoesOnBy}
use Rattle.sdf_queues.specs.Periods.{HasPeriod}
use Rattle.sdf_warm_up.specs.Laws.{ArePartsOf}
use Rattle.sdf_warm_up.specs.WarmUps.{WarmsIn}
use Rattle.sdf_warm_up.proofs.Theorems.{parts_go_on, runs_go_on_twice}
use Rattle.sdf_parallel.specs.Parts.{read_by, IsWarmedUp}
use Rattle.sdf_parallel.proofs.Cutting.{reads_join, reads_many, are_given, are_full, cut_at}
use Rattle.sdf_parallel.proofs.Joined.{same_lists}

-- a part that is all
whole : {T : Type 0} (xs : List T) (i j : ℕ) → i ≡ 0 → length xs ≤ j → between i j xs ≡ xs
whole xs i j none long = (λ κ. between (none κ) j xs) ∙ (between_from_start xs j ∙ take_all j xs long)

module _ {A S T : Type 0} (s : Steps A S T) (n : Netlist A T) (p : Schedule)
    (inputs : List (List T)) (periods warm : ℕ) (rest : NetState T S) (has : HasPeriod s n p)
    (warms : WarmsIn s n p.repetitions warm) (given : HasInputs n p.repetitions periods inputs)
    (full : AreFull n p.repetitions periods inputs) where
  abbrev q : List ℕ
  q = p.repetitions

  -- the first of the periods
  abbrev front : ℕ → List (List T)
  front to = read_by n q inputs 0 to

  front_given : (to : ℕ) → to ≤ periods → HasInputs n q to (front to)
  front_given to l = subst (λ k. HasInputs n q k (front to)) (let e : to - 0 ≡ to = omega arith in e)
      (are_given n q inputs periods given full 0 to (omega arith) l)

  front_full : (to : ℕ) → to ≤ periods → AreFull n q to (front to)
  front_full to l = subst (λ k. AreFull n q k (front to)) (let e : to - 0 ≡ to = omega arith in e)
      (are_full n q inputs periods given full 0 to (omega arith) l)

  -- a part more
  pub one_more : (at to : ℕ) → warm ≤ at → at ≤ to → to ≤ periods → (on next joined : List (List T))
      (last begin end : NetState T S) → GoesOnBy s n q rest at (front at) on last →
      IsWarmedUp s n q inputs warm at begin →
      GoesOnBy s n q begin (to - at) (read_by n q inputs at to) next end → AreJoined on next joined →
      length joined ≡ length on → GoesOnBy s n q rest to (front to) joined end
  one_more at to enough order within on next joined last begin end goes (made, short) late are many =
      let all : at - warm + warm ≡ at = omega arith in
      let parts : ArePartsOf s n p (at - warm) warm (to - at) (front (at - warm)) (read_by n q inputs (at - warm) at)
      (front at) (read_by n q inputs at to) on next rest last end = record {
        period = has;
        warm_up = warms;
        given = front_given (at - warm) (omega arith);
        full = front_full (at - warm) (omega arith);
        joined = reads_join n q inputs 0 (at - warm) at (omega arith) (omega arith);
        fed = subst (λ k. AreFull n q k (front at)) (sym all) (front_full at (omega arith));
        goes = subst (λ k. GoesOnBy s n q rest k (front at) on last) (sym all) goes;
        made = made;
        back = begin;
        short = short;
        late = late;
      } in
      subst (λ k. GoesOnBy s n q rest k (front to) joined end)
      (let e : at - warm + warm + (to - at) ≡ to = omega arith in e)
      (parts_go_on s n p (at - warm) warm (to - at) (front (at - warm)) (read_by n q inputs (at - warm) at) (front at)
      (read_by n q inputs at to) (front to) on next joined rest last end parts
      (reads_join n q inputs 0 at to (omega arith) order)
      (reads_many n q inputs 0 to ∙ sym (reads_many n q inputs 0 at)) are many)

  -- a stretch more, which goes on from what is left
  pub stretch_more : (at to : ℕ) → at ≤ to → to ≤ periods → (on next joined : List (List T)) (last end : NetState T S) →
      GoesOnBy s n q rest at (front at) on last → GoesOnBy s n q last (to - at) (read_by n q inputs at to) next end →
      AreJoined on next joined → length joined ≡ length on → GoesOnBy s n q rest to (front to) joined end
  stretch_more at to order within on next joined last end goes later are many =
      subst (λ k. GoesOnBy s n q rest k (front to) joined end) (let e : at + (to - at) ≡ to = omega arith in e)
      (runs_go_on_twice s n q at (to - at) (front at) (read_by n q inputs at to) (front to) on next joined rest last end
      goes (front_full at (omega arith)) later (reads_join n q inputs 0 at to (omega arith) order)
      (reads_many n q inputs 0 to ∙ sym (reads_many n q inputs 0 at)) are many)

  -- all of them are the inputs
  pub all_read : front periods ≡ inputs
  all_read = same_lists (front periods) inputs (reads_many n q inputs 0 periods) (λ e.
      cut_at (0 * period_samples n.nodes Inputs q) (periods * period_samples n.nodes Inputs q) inputs e ∙
      whole (get_or inputs e []) (0 * period_samples n.nodes Inputs q) (periods * period_samples n.nodes Inputs q)
      (omega arith) (⊎_elim (λ l. omega (arith, full e l))
      (λ past. omega (arith, ap length (get_or_past inputs e [] past))) (cases_lt e (length inputs))))
