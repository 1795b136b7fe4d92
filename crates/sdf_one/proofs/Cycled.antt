-- Cycles of an actor in a row are firings in equal parts.
use Rattle.std.proofs.Common.{◌≡◌, ℕ, ◌+◌, ◌*◌, ◌%◌, ◌≤◌, ◌<◌, List, length}
use Rattle.std.proofs.Common.{get_or, take, drop, sym, ap, ◌∙◌, subst, arith}
use Rattle.std.specs.List.{flat_map, sum_by}
use Rattle.sdf_actor.specs.declared.node.Node.TheVariants as node
use Rattle.sdf_actor.specs.Steps.{phase, total_in, sum_in, sum_out}
use Rattle.sdf_actor.specs.Steps.{state_after}
use Rattle.sdf_actor.specs.Histories.{taken, taken_before, spread}
use Rattle.sdf_actor.specs.Nets as nets
use Rattle.sdf_actor.specs.Nets.{wiring, cycle_of, InputsReach}
use Rattle.sdf_one.specs.declared.work.Work.{Work}
use Rattle.sdf_one.specs.declared.work.Work.TheVariants.{Source, Sink, Inner}
use Rattle.sdf_queues.specs.Blocks.{samples}
use Rattle.sdf_node.specs.Many.{joined}
use Rattle.sdf_queues.specs.Blocks.{dealt}
use Rattle.sdf_queues.proofs.Theorems.{blocks_are_counted}
use Rattle.sdf_one.specs.Firings.{IsActor}
use Rattle.sdf_one.specs.Many.{CanBatchCycles}
use Rattle.sdf_one.specs.Runs.{HasBlocks}
use Rattle.sdf_one.proofs.CycleBlocks as blocks
use Rattle.sdf_one.proofs.ManyWorks.{inner_work}
use Rattle.sdf_one.proofs.WholeCycles as cycle
use Rattle.sdf_one.proofs.Known.{ins_all}
use Rattle.sdf_one.proofs.Holding.{ActorOf, Holding, Cycling, HasWork, actor_of}
use Rattle.sdf_one.proofs.Many.{ActorWork, actor_work, InParts}

-- so many cycles
module _ {A S T Z : Type 0} (g : Holding A S T Z) (cycling : Cycling g) (d : Work A T S) where
  open g use {s, n, net, z, y, cycles, k, a, known, works, qs, st}
  open cycling use {times, held}

  abbrev ins : List ℕ
  ins = (wiring s n).ins a

  abbrev outs : List ℕ
  outs = (wiring s n).outs a

  is_actor : (w : Work A T S) → CanBatchCycles s z w ins outs → IsActor w
  is_actor (Inner actor j state taken put) goes = tt
  is_actor (Source ext next block) goes = absurd goes
  is_actor (Sink ext) goes = absurd goes

  abbrev at : ActorWork (get_or works a d)
  at = actor_work (get_or works a d) (is_actor (get_or works a d) (cycling.goes d))

  open at use {actor, j, state, taken as taken', put as put'}

  goes : CanBatchCycles s z (Inner actor j state taken' put') ins outs
  goes = subst (λ w. CanBatchCycles s z w ins outs) at.is (cycling.goes d)

  inner : (nets.node n a ≡ node.Inner actor.now)
      × (j ≡ phase s actor.now (length (taken_before (wiring s n) st.history a (k a)))) ×
      (state ≡ state_after s actor.now (taken_before (wiring s n) st.history a (k a)))
      × HasBlocks s actor.now taken' put'
  inner = inner_work g actor j state taken' put' (subst (HasWork g a) at.is (st.each a d known))

  abbrev its : ActorOf A S T
  its = actor_of g actor.now inner.0

  abbrev firings : ℕ
  firings = times * cycle_of s (nets.node n a)

  firings_are : firings ≡ times * s.cycle actor.now
  firings_are = ap (λ v. times * cycle_of s v) inner.0

  begins : k a % s.cycle actor.now ≡ 0
  begins = ap (phase s actor.now) (sym (blocks_are_counted s n st.history a (k a))) ∙ (sym inner.1 ∙ goes.0)

  moves : (c : ℕ) → c < length n.wires → (wiring s n).rates.target c ≡ a →
      (wiring s n).rates.consumed c firings ≡ times * get_or y.takes.items c 0
  moves c l e = ap ((wiring s n).rates.consumed c) firings_are ∙ cycle.taken_by its c l e times

  pub by_cycles : InParts g d times firings y.takes.items y.puts.items
  by_cycles = record {
    row = record {
      takes = cycle.takes_at its;
      puts = cycle.puts_at its;
      plan = λ i. cycle.plan_by its (k a + i) i (cycle.phase_on its (k a) i begins);
      gone = λ c i. (wiring s n).rates.consumed c i;
      gone_is = λ c i l e. cycle.ahead_in its (k a) begins c l e i;
      held = λ c l e. let at = ins_all s n net a known c l e in
          let here : times * get_or y.takes.items c 0 ≤ length (samples qs c) =
          subst (λ b. times * get_or y.takes.items b 0 ≤ length (samples qs b)) at.2 (held at.0 at.1) in
          omega (arith, here, moves c l e);
    };
    work = at;
    takes_all = cycles.takes_all;
    puts_all = cycles.puts_all;
    taken = moves;
    put = λ c l e. cycle.ahead_out its (k a) begins c l e firings ∙ ap (λ v. (wiring s n).rates.produced c (k a) + v)
        (ap ((wiring s n).rates.produced c) firings_are ∙ cycle.put_by its c l e times);
    in_all = cycle.all_in its times ∙ (λ κ. sum_in s actor.now (sym goes.0 κ) (sym firings_are κ));
    out_all = cycle.all_out its times ∙ (λ κ. sum_out s actor.now (sym goes.0 κ) (sym firings_are κ));
    long = λ i l. sym (cycle.in_is its i) ∙ ap (λ v. total_in s actor.now (v % s.cycle actor.now))
        ((let v : i ≡ 0 + i = omega arith in v) ∙ ap (λ v. v + i) (sym goes.0));
    whole = blocks.all_taken its times qs goes.2
        ∙ ap (joined (λ i. flat_map (λ c. take (get_or (cycle.takes_at its i) c 0)
        (drop ((wiring s n).rates.consumed c i) (samples qs c))) ins)) (sym firings_are);
    deals = λ b long c.
        ap (joined (λ e. spread (λ d. get_or (cycle.puts_at its e) d 0) outs (b e) c)) firings_are ∙
        (blocks.all_dealt its times goes.3 b (λ e h. long e (omega (arith, h, firings_are))
        ∙ sym (cycle.out_is its e)) c
        ∙ ap (λ v. dealt y.puts.items outs (sum_by (λ c. get_or y.puts.items c 0) outs) (joined b v) c times)
        (sym firings_are));
  }
