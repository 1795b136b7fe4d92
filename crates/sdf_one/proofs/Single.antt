-- A firing of an actor is a row of one, in one part.
use Rattle.std.proofs.Common.{◌≡◌, ℕ, ◌+◌, ◌*◌, ◌-◌, ◌%◌, ◌<◌, List, length}
use Rattle.std.proofs.Common.{get_or, take, drop, sym, ap, ◌∙◌, subst, arith}
use Rattle.std.specs.List.{sum_by}
use Rattle.std.proofs.Math.Nat.{mod-add-mod, zero-mul}
use Rattle.std.proofs.lemmas.List.{take_all}
use Rattle.std.proofs.lemmas.Nat.{mod_below}
use Rattle.sdf_graph.specs.Sequences.{IsEnabled}
use Rattle.sdf_actor.specs.declared.node.Node.TheVariants as node
use Rattle.sdf_actor.specs.Steps.{phase, total_in, total_out}
use Rattle.sdf_actor.specs.Steps.{state_after}
use Rattle.sdf_actor.specs.Histories.{taken_before, spread}
use Rattle.sdf_actor.specs.Nets as nets
use Rattle.sdf_actor.specs.Nets.{wiring, cycle_of, InputsReach}
use Rattle.sdf_one.specs.declared.work.Work.{Work}
use Rattle.sdf_queues.specs.Blocks.{samples}
use Rattle.sdf_queues.specs.Moves.{FitsPorts}
use Rattle.sdf_queues.specs.Sizes.{at_phase, phase_of, in_all, out_all}
use Rattle.sdf_queues.proofs.Theorems.{blocks_are_counted, plans_fit}
use Rattle.sdf_one.specs.Firings.{phase_at, IsActor}
use Rattle.sdf_one.specs.Many.{FitsCycles}
use Rattle.sdf_one.specs.Runs.{HasBlocks}
use Rattle.sdf_one.proofs.ManyWorks.{inner_work}
use Rattle.sdf_one.proofs.Holding.{Holding, HasWork}
use Rattle.sdf_one.proofs.Many.{ActorWork, actor_work, InParts}
use Rattle.sdf_one.proofs.Parts.{flat_map_same}
use Rattle.sdf_one.proofs.Standing as standing

-- one firing
module _ {A S T Z : Type 0} (g : Holding A S T Z) (d : Work A T S) (is_actor : IsActor (get_or g.works g.a d))
    (on : IsEnabled (wiring g.s g.n).rates g.k g.a) where
  open g use {s, n, net, z, sizes, k, a, known, works, qs, st}

  abbrev ins : List ℕ
  ins = (wiring s n).ins a

  abbrev outs : List ℕ
  outs = (wiring s n).outs a

  abbrev at : ActorWork (get_or works a d)
  at = actor_work (get_or works a d) is_actor

  open at use {actor, j, state, taken as taken', put as put'}

  inner : (nets.node n a ≡ node.Inner actor.now)
      × (j ≡ phase s actor.now (length (taken_before (wiring s n) st.history a (k a)))) ×
      (state ≡ state_after s actor.now (taken_before (wiring s n) st.history a (k a)))
      × HasBlocks s actor.now taken' put'
  inner = inner_work g actor j state taken' put' (subst (HasWork g a) at.is (st.each a d known))

  abbrev takes : List ℕ
  takes = at_phase z.takes (phase_at (get_or works a d))

  abbrev puts : List ℕ
  puts = at_phase z.puts (phase_at (get_or works a d))

  abbrev takes_at : ℕ → List ℕ
  takes_at i = at_phase z.takes (phase_of s (nets.node n a) (k a + i))

  abbrev puts_at : ℕ → List ℕ
  puts_at i = at_phase z.puts (phase_of s (nets.node n a) (k a + i))

  now : phase_of s (nets.node n a) (k a + 0) ≡ phase_at (get_or works a d)
  now = ap (phase_of s (nets.node n a)) (let e : k a + 0 ≡ k a = omega arith in e) ∙ sym (standing.at g d)

  abbrev gone : ℕ → ℕ → ℕ
  gone c i = (wiring s n).rates.consumed c (k a + i) - (wiring s n).rates.consumed c (k a)

  phase_is : (i : ℕ) → phase_of s (nets.node n a) (k a + i) ≡ phase s actor.now (j + i)
  phase_is i = ap (λ x. (k a + i) % cycle_of s x) inner.0 ∙
      (ap (λ v. phase s actor.now (v + i)) (sym (blocks_are_counted s n st.history a (k a)))
      ∙ (sym (mod-add-mod (length (taken_before (wiring s n) st.history a (k a))) (s.cycle actor.now) i)
      ∙ ap (λ v. phase s actor.now (v + i)) (sym inner.1)))

  fits : (i : ℕ) → FitsPorts s n a (k a + i) (takes_at i) (puts_at i)
  fits i = plans_fit s n a (k a + i) (takes_at i) (puts_at i) net.good known (sizes.plan a (k a + i) known)

  in_is : (i : ℕ) → sum_by (λ c. get_or (takes_at i) c 0) ins ≡ total_in s actor.now (phase s actor.now (j + i))
  in_is i = (fits i).taken ∙ (ap (λ x. in_all s x (k a + i)) inner.0
      ∙ ap (total_in s actor.now) (ap (λ x. (k a + i) % cycle_of s x) (sym inner.0) ∙ phase_is i))

  out_is : (i : ℕ) → sum_by (λ c. get_or (puts_at i) c 0) outs ≡ total_out s actor.now (phase s actor.now (j + i))
  out_is i = (fits i).put ∙ (ap (λ x. out_all s x (k a + i)) inner.0
      ∙ ap (total_out s actor.now) (ap (λ x. (k a + i) % cycle_of s x) (sym inner.0) ∙ phase_is i))

  none : (c : ℕ) → gone c 0 ≡ 0
  none c = let e : (wiring s n).rates.consumed c (k a + 0) ≡ (wiring s n).rates.consumed c (k a) =
      ap ((wiring s n).rates.consumed c) (let e : k a + 0 ≡ k a = omega arith in e) in omega arith

  once : {x y : ℕ} → x ≡ y → 1 * x ≡ 0 + y
  once e = omega (arith, e)

  pub by_itself : InParts g d 1 1 takes puts
  by_itself = record {
    row = record {
      takes = takes_at;
      puts = puts_at;
      plan = λ i. sizes.plan a (k a + i) known;
      gone = gone;
      gone_is = λ c i l e. let rise = net.wired.sound.consumed_rises c (k a) (k a + i) (omega arith) in omega arith;
      held = λ c l e.
          let own : (wiring s n).rates.consumed c (k ((wiring s n).rates.target c)) ≡
          (wiring s n).rates.consumed c (k a) = ap (λ b. (wiring s n).rates.consumed c (k b)) e in
          omega (
            arith,
            own,
            standing.standing g d c l,
            standing.enabled_within (wiring s n).rates k a on c l e,
          );
    };
    work = at;
    takes_all = (standing.plan g d).takes_all;
    puts_all = (standing.plan g d).puts_all;
    taken = λ c l e. let one = (standing.plan g d).taken c l e in omega arith;
    put = λ c l e. let one = (standing.plan g d).put c l e in omega arith;
    in_all = once (ap (λ v. sum_by (λ c. get_or (at_phase z.takes v) c 0) ins) (sym now) ∙ in_is 0);
    out_all = once (ap (λ v. sum_by (λ c. get_or (at_phase z.puts v) c 0) outs) (sym now) ∙ out_is 0);
    long = λ i l. in_is i;
    whole = flat_map_same (λ c. take (get_or takes c 0) (drop (0 * get_or takes c 0) (samples qs c)))
        (λ c. take (get_or (takes_at 0) c 0) (drop (gone c 0) (samples qs c))) ins (λ p l.
        let c : ℕ = get_or ins p 0 in
        λ κ. take (get_or (at_phase z.takes (sym now κ)) c 0)
        (drop ((zero-mul (get_or takes c 0) ∙ sym (none c)) κ) (samples qs c)));
    deals = λ b long c.
        let more : ℕ = sum_by (λ c. get_or puts c 0) outs in
        let size : length (b 0) ≡ more = long 0 (omega arith)
        ∙ ap (λ v. sum_by (λ c. get_or (at_phase z.puts v) c 0) outs) now in
        (λ κ. spread (λ d. get_or (at_phase z.puts (now κ)) d 0) outs (b 0) c) ∙
        ap (λ ys. spread (λ d. get_or puts d 0) outs ys c)
        (sym (ap (λ v. take more (drop v (b 0))) (zero-mul more) ∙ take_all more (b 0) (omega (arith, size))));
  }

  below : phase s actor.now (j + 0) < s.cycle actor.now
  below = mod_below (j + 0) (s.cycle actor.now) inner.3.some

  -- its blocks have room for it
  pub fits_itself : FitsCycles (get_or works a d) (sum_by (λ c. get_or takes c 0) ins)
      (sum_by (λ c. get_or puts c 0) outs) 1
  fits_itself = subst (λ w. FitsCycles w (sum_by (λ c. get_or takes c 0) ins) (sum_by (λ c. get_or puts c 0) outs) 1)
      (sym at.is) (
        omega (
          arith,
          ap (λ v. sum_by (λ c. get_or (at_phase z.takes v) c 0) ins) now,
          in_is 0,
          inner.3.taken_fits (phase s actor.now (j + 0)) below,
        ),
        omega (
          arith,
          ap (λ v. sum_by (λ c. get_or (at_phase z.puts v) c 0) outs) now,
          out_is 0,
          inner.3.put_fits (phase s actor.now (j + 0)) below,
        ),
      )
