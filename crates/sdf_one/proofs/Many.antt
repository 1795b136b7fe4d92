-- What a runner holds after firings of an actor through its blocks, in equal parts: a firing, or so many cycles.
use Rattle.std.proofs.Common.{◌≡◌, ℕ, ◌+◌, ◌*◌, ◌%◌, ◌^◌, ◌<◌, List, ◌++◌, length}
use Rattle.std.proofs.Common.{get_or, drop, refl, sym, ap, ◌∙◌, subst, inl, inr, ◌⊎◌, arith}
use Rattle.std.specs.Borrow.{Bor}
use Rattle.std.specs.Global.{Global}
use Rattle.std.specs.List.{sum_by}
use Rattle.std.proofs.Math.Nat.{mod-add-mod}
use Rattle.std.proofs.lemmas.Bool.{cases_eq}
use Rattle.std.proofs.lemmas.Nat.{mod_below}
use Rattle.std.specs.declared.vec.Vec.{Vec}
use Rattle.sdf_actor.specs.declared.node.Node.TheVariants as node
use Rattle.sdf_actor.specs.Steps.{phase, total_in, sum_in, sum_out, state_at, puts_to}
use Rattle.sdf_actor.specs.Steps.{state_after}
use Rattle.sdf_actor.specs.Histories.{taken, taken_before, spread}
use Rattle.sdf_actor.specs.Nets as nets
use Rattle.sdf_actor.specs.Nets.{wiring, cycle_of, InputsReach}
use Rattle.sdf_actor.specs.Laws.{HistoryGrowsByFiring}
use Rattle.sdf_one.specs.declared.work.Work.{Work}
use Rattle.sdf_one.specs.declared.work.Work.TheVariants.{Source, Sink, Inner}
use Rattle.sdf_queues.specs.Blocks.{samples, at_ports}
use Rattle.sdf_queues.specs.Moves.{FitsPorts}
use Rattle.sdf_node.specs.Many.{joined, listed}
use Rattle.sdf_queues.specs.Blocks.{front_at, dealt}
use Rattle.sdf_queues.proofs.Theorems.{plans_fit}
use Rattle.sdf_one.specs.Firings.{IsActor}
use Rattle.sdf_one.specs.Many.{FitsCycles, CanWorkInParts, CanFireInParts, AreFiredInParts}
use Rattle.sdf_one.specs.Runs.{HasBlocks, IsWork, IsState}
use Rattle.sdf_one.proofs.ManyWorks.{inner_work, worked_of}
use Rattle.sdf_one.proofs.Batch as batch
use Rattle.sdf_one.proofs.Batch.{Firings, InARow, states, puts_joined}
use Rattle.sdf_one.proofs.Holding.{Holding, Ahead, After, HasWork}
use Rattle.sdf_one.proofs.Standing as standing

-- an actor's work
pub record ActorWork {A S T : Type 0} (w : Work A T S) : Type 0 where
  pub actor : Bor A
  pub j : ℕ
  pub state : S
  pub taken : Vec T Global
  pub put : Vec T Global
  pub is : w ≡ Inner actor j state taken put

pub actor_work : {A S T : Type 0} (w : Work A T S) → IsActor w → ActorWork w
actor_work (Inner actor j state taken put) is =
    record { actor = actor; j = j; state = state; taken = taken; put = put; is = refl }
actor_work (Source ext next block) is = absurd is
actor_work (Sink ext) is = absurd is

-- the next `firings` firings of an actor in a row, in `times` parts that move the same at each channel
pub record InParts {A S T Z : Type 0} (g : Holding A S T Z) (d : Work A T S) (times firings : ℕ) (takes puts : List ℕ) :
    Type 0 where
  pub row : InARow g firings
  pub work : ActorWork (get_or g.works g.a d)
  pub takes_all : length takes ≡ length g.n.wires
  pub puts_all : length puts ≡ length g.n.wires
  pub taken : (c : ℕ) → c < length g.n.wires → (wiring g.s g.n).rates.target c ≡ g.a →
      row.gone c firings ≡ times * get_or takes c 0
  pub put : (c : ℕ) → c < length g.n.wires → (wiring g.s g.n).rates.source c ≡ g.a →
      (wiring g.s g.n).rates.produced c (g.k g.a + firings) ≡
      (wiring g.s g.n).rates.produced c (g.k g.a) + times * get_or puts c 0
  pub in_all : times * sum_by (λ c. get_or takes c 0) ((wiring g.s g.n).ins g.a) ≡
      sum_in g.s work.actor.now work.j firings
  pub out_all : times * sum_by (λ c. get_or puts c 0) ((wiring g.s g.n).outs g.a) ≡
      sum_out g.s work.actor.now work.j firings
  -- part by part they take and put what they do firing by firing
  pub long : (i : ℕ) → i < firings → sum_by (λ c. get_or (row.takes i) c 0) ((wiring g.s g.n).ins g.a) ≡
      total_in g.s work.actor.now (phase g.s work.actor.now (work.j + i))
  pub whole : joined (front_at takes ((wiring g.s g.n).ins g.a) g.qs) times ≡
      joined (batch.block (batch.firings row)) firings
  pub deals : (b : ℕ → List T) → ((e : ℕ) → e < firings → length (b e) ≡
      sum_by (λ c. get_or (row.puts e) c 0) ((wiring g.s g.n).outs g.a)) → (c : ℕ) →
      joined (λ e. spread (λ d. get_or (row.puts e) d 0) ((wiring g.s g.n).outs g.a) (b e) c) firings ≡
      dealt puts ((wiring g.s g.n).outs g.a) (sum_by (λ c. get_or puts c 0) ((wiring g.s g.n).outs g.a))
      (joined b firings) c times

module _ {A S T Z : Type 0} {g : Holding A S T Z} {d : Work A T S} {times firings : ℕ}
    {takes puts : List ℕ} (p : InParts g d times firings takes puts) (ahead : Ahead g firings) where
  open g use {s, n, net, inputs, many, k, a, known, works, qs, outputs, st}
  open p use {row, work.{actor, j, state, taken as taken', put as put'}}
  open ahead use {m, own}

  abbrev ins : List ℕ
  ins = (wiring s n).ins a

  abbrev outs : List ℕ
  outs = (wiring s n).outs a

  abbrev w0 : Work A T S
  w0 = Inner actor j state taken' put'

  abbrev past : List (List T)
  past = taken_before (wiring s n) st.history a (k a)

  inner : (nets.node n a ≡ node.Inner actor.now) × (j ≡ phase s actor.now (length past))
      × (state ≡ state_after s actor.now past) × HasBlocks s actor.now taken' put'
  inner = inner_work g actor j state taken' put' (subst (HasWork g a) p.work.is (st.each a d known))

  fits_ports : FitsPorts s n a (k a + 0) (row.takes 0) (row.puts 0)
  fits_ports = plans_fit s n a (k a + 0) (row.takes 0) (row.puts 0) net.good known (row.plan 0)

  -- they can be done
  pub can_fire : FitsCycles (get_or works a d) (sum_by (λ c. get_or takes c 0) ins) (sum_by (λ c. get_or puts c 0) outs)
      times → FitsCycles (get_or works a d) (sum_by (λ c. get_or takes c 0) ins)
      (sum_by (λ c. get_or puts c 0) outs) 1 →
      firings < 2 ^ 63 → CanFireInParts s times firings ins outs takes puts (get_or works a d) qs
  can_fire fit one few = record {
    ins_are = record {
      known = λ q l. let at = net.wired.ins_are a q known l in omega (arith, at.0, st.channels);
      sized = p.takes_all ∙ sym st.channels;
      once = fits_ports.ins_are.once;
    };
    outs_are = record {
      known = λ q l. let at = net.wired.outs_are a q known l in omega (arith, at.0, st.channels);
      sized = p.puts_all ∙ sym st.channels;
      once = fits_ports.outs_are.once;
    };
    held = λ q l. let at = net.wired.ins_are a q known l in
        omega (arith, p.taken (get_or ins q 0) at.0 at.1, row.held (get_or ins q 0) at.0 at.1);
    room = λ q l.
        let c : ℕ = get_or outs q 0 in
        let is = net.wired.outs_are a q known l in
        let to : (wiring s n).rates.produced c (m ((wiring s n).rates.source c)) ≡
        (wiring s n).rates.produced c (k a + firings) =
        ap (λ b. (wiring s n).rates.produced c (m b)) is.1 ∙ ap ((wiring s n).rates.produced c) own in
        let from : (wiring s n).rates.produced c (k ((wiring s n).rates.source c)) ≡
        (wiring s n).rates.produced c (k a) = ap (λ b. (wiring s n).rates.produced c (k b)) is.1 in
        omega (arith, ahead.rooms c is.0, standing.standing g d c is.0, p.put c is.0 is.1);
    work = subst (λ w. CanWorkInParts s times firings w (sum_by (λ c. get_or takes c 0) ins)
        (sum_by (λ c. get_or puts c 0) outs)) (sym p.work.is) (
          omega (arith, inner.1, mod_below (length past) (s.cycle actor.now) inner.3.some),
          p.in_all,
          p.out_all,
          fits_all.0,
          fits_all.1,
          omega (arith, fits_one.0),
          omega (arith, fits_one.1),
          few,
        );
  }
    where
      fits_all : FitsCycles w0 (sum_by (λ c. get_or takes c 0) ins) (sum_by (λ c. get_or puts c 0) outs) times
      fits_all = subst (λ w. FitsCycles w (sum_by (λ c. get_or takes c 0) ins) (sum_by (λ c. get_or puts c 0) outs)
          times) p.work.is fit

      fits_one : FitsCycles w0 (sum_by (λ c. get_or takes c 0) ins) (sum_by (λ c. get_or puts c 0) outs) 1
      fits_one = subst (λ w. FitsCycles w (sum_by (λ c. get_or takes c 0) ins) (sum_by (λ c. get_or puts c 0) outs) 1)
          p.work.is one

  abbrev fired_all : Firings A S T
  fired_all = batch.firings row

  abbrev f : ℕ → List T
  f = batch.block fired_all

  abbrev whole : List T
  whole = joined (front_at takes ins qs) times

  turn : (i : ℕ) → phase s actor.now (j + i) ≡ phase s actor.now (length past + i)
  turn i = ap (λ v. phase s actor.now (v + i)) inner.1 ∙ mod-add-mod (length past) (s.cycle actor.now) i

  f_long : (i : ℕ) → i < firings → length (f i) ≡ total_in s actor.now (phase s actor.now (j + i))
  f_long i l = batch.block_long fired_all i l ∙ p.long i l

  all_cut : (c : ℕ) → c < length n.wires → at_ports ins (times * get_or takes c 0) c ≡
      at_ports ins (row.gone c firings) c
  all_cut c h = go (cases_eq ((wiring s n).rates.target c) a)
    where
      go : ((wiring s n).rates.target c ≡ a) ⊎ ((wiring s n).rates.target c ≡ a → ⊥) →
          at_ports ins (times * get_or takes c 0) c ≡ at_ports ins (row.gone c firings) c
      go (inl e) = ap (λ v. at_ports ins v c) (sym (p.taken c h e))
      go (inr ne) = batch.none_at fired_all c (times * get_or takes c 0) h ne
          ∙ sym (batch.none_at fired_all c (row.gone c firings) h ne)

  -- and what they leave stands at the counts after them
  pub stands_then : HistoryGrowsByFiring s → InputsReach n inputs many → (q : After g) →
      AreFiredInParts s times firings ins outs takes puts (get_or works a d) q.w qs q.qs →
      IsState s n inputs many m q.works q.qs outputs
  stands_then grows reach q all_fired =
      batch.stands_on row ahead grows reach q outputs
      (λ c h. fired.queues c (omega (arith, h, st.channels)) ∙
      (λ κ. drop (all_cut c h κ) (samples qs c) ++ dealt_is c κ))
      (worked_of s inputs outputs (many a) firings (nets.node n a) now actor j state taken' put' whole q.w
      fired.work its)
      (λ b e l ne. st.each b e l)
    where
      fired : AreFiredInParts s times firings ins outs takes puts w0 q.w qs q.qs
      fired = subst (λ w. AreFiredInParts s times firings ins outs takes puts w q.w qs q.qs) p.work.is all_fired

      now : List (List T)
      now = past ++ listed f firings

      -- what they put, firing by firing
      made : puts_to s actor.now j state whole firings ≡ joined (batch.answer fired_all) firings
      made =
          ap (λ v. puts_to s actor.now j v whole firings) inner.2 ∙
          (puts_joined s actor.now j past whole f turn firings p.whole f_long firings (omega arith) ∙
          ap (λ y. joined (λ e. nets.answer_of s inputs y (past ++ listed f e) (f e)) firings) (sym inner.0))

      dealt_is : (c : ℕ) → dealt puts outs (sum_by (λ c. get_or puts c 0) outs)
          (puts_to s actor.now j state whole firings) c times ≡ batch.more fired_all firings c
      dealt_is c = ap (λ b. dealt puts outs (sum_by (λ c. get_or puts c 0) outs) b c times) made ∙
          sym (p.deals (batch.answer fired_all) (batch.all_done row ahead grows reach firings (omega arith)).long c)

      its : IsWork s inputs outputs (many a) (nets.node n a) now (Inner actor ((j + firings) % s.cycle actor.now)
          (state_at s actor.now j state whole firings) taken' put')
      its = subst (λ y. IsWork s inputs outputs (many a) y now (Inner actor ((j + firings) % s.cycle actor.now)
          (state_at s actor.now j state whole firings) taken' put')) (sym inner.0) (
            refl,
            turn firings ∙ ap (phase s actor.now) (sym (batch.length_after past f firings)),
            ap (λ v. state_at s actor.now j v whole firings) inner.2
                ∙ states s actor.now j past whole f turn firings p.whole f_long firings (omega arith),
            inner.3,
          )
