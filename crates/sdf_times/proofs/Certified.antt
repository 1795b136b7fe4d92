-- A certificate for t/q leads to the period: its schedule is never before the self-timed one, and its chain never
-- after.
use Rattle.std.proofs.Common.{◌≡◌, ℕ, zero, suc, ◌+◌, ◌-◌, ◌*◌, ◌/◌, ◌%◌, ◌≤◌, ◌<◌, ◌⊎◌, length, inl, inr, sym, ap}
use Rattle.std.proofs.Common.{◌∙◌, arith, refl}
use Rattle.std.proofs.Math.Nat.{mul-le-mul_left}
use Rattle.std.proofs.lemmas.Nat.{div-add-mod', mod_below}
use Rattle.std.proofs.lemmas.Bool.{cases_lt}
use Rattle.sdf_graph.specs.Rates.{sum_to}
use Rattle.sdf_graph.proofs.Theorems.{sums_rise}
use Rattle.sdf_prec.specs.declared.firing.Firing.{Firing}
use Rattle.sdf_prec.specs.Tables.{firing, order, IsOfBlock}
use Rattle.sdf_times.specs.Times.{end_of}
use Rattle.sdf_times.specs.SelfTimed.{Plan, later, HoldsBack, AreSelfTimed, IsBlockEnd, IsIterationPeriod, IsPlan}
use Rattle.sdf_times.specs.SelfTimed.{IsPeriodic, Leads, here, on, Attains}
use Rattle.sdf_times.specs.Periods.{SelfTimedAreLeast, SelfTimedAreOne, PeriodsAreCertified}
use Rattle.sdf_times.proofs.Laters.{later_none, later_more, later_same, split, leads_later}
use Rattle.sdf_times.proofs.Ranks.{IsRank, cells, rank_of, earlier}

-- the firings that hold a firing back are of the graph
pub of_graph : (p : Plan) → IsPlan p → (g f : Firing) (w : ℕ) → f.actor < p.rates.actors → HoldsBack p g f w →
    g.actor < p.rates.actors
of_graph p ok g f w known (inl (_, inl (inl (same, _)))) = omega (arith, same)
of_graph p ok g f w known (inl (_, inl (inr (c, l, into, from, _)))) = omega (arith, ok.sound.source_in c l, from)
of_graph p ok g f w known (inl (_, inr (d, k, b, i, j, _, (h, at, is), _))) =
    omega (arith, (cells p ok).known k j h at, ap (λ (f : Firing). f.actor) is)
of_graph p ok g f w known (inr (_, (c, l, from, into, _, _))) = omega (arith, ok.sound.target_in c l, into)

module _ (p : Plan) (ok : IsPlan p) (start : Firing → ℕ) (run : AreSelfTimed p start) where
  -- where no firing is sooner than is allowed, q times a self-timed start is no later
  module _ (q : ℕ) (x : Firing → ℕ)
      (allowed : (g f : Firing) (w : ℕ) → g.actor < p.rates.actors → f.actor < p.rates.actors → HoldsBack p g f w →
      x g + q * w ≤ x f) where
    least_at : (f : Firing) (m : ℕ) → f.actor < p.rates.actors → IsRank p ok m f →
        ((k : ℕ) (g : Firing) → k < m → g.actor < p.rates.actors → IsRank p ok k g → q * start g ≤ x g) →
        q * start f ≤ x f
    least_at f m known rank before = go (run f known).reached
      where
        go : (start f ≡ 0) ⊎ ((g : Firing) × (w : ℕ) × HoldsBack p g f w × (start g + w ≡ start f)) →
            q * start f ≤ x f
        go (inl z) = let none : q * start f ≡ q * 0 = ap (λ s. q * s) z in omega (arith, none)
        go (inr (g, w, holds, is)) =
            let in_graph : g.actor < p.rates.actors = of_graph p ok g f w known holds in
            let low = earlier p ok g f w in_graph holds m rank in
            let its : q * (start g + w) ≡ q * start f = ap (λ s. q * s) is in
            omega (arith, its, before low.0 g low.2 in_graph low.1, allowed g f w in_graph known holds)

    least_to : (i m : ℕ) (f : Firing) → m < i → f.actor < p.rates.actors → IsRank p ok m f → q * start f ≤ x f
    least_to zero m f l known rank = absurd (omega arith)
    least_to (suc i) m f l known rank =
        least_at f m known rank (λ k g low in_graph its. least_to i k g (omega arith) in_graph its)

    pub least : (f : Firing) → f.actor < p.rates.actors → q * start f ≤ x f
    least f known = let r = rank_of p ok f known in least_to (suc r.0) r.0 f (omega arith) known r.1

  -- a firing to which another leads starts so much later
  pub start_leads : (g f : Firing) (v : ℕ) → Leads p g f v → start g + v ≤ start f
  start_leads g _ _ here = omega arith
  start_leads g _ _ (on f h v w l known into holds) =
      let ih = start_leads g f v l in
      let more = (run h into).above (start f + w) (f, w, holds, refl) in
      omega arith

  -- a firing starts no sooner than the same firing of an earlier block
  own_rises : (a k : ℕ) → a < p.rates.actors → (e : ℕ) →
      start (record { actor = a; number = k }) ≤ start (record { actor = a; number = e + k })
  own_rises a k known zero = let same : k ≡ 0 + k = omega arith in
      omega (arith, ap (λ k. start (record { actor = a; number = k })) same)
  own_rises a k known (suc e) =
      let ih = own_rises a k known e in
      let more = (run (record { actor = a; number = suc e + k }) known).above
      (start (record { actor = a; number = e + k }) + p.cost a)
      (record { actor = a; number = e + k }, p.cost a, inl (refl, inl (inl (refl, omega arith))), refl) in
      omega arith

  pub later_rises : (b : ℕ) (f : Firing) → f.actor < p.rates.actors → start f ≤ start (later p b f)
  later_rises b f known = own_rises f.actor f.number known (b * p.firings f.actor)

  -- a chain that leads to the same firing d blocks later, again and again
  pub rounds : (f : Firing) (d v : ℕ) → Leads p f (later p d f) v → (m : ℕ) →
      start f + m * v ≤ start (later p (m * d) f)
  rounds f d v l zero =
      let none : later p (zero * d) f ≡ f = later_same p (zero * d) 0 f (omega arith) ∙ later_none p f in
      omega (arith, ap start none)
  rounds f d v l (suc m) =
      let ih = rounds f d v l m in
      let more = start_leads (later p (m * d) f) (later p (m * d) (later p d f)) v
      (leads_later p ok (m * d) f (later p d f) v l) in
      let is : later p (m * d) (later p d f) ≡ later p (suc m * d) f =
      later_more p (m * d) d f ∙ later_same p (d + m * d) (suc m * d) f (omega arith) in
      omega (arith, ap start is)

pub self_timed_are_least : SelfTimedAreLeast
self_timed_are_least p start other ok run allowed f known =
    let low = least p ok start run 1 other
    (λ g f w in_graph known holds. omega (arith, allowed g f w in_graph known holds)) f known in
    omega arith

pub self_timed_are_one : SelfTimedAreOne
self_timed_are_one p start other ok run others f known =
    let low = self_timed_are_least p start other ok run
    (λ g f w in_graph known holds. (others f known).above (other g + w) (g, w, holds, refl)) f known in
    let high = self_timed_are_least p other start ok others
    (λ g f w in_graph known holds. (run f known).above (start g + w) (g, w, holds, refl)) f known in
    omega arith

-- some number is above all of a block's
pub block_bound : (p : Plan) → IsPlan p → (x : Firing → ℕ) →
    (bound : ℕ) × ((f : Firing) → IsOfBlock p.rates p.firings f → x f ≤ bound)
block_bound p ok x = (sum_to (λ m. x (firing (order p.rows) m)) (length (order p.rows)), λ f of. within f of)
  where
    within : (f : Firing) → IsOfBlock p.rates p.firings f →
        x f ≤ sum_to (λ m. x (firing (order p.rows) m)) (length (order p.rows))
    within f of =
        let s = ok.valid.all f of in
        let up = sums_rise (λ m. x (firing (order p.rows) m)) (suc s.0) (length (order p.rows)) (omega (arith, s.1)) in
        omega (arith, up, ap x s.2)

module _ (p : Plan) (ok : IsPlan p) (start : Firing → ℕ) (run : AreSelfTimed p start) (end : ℕ → ℕ)
    (ends : (b : ℕ) → IsBlockEnd p start b (end b)) (t q : ℕ) where
  module _ (x : Firing → ℕ) (periodic : IsPeriodic p t q x) where
    x_later : (b : ℕ) (f : Firing) → f.actor < p.rates.actors → x (later p b f) ≡ x f + b * t
    x_later zero f known = ap x (later_none p f) ∙ omega arith
    x_later (suc b) f known =
        let ih = x_later b f known in
        let next = periodic.again (later p b f) known in
        let is : later p 1 (later p b f) ≡ later p (suc b) f =
        later_more p 1 b f ∙ later_same p (b + 1) (suc b) f (omega arith) in
        omega (arith, ih, next, ap x is)

    end_late : (bound : ℕ) → ((f : Firing) → IsOfBlock p.rates p.firings f → x f + q * p.cost f.actor ≤ bound) →
        (b : ℕ) → q * end b ≤ t * b + bound
    end_late bound above b = go (ends b).reached
      where
        go : (end b ≡ 0) ⊎ ((f : Firing) × IsOfBlock p.rates p.firings f
            × (end_of p.cost start (later p b f) ≡ end b)) →
            q * end b ≤ t * b + bound
        go (inl z) = let none : q * end b ≡ q * 0 = ap (λ e. q * e) z in omega (arith, none)
        go (inr (f, of, is)) =
            let its : q * (start (later p b f) + p.cost f.actor) ≡ q * end b = ap (λ e. q * e) is in
            let low = least p ok start run q x periodic.allowed (later p b f) of.0 in
            omega (arith, its, low, x_later b f of.0, above f of)

  -- no block ends before a firing of it starts
  start_within : (b : ℕ) (f : Firing) → IsOfBlock p.rates p.firings f → start (later p b f) ≤ end b
  start_within b f of =
      let high = (ends b).above (end_of p.cost start (later p b f)) (f, of, refl) in
      omega arith

  end_soon : (chain : Attains p t q) (e : ℕ) (f : Firing) → IsOfBlock p.rates p.firings f → later p e f ≡ chain.firing →
      (b : ℕ) → t * b ≤ q * end b + t * (e + chain.blocks)
  end_soon chain e f of is b = go (cases_lt b e)
    where
      go : (b < e) ⊎ (e ≤ b) → t * b ≤ q * end b + t * (e + chain.blocks)
      go (inl low) = let up : t * b ≤ t * (e + chain.blocks) = mul-le-mul_left t (omega arith) in omega arith
      go (inr high) =
          let whole : (b - e) / chain.blocks * chain.blocks + (b - e) % chain.blocks ≡ b - e =
          div-add-mod' (b - e) chain.blocks in
          let less : (b - e) % chain.blocks < chain.blocks = mod_below (b - e) chain.blocks chain.some in
          let round : start chain.firing + (b - e) / chain.blocks * chain.time ≤
          start (later p ((b - e) / chain.blocks * chain.blocks) chain.firing) =
          rounds p ok start run chain.firing chain.blocks chain.time chain.leads ((b - e) / chain.blocks) in
          let on_to : start (later p ((b - e) / chain.blocks * chain.blocks) chain.firing) ≤
          start (later p ((b - e) % chain.blocks) (later p ((b - e) / chain.blocks * chain.blocks) chain.firing)) =
          later_rises p ok start run ((b - e) % chain.blocks)
          (later p ((b - e) / chain.blocks * chain.blocks) chain.firing) chain.known in
          let its : later p ((b - e) % chain.blocks) (later p ((b - e) / chain.blocks * chain.blocks) chain.firing) ≡
          later p b f =
          later_more p ((b - e) % chain.blocks) ((b - e) / chain.blocks * chain.blocks) chain.firing
          ∙ (later_same p ((b - e) / chain.blocks * chain.blocks + (b - e) % chain.blocks) (b - e) chain.firing whole
          ∙ (ap (later p (b - e)) (sym is) ∙ (later_more p (b - e) e f
          ∙ later_same p (e + (b - e)) b f (omega arith)))) in
          let last : start (later p b f) ≤ end b = start_within b f of in
          let up : (b - e) / chain.blocks * chain.time ≤ end b = omega (arith, round, on_to, ap start its, last) in
          let much : q * ((b - e) / chain.blocks * chain.time) ≤ q * end b = mul-le-mul_left q up in
          let turn : (b - e) / chain.blocks * (q * chain.time) ≡ (b - e) / chain.blocks * (t * chain.blocks) =
          ap (λ n. (b - e) / chain.blocks * n) chain.is in
          let parts : b ≤ e + ((b - e) / chain.blocks * chain.blocks + chain.blocks) = omega arith in
          let many : t * b ≤ t * (e + ((b - e) / chain.blocks * chain.blocks + chain.blocks)) =
          mul-le-mul_left t parts in
          at_last ((b - e) / chain.blocks) chain.blocks chain.time (end b) much turn many
        where
          at_last : (m d v z : ℕ) → q * (m * v) ≤ q * z → m * (q * v) ≡ m * (t * d) → t * b ≤ t * (e + (m * d + d)) →
              t * b ≤ q * z + t * (e + d)
          at_last m d v z much turn many = omega arith

  pub certified : 0 < q → (x : Firing → ℕ) → IsPeriodic p t q x → Attains p t q → IsIterationPeriod end t q
  certified some x periodic chain =
      let most = block_bound p ok (λ f. x f + q * p.cost f.actor) in
      let s = split p chain.firing chain.known (ok.fires chain.firing.actor chain.known) in
      record {
        some = some;
        bound = most.0 + t * (s.0 + chain.blocks);
        late = λ b. omega (arith, end_late x periodic most.0 most.1 b);
        soon = λ b. omega (arith, end_soon chain s.0 s.1 s.2 s.3 b);
      }

pub periods_are_certified : PeriodsAreCertified
periods_are_certified p end t q x ok ends some periodic chain =
    certified p ok ends.start ends.run end ends.ends t q some x periodic chain
