-- Blocks of a table, one after the other.
use Rattle.std.proofs.Common.{◌≡◌, ℕ, zero, suc, ◌+◌, ◌*◌, ◌≤◌, ◌<◌, List, [], ◌∷◌, length, get_or, refl, sym, ap, ◌∙◌}
use Rattle.std.proofs.Common.{subst, arith}
use Rattle.std.proofs.Math.Nat.{mul-le-mul_left}
use Rattle.sdf_graph.specs.Rates.{Rates, IsSound, IsAlike}
use Rattle.sdf_graph.specs.Sequences.{IsPeriod}
use Rattle.sdf_actor.specs.Steps.{Steps}
use Rattle.sdf_actor.specs.Nets.{Netlist, wiring}
use Rattle.sdf_node.specs.declared.node.NodeState.{NodeState}
use Rattle.sdf_prec.specs.Blocks.{block}
use Rattle.sdf_queues.specs.QueueValue.{QueueValue}
use Rattle.sdf_rows.specs.RowStates.{IsBetween}
use Rattle.sdf_rows.specs.Blocks.{IsRound, IsResting, block_after}

-- what begins anew after each period goes on as it began after several
linear_on : (f : ℕ → ℕ) (q : ℕ) → ((i : ℕ) → f (i + q) ≡ f i + f q) → (b i : ℕ) → f (b * q + i) ≡ b * f q + f i
linear_on f q anew zero i = ap f (let e : 0 * q + i ≡ i = omega arith in e) ∙
    (let e : f i ≡ 0 * f q + f i = omega arith in e)
linear_on f q anew (suc b) i =
    let ih : f (b * q + i) ≡ b * f q + f i = linear_on f q anew b i in
    let last : f (suc b * q + i) ≡ f (b * q + i) + f q =
    ap f (let e : suc b * q + i ≡ b * q + i + q = omega arith in e) ∙ anew (b * q + i) in
    let split : suc b * f q ≡ b * f q + f q = omega arith in
    omega arith

linear_at : (f : ℕ → ℕ) (q : ℕ) → f 0 ≡ 0 → ((i : ℕ) → f (i + q) ≡ f i + f q) → (b : ℕ) → f (b * q) ≡ b * f q
linear_at f q none anew b =
    let all : f (b * q + 0) ≡ b * f q + f 0 = linear_on f q anew b 0 in
    let same : f (b * q + 0) ≡ f (b * q) = ap f (let e : b * q + 0 ≡ b * q = omega arith in e) in
    omega (arith, all, same, none)

linear_from : (f : ℕ → ℕ) (q : ℕ) → f 0 ≡ 0 → ((i : ℕ) → f (i + q) ≡ f i + f q) → (b m i : ℕ) → m ≡ b * q →
    f (m + i) ≡ f m + f i
linear_from f q none anew b m i is =
    omega (arith, linear_on f q anew b i, linear_at f q none anew b, ap (λ k. f (k + i)) is, ap f is)

-- and so does what is the same number by number
same_anew : (f g : ℕ → ℕ) → ((i : ℕ) → f i ≡ g i) → (i q : ℕ) → f (i + q) ≡ f i + f q → g (i + q) ≡ g i + g q
same_anew f g same i q anew = omega (arith, anew, same (i + q), same i, same q)

block_at : (j : ℕ) (q : List ℕ) (a : ℕ) → get_or (block j q) a 0 ≡ j * get_or q a 0
block_at j [] a = omega arith
block_at j (x ∷ xs) zero = refl
block_at j (x ∷ xs) (suc a) = block_at j xs a

module _ {A S T : Type 0} (s : Steps A S T) (n : Netlist A T) {r : Rates} (alike : IsAlike r (wiring s n).rates)
    (sound : IsSound r) (q : List ℕ) (period : IsPeriod r (λ a. get_or q a 0)) where
  module _ (c : ℕ) (h : c < length n.wires) where
    known : c < r.channels
    known = omega (arith, alike.channels, h)

    pub src_known : (wiring s n).rates.source c < length n.nodes
    src_known = omega (arith, sound.source_in c known, alike.source c known, alike.actors)

    pub tgt_known : (wiring s n).rates.target c < length n.nodes
    tgt_known = omega (arith, sound.target_in c known, alike.target c known, alike.actors)

    put_anew : (i : ℕ) → (wiring s n).rates.produced c (i + get_or q ((wiring s n).rates.source c) 0) ≡
        (wiring s n).rates.produced c i + (wiring s n).rates.produced c (get_or q ((wiring s n).rates.source c) 0)
    put_anew i = same_anew (r.produced c) ((wiring s n).rates.produced c) (λ j. alike.produced c j known) i
        (get_or q ((wiring s n).rates.source c) 0)
        (subst (λ b. r.produced c (i + get_or q b 0) ≡ r.produced c i + r.produced c (get_or q b 0))
        (alike.source c known) (period.produced_anew c i known))

    taken_anew : (i : ℕ) → (wiring s n).rates.consumed c (i + get_or q ((wiring s n).rates.target c) 0) ≡
        (wiring s n).rates.consumed c i + (wiring s n).rates.consumed c (get_or q ((wiring s n).rates.target c) 0)
    taken_anew i = same_anew (r.consumed c) ((wiring s n).rates.consumed c) (λ j. alike.consumed c j known) i
        (get_or q ((wiring s n).rates.target c) 0)
        (subst (λ b. r.consumed c (i + get_or q b 0) ≡ r.consumed c i + r.consumed c (get_or q b 0))
        (alike.target c known) (period.consumed_anew c i known))

    put_none : (wiring s n).rates.produced c 0 ≡ 0
    put_none = omega (arith, sound.produced_none c, alike.produced c 0 known)

    taken_none : (wiring s n).rates.consumed c 0 ≡ 0
    taken_none = omega (arith, sound.consumed_none c, alike.consumed c 0 known)

    even : (wiring s n).rates.produced c (get_or q ((wiring s n).rates.source c) 0) ≡
        (wiring s n).rates.consumed c (get_or q ((wiring s n).rates.target c) 0)
    even =
        let put = subst (λ b. r.produced c (get_or q b 0) ≡ r.consumed c (get_or q (r.target c) 0))
        (alike.source c known) (period.balanced c known) in
        let both = subst (λ b. r.produced c (get_or q ((wiring s n).rates.source c) 0) ≡ r.consumed c (get_or q b 0))
        (alike.target c known) put in
        omega (
          arith,
          both,
          alike.produced c (get_or q ((wiring s n).rates.source c) 0) known,
          alike.consumed c (get_or q ((wiring s n).rates.target c) 0) known,
        )

  -- counts of whole periods
  pub round_of : (k : ℕ → ℕ) (p : ℕ) → ((a : ℕ) → a < length n.nodes → k a ≡ p * get_or q a 0) → IsRound s n k
  round_of k p k_is = record {
    produced = λ c i h. linear_from ((wiring s n).rates.produced c) (get_or q ((wiring s n).rates.source c) 0)
        (put_none c h) (put_anew c h) p (k ((wiring s n).rates.source c)) i
        (k_is ((wiring s n).rates.source c) (src_known c h));
    consumed = λ c i h. linear_from ((wiring s n).rates.consumed c) (get_or q ((wiring s n).rates.target c) 0)
        (taken_none c h) (taken_anew c h) p (k ((wiring s n).rates.target c)) i
        (k_is ((wiring s n).rates.target c) (tgt_known c h));
    balanced = λ c h.
        let put = linear_at ((wiring s n).rates.produced c) (get_or q ((wiring s n).rates.source c) 0) (put_none c h)
        (put_anew c h) p in
        let taken = linear_at ((wiring s n).rates.consumed c) (get_or q ((wiring s n).rates.target c) 0)
        (taken_none c h) (taken_anew c h) p in
        ap ((wiring s n).rates.produced c) (k_is ((wiring s n).rates.source c) (src_known c h))
        ∙ (put ∙ (ap (λ m. p * m) (even c h) ∙
        (sym taken ∙ ap ((wiring s n).rates.consumed c) (sym (k_is ((wiring s n).rates.target c) (tgt_known c h))))));
  }

  module _ {inputs : List (List T)} {j blocks b : ℕ} {k : ℕ → ℕ} {states : List (NodeState T S)}
      {ls : List (QueueValue T)}
      (rest : IsResting s n inputs q j blocks b k states ls) where
    pub round_here : IsRound s n k
    round_here = round_of k (b * j) (λ a l. rest.counts a l ∙
        (let e : b * (j * get_or q a 0) ≡ b * j * get_or q a 0 = omega arith in e))

    -- the next block may begin
    pub block_begins : b < blocks → IsBetween s n inputs (λ a. blocks * (j * get_or q a 0)) k
        (block_after q j k) k states ls
    block_begins more = record {
      small = rest.between.small;
      reach = rest.between.reach;
      top = λ a l.
          let m : ℕ = j * get_or q a 0 in
          let within : m * (b + 1) ≤ m * blocks = mul-le-mul_left m (omega arith) in
          let split : m * (b + 1) ≡ b * m + m = omega arith in
          let turn : m * blocks ≡ blocks * m = omega arith in
          omega (arith, rest.counts a l, block_at j q a, within, split, turn);
      history = rest.between.history;
      is = rest.between.is;
      channels = rest.between.channels;
      left = rest.between.left;
      above = rest.between.above;
      below = λ a l. omega arith;
      fits = λ c l.
          let more = round_here.produced c (get_or (block j q) ((wiring s n).rates.source c) 0) l in
          omega (
            arith,
            more,
            ap ((wiring s n).rates.produced c) (block_at j q ((wiring s n).rates.source c)),
            round_here.balanced c l,
            rest.rooms c l,
          );
      nodes = rest.between.nodes;
      known = rest.between.known;
      apart = rest.between.apart;
      idle = rest.between.idle;
      jobs_are = rest.between.jobs_are;
      able = rest.between.able;
      within = λ i f h. absurd (omega arith);
    }

    -- and when it is over, so it stands again
    pub block_ends : {k' : ℕ → ℕ} {states' : List (NodeState T S)} {ls' : List (QueueValue T)} →
        ((a : ℕ) → a < length n.nodes → k' a ≡ block_after q j k a) →
        IsBetween s n inputs (λ a. blocks * (j * get_or q a 0)) k (block_after q j k) k' states' ls' →
        IsResting s n inputs q j blocks (b + 1) k' states' ls'
    block_ends {k' = k'} k_is st = record {
      counts = λ a l.
          let m : ℕ = j * get_or q a 0 in
          let split : (b + 1) * m ≡ b * m + m = omega arith in
          omega (arith, k_is a l, rest.counts a l, block_at j q a, split);
      rooms = λ c l.
          let more = round_here.produced c (get_or (block j q) ((wiring s n).rates.source c) 0) l in
          omega (
            arith,
            more,
            ap ((wiring s n).rates.produced c) (block_at j q ((wiring s n).rates.source c)),
            round_here.balanced c l,
            st.fits c l,
          );
      between = record {
        small = st.small;
        reach = st.reach;
        top = λ a l. omega (arith, st.below a l, st.top a l);
        history = st.history;
        is = st.is;
        channels = st.channels;
        left = st.left;
        above = λ a l. omega arith;
        below = λ a l. omega arith;
        fits = λ c l.
            let drawn : (wiring s n).rates.consumed c (k ((wiring s n).rates.target c)) ≤
            (wiring s n).rates.consumed c (k' ((wiring s n).rates.target c)) =
            rises c l (k ((wiring s n).rates.target c)) (k' ((wiring s n).rates.target c))
            (st.above ((wiring s n).rates.target c) (tgt_known c l)) in
            omega (
              arith,
              st.fits c l,
              drawn,
              ap ((wiring s n).rates.produced c)
                  (k_is ((wiring s n).rates.source c) (src_known c l)),
            );
        nodes = st.nodes;
        known = st.known;
        apart = st.apart;
        idle = st.idle;
        jobs_are = st.jobs_are;
        able = st.able;
        within = λ i f h. absurd (omega arith);
      };
    }
      where
        rises : (c : ℕ) → c < length n.wires → (x y : ℕ) → x ≤ y →
            (wiring s n).rates.consumed c x ≤ (wiring s n).rates.consumed c y
        rises c l x y h =
            let inside : c < r.channels = omega (arith, alike.channels, l) in
            omega (arith, sound.consumed_rises c x y h, alike.consumed c x inside, alike.consumed c y inside)
