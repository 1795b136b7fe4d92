-- What a runner holds, before a batch of firings of a node and after it.
use Rattle.std.proofs.Common.{◌≡◌, ℕ, zero, suc, ◌+◌, ◌-◌, ◌*◌, ◌≤◌, ◌<◌, List, [], ◌∷◌, ◌++◌, length, get_or, take}
use Rattle.std.proofs.Common.{Bool, true, false, drop, cond, eqb, refl, sym, ap, ◌∙◌, subst, arith}
use Rattle.std.specs.List.{between, flat_map, sum_by}
use Rattle.std.proofs.lemmas.List.{append-nil, take_all}
use Rattle.std.proofs.lemmas.List.Edits.{between_none}
use Rattle.std.proofs.Math.Nat.{mul-le-mul_left, mod-add-mod, zero-mul, suc-mul}
use Rattle.std.proofs.lemmas.List.FromFn.{length-map-range_with_len}
use Rattle.std.proofs.lemmas.List.Sums.{sum_by-cons}
use Rattle.std.specs.declared.vec.Vec.{Vec}
use Rattle.sdf_actor.specs.declared.node.Node.{Node}
use Rattle.sdf_actor.specs.declared.node.Node.TheVariants as node
use Rattle.sdf_actor.specs.Steps.{phase, total_in, state_at, state_after}
use Rattle.sdf_actor.specs.Histories.{taken_before, spread}
use Rattle.sdf_actor.specs.Nets as nets
use Rattle.sdf_actor.specs.Nets.{wiring, to_port, from_port, inputs_of, outputs_of, cycle_of, InputsReach}
use Rattle.sdf_actor.specs.Nets.{answer_of}
use Rattle.sdf_actor.specs.Laws.{HistoryGrowsByFiring}
use Rattle.sdf_one.specs.declared.work.Work.{Work}
use Rattle.sdf_queues.specs.QueueValue.{QueueValue}
use Rattle.sdf_queues.specs.Blocks.{samples, room, at_ports, ArePorts}
use Rattle.sdf_node.specs.Many.{joined, listed}
use Rattle.sdf_queues.specs.Moves.{FitsPorts}
use Rattle.sdf_queues.specs.Sizes.{IsPlan, at_phase, in_all, out_all}
use Rattle.sdf_queues.specs.Lists.{list}
use Rattle.sdf_one.specs.Firings.{phase_at}
use Rattle.sdf_one.specs.AtOnce.{CanBatch, fronts, CanFireBatch, AreFired}
use Rattle.sdf_queues.specs.Periods.{AreApart}
use Rattle.sdf_queues.proofs.Theorems.{blocks_are_counted, plans_fit}
use Rattle.sdf_one.specs.Runs.{IsWork, IsState}
use Rattle.sdf_one.proofs.AtOnceWorks as work
use Rattle.sdf_one.proofs.AtOnceWorks.{all_answers}
use Rattle.sdf_one.proofs.Known.{ins_all}
use Rattle.sdf_one.proofs.Holding.{Holding, Ahead, After}
use Rattle.sdf_one.proofs.Batch as batch
use Rattle.sdf_one.proofs.Batch.{Firings, InARow, states, puts_joined}
use Rattle.sdf_one.proofs.Joined.{joined_none, length_joined}
use Rattle.sdf_one.proofs.Turns.{consecutive, joined_same}
use Rattle.sdf_one.proofs.Parts as parts
use Rattle.sdf_one.proofs.Parts.{one_of}
use Rattle.sdf_one.proofs.Standing as standing
use Rattle.sdf_one.proofs.Steady as steady
use Rattle.sdf_one.proofs.Works.{none_added, work_other}

-- the blocks of firings from one port, joined
fronts_joined : {T : Type 0} (times : ℕ) (takes ds : List ℕ) (qs : List (QueueValue T)) → length ds ≤ 1 →
    fronts times takes ds qs ≡
    joined (λ i. flat_map (λ c. take (get_or takes c 0) (drop (i * get_or takes c 0) (samples qs c))) ds) times
fronts_joined times takes [] qs few = sym (joined_none (λ i. []) times (λ i l. refl))
fronts_joined times takes (c ∷ []) qs few =
    let size : ℕ = get_or takes c 0 in
    append-nil (take (times * size) (samples qs c)) ∙
    (sym ((consecutive (samples qs c) (λ i. i * size) (λ i. size) times (λ i l. sym (suc-mul i size))).1
    ∙ ((λ κ. between (zero-mul size κ) (times * size) (samples qs c))
    ∙ ap (λ v. take v (samples qs c)) (let e : times * size - 0 ≡ times * size = omega arith in e))) ∙
    joined_same (λ i. take size (drop (i * size) (samples qs c)))
    (λ i. take size (drop (i * size) (samples qs c)) ++ []) times
    (λ i l. sym (append-nil (take size (drop (i * size) (samples qs c))))))
fronts_joined times takes (c ∷ d ∷ ds) qs few = absurd (omega arith)

-- what firings put at one port, dealt out
dealt_joined : {T : Type 0} (times : ℕ) (puts ds : List ℕ) (b : ℕ → List T) (c : ℕ) → length ds ≤ 1 →
    ((i : ℕ) → i < times → length (b i) ≡ sum_by (λ d. get_or puts d 0) ds) →
    spread (λ d. times * get_or puts d 0) ds (joined b times) c ≡
    joined (λ i. spread (λ d. get_or puts d 0) ds (b i) c) times
dealt_joined times puts [] b c few long = sym (joined_none (λ i. []) times (λ i l. refl))
dealt_joined {T} times puts (d ∷ []) b c few long = go (eqb d c)
  where
    size : ℕ
    size = get_or puts d 0

    one : (i : ℕ) → i < times → length (b i) ≡ size
    one i l = omega (arith, long i l, sum_by-cons (λ d. get_or puts d 0) d [])

    go : (t : Bool) → cond t (take (times * size) (joined b times)) [] ≡ joined (λ i. cond t (take size (b i)) []) times
    go true = take_all (times * size) (joined b times) (omega (arith, length_joined b size times one)) ∙
        joined_same b (λ i. take size (b i)) times (λ i l. sym (take_all size (b i) (omega (arith, one i l))))
    go false = sym (joined_none (λ i. []) times (λ i l. refl))
dealt_joined times puts (d ∷ e ∷ ds) b c few long = absurd (omega arith)

-- what a source puts, firing by firing
source_joined : {T : Type 0} (xs : List T) (block : ℕ) (past : List (List T)) (b : ℕ → List T) (times : ℕ) →
    between (block * length past) (block * (length past + times)) xs ≡
    joined (λ i. between (block * length (past ++ listed b i)) (block * (length (past ++ listed b i) + 1)) xs) times
source_joined xs block past b zero =
    ap (λ v. between (block * length past) (block * v) xs) (let e : length past + 0 ≡ length past = omega arith in e)
    ∙ between_none xs (block * length past)
source_joined xs block past b (suc i) =
    let at : length past + i ≡ length (past ++ listed b i) = sym (batch.length_after past b i) in
    let next : length past + suc i ≡ length (past ++ listed b i) + 1 = omega (arith, at) in
    let up : block * length past ≤ block * (length past + i) = mul-le-mul_left block (omega arith) in
    let on : block * (length past + i) ≤ block * (length past + suc i) = mul-le-mul_left block (omega arith) in
    parts.joined xs (block * length past) (block * (length past + i)) (block * (length past + suc i)) up on ∙
    (λ κ. source_joined xs block past b i κ ++ between (block * at κ) (block * next κ) xs)

module _ {A S T Z : Type 0} (g : Holding A S T Z) (d : Work A T S)
    (goes : CanBatch g.s (get_or g.works g.a d) ((wiring g.s g.n).ins g.a) ((wiring g.s g.n).outs g.a)) where
  open g use {s, n, net, inputs, many, k, a, known, works, qs, outputs, st, z}

  abbrev ins : List ℕ
  ins = (wiring s n).ins a

  abbrev outs : List ℕ
  outs = (wiring s n).outs a

  abbrev w : Work A T S
  w = get_or works a d

  abbrev takes : List ℕ
  takes = at_phase z.takes (phase_at w)

  abbrev puts : List ℕ
  puts = at_phase z.puts (phase_at w)

  abbrev past : List (List T)
  past = taken_before (wiring s n) st.history a (k a)

  does : IsWork s inputs outputs (many a) (nets.node n a) past w
  does = st.each a d known

  count : length past ≡ k a
  count = blocks_are_counted s n st.history a (k a)

  one_phase : cycle_of s (nets.node n a) ≡ 1
  one_phase = work.one_phase s inputs (many a) 0 (nets.node n a) past w outputs ins outs does goes

  ins_long : length ins ≡ inputs_of s (nets.node n a)
  ins_long = length-map-range_with_len (to_port n a) 0 (inputs_of s (nets.node n a))

  outs_long : length outs ≡ outputs_of s (nets.node n a)
  outs_long = length-map-range_with_len (from_port n a) 0 (outputs_of s (nets.node n a))

  few : (length ins ≤ 1) × (length outs ≤ 1)
      × (0 < length ins → 0 < length outs → get_or ins 0 0 ≡ get_or outs 0 0 → ⊥)
  few = work.few_channels s inputs (many a) 0 (nets.node n a) past w outputs ins outs does goes ins_long outs_long

  -- each firing moves the same
  plan : (i : ℕ) → IsPlan s n a i takes puts
  plan = steady.plan g d one_phase

  fits_ports : (i : ℕ) → FitsPorts s n a i takes puts
  fits_ports i = plans_fit s n a i takes puts net.good known (plan i)

  all_taken : (c : ℕ) → c < length n.wires → (wiring s n).rates.target c ≡ a → (t : ℕ) →
      (wiring s n).rates.consumed c (k a + t) ≡ (wiring s n).rates.consumed c (k a) + t * get_or takes c 0
  all_taken = steady.all_taken g d one_phase

  all_put : (c : ℕ) → c < length n.wires → (wiring s n).rates.source c ≡ a → (t : ℕ) →
      (wiring s n).rates.produced c (k a + t) ≡ (wiring s n).rates.produced c (k a) + t * get_or puts c 0
  all_put = steady.all_put g d one_phase

  module _ {times : ℕ} (ahead : Ahead g times) (held : 0 < length ins → times * get_or takes (get_or ins 0 0) 0 ≤
      length (samples qs (get_or ins 0 0))) where
    open ahead use {m, own, others, below}

    all_held : (i : ℕ) → i < length ins →
        times * get_or takes (get_or ins i 0) 0 ≤ length (samples qs (get_or ins i 0))
    all_held zero h = held h
    all_held (suc i) h = absurd (omega (arith, few.0))

    stood : (c : ℕ) → c < length n.wires → length (samples qs c)
        + (wiring s n).rates.consumed c (k ((wiring s n).rates.target c)) ≡
        (wiring s n).rates.initial c + (wiring s n).rates.produced c (k ((wiring s n).rates.source c))
    stood c l = standing.standing g d c l

    -- they can be done
    pub can_fire : CanFireBatch s inputs times ins outs takes puts w qs outputs
    can_fire = record {
      ins_are = standing.ports_in g d;
      outs_are = subst (ArePorts outs puts) (sym st.channels) (fits_ports (k a)).outs_are;
      held = all_held;
      room = rooms;
      work = work.can_work s inputs (many a) times (nets.node n a) past w outputs ins outs
          (times * get_or takes (get_or ins 0 0) 0) (times * get_or puts (get_or outs 0 0) 0)
          does goes (omega (arith, count, own, below a known)) ins_long outs_long
          (λ one. ap (λ v. times * v) (sum_one takes ins one
          ∙ ((fits_ports (k a)).taken ∙ ap (in_all s (nets.node n a)) (sym count))))
          (λ one. ap (λ v. times * v) (sum_one puts outs one
          ∙ ((fits_ports (k a)).put ∙ ap (out_all s (nets.node n a)) (sym count))))
          (λ ext block is. standing.sink_took g d ext block is ∙ ap (λ i. block * i) (sym count));
    }
      where
        sum_one : (f xs : List ℕ) → length xs ≡ 1 → get_or f (get_or xs 0 0) 0 ≡ sum_by (λ c. get_or f c 0) xs
        sum_one f xs one =
            let e : sum_by (λ c. get_or f c 0) xs ≡ sum_by (λ c. get_or f c 0) (get_or xs 0 0 ∷ []) =
            ap (sum_by (λ c. get_or f c 0)) (one_of xs one) in
            omega (arith, e, sum_by-cons (λ c. get_or f c 0) (get_or xs 0 0) [])

        rooms : (i : ℕ) → i < length outs →
            length (samples qs (get_or outs i 0)) + times * get_or puts (get_or outs i 0) 0 ≤ room qs (get_or outs i 0)
        rooms i h =
            let c : ℕ = get_or outs i 0 in
            let is = net.wired.outs_are a i known h in
            let from : (wiring s n).rates.produced c (m ((wiring s n).rates.source c)) ≡
            (wiring s n).rates.produced c (k a + times) =
            ap (λ b. (wiring s n).rates.produced c (m b)) is.1 ∙ ap ((wiring s n).rates.produced c) own in
            let was : (wiring s n).rates.produced c (k ((wiring s n).rates.source c)) ≡
            (wiring s n).rates.produced c (k a) = ap (λ b. (wiring s n).rates.produced c (k b)) is.1 in
            omega (arith, ahead.rooms c is.0, stood c is.0, all_put c is.0 is.1 times)

    -- one after another
    abbrev in_a_row : InARow g times
    in_a_row = record {
      takes = λ i. takes;
      puts = λ i. puts;
      plan = λ i. plan (k a + i);
      gone = λ c i. i * get_or takes c 0;
      gone_is = λ c i l e. all_taken c l e i;
      held = λ c l e. let at = ins_all s n net a known c l e in
          subst (λ b. times * get_or takes b 0 ≤ length (samples qs b)) at.2 (all_held at.0 at.1);
    }

    abbrev each_fired : Firings A S T
    each_fired = batch.firings in_a_row

    abbrev blocks : ℕ → List T
    blocks = batch.block each_fired

    -- what they take in all
    abbrev block : List T
    block = fronts times takes ins qs

    whole : block ≡ joined blocks times
    whole = fronts_joined times takes ins qs few.0

    module _ (y : A) (y_is : nets.node n a ≡ node.Inner y) where
      turn : (i : ℕ) → phase s y (phase s y (length past) + i) ≡ phase s y (length past + i)
      turn i = mod-add-mod (length past) (s.cycle y) i

      block_long : (i : ℕ) → i < times → length (blocks i) ≡ total_in s y (phase s y (phase s y (length past) + i))
      block_long i l = batch.block_long each_fired i l ∙ ((fits_ports (length past + i)).taken
          ∙ (ap (λ x. in_all s x (length past + i)) y_is ∙ ap (total_in s y) (sym (turn i))))

      states_on : state_after s y (past ++ listed blocks times) ≡
          state_at s y (phase s y (length past)) (state_after s y past) block times
      states_on = sym (states s y (phase s y (length past)) past block blocks turn times whole block_long times
          (omega arith))

    -- and put
    made_is : all_answers s inputs times (nets.node n a) past block ≡ joined (batch.answer each_fired) times
    made_is = go (nets.node n a) refl
      where
        go : (x : Node A) → nets.node n a ≡ x → all_answers s inputs times x past block ≡
            joined (λ i. answer_of s inputs (nets.node n a) (past ++ listed blocks i) (blocks i)) times
        go x is = subst (λ z. all_answers s inputs times x past block ≡
            joined (λ i. answer_of s inputs z (past ++ listed blocks i) (blocks i)) times) (sym is) (by x is)
          where
            by : (x : Node A) → nets.node n a ≡ x → all_answers s inputs times x past block ≡
                joined (λ i. answer_of s inputs x (past ++ listed blocks i) (blocks i)) times
            by (node.Source ext size) is = source_joined (get_or inputs ext []) size past blocks times
            by (node.Sink ext size) is = sym (joined_none (λ i. []) times (λ i l. refl))
            by (node.Inner y) is = puts_joined s y (phase s y (length past)) past block blocks (turn y is) times whole
                (block_long y is) times (omega arith)

    -- and what they leave stands at the counts after them
    pub fired_stands : HistoryGrowsByFiring s → InputsReach n inputs many → AreApart n → (p : After g)
        (outputs' : List (Vec T Z)) → AreFired s inputs times ins outs takes puts w p.w qs p.qs outputs outputs' →
        length outputs' ≡ length outputs → IsState s n inputs many m p.works p.qs outputs'
    fired_stands grows reach apart p outputs' fired same_outputs =
        batch.stands_on in_a_row ahead grows reach p outputs' (λ c l. fired.queues c (omega (arith, l, st.channels)) ∙
        ap (λ ys. drop (at_ports ins (times * get_or takes c 0) c) (samples qs c) ++ ys)
        (ap (λ b. spread (λ d. times * get_or puts d 0) outs b c)
        (work.made_is s inputs (many a) times (nets.node n a) past w outputs block does ∙ made_is) ∙
        dealt_joined times puts outs (batch.answer each_fired) c few.1
        (batch.all_done in_a_row ahead grows reach times (omega arith)).long))
        (work.work_next s inputs (many a) times (nets.node n a) past (past ++ listed blocks times) w p.w outputs
        outputs' block does one_phase fired.work (batch.length_after past blocks times) states_on
        (λ ext size is. batch.flat_listed past blocks times
        ∙ ap (λ b. flat_map (λ (b : List T). b) past ++ b) (sym whole))
        same_outputs fired.lists fired.capacities)
        (λ b e l ne. work_other s inputs (many b) (nets.node n b)
        (taken_before (wiring s n) st.history b (k b)) (get_or works b e) outputs outputs' (st.each b e l) same_outputs
        (λ f size is h. fired.lists f h ∙ (ap (λ ys. list outputs f ++ ys)
        (none_added s inputs (many a) (nets.node n a) past w outputs block f does
        (λ size' is'. ne (apart a b f size' size known l is' is))) ∙ append-nil (list outputs f)))
        fired.capacities)
