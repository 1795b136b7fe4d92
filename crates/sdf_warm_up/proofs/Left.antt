-- What a history leaves after whole periods is left by a run that read all of its input.
use Rattle.std.proofs.Common.{◌≡◌, inl, inr, ◌⊎◌, ℕ, zero, suc, ◌+◌, ◌-◌, ◌*◌, ◌≤◌, ◌<◌, List, [], ◌∷◌, ◌++◌, length}
use Rattle.std.proofs.Common.{map}
use Rattle.std.proofs.Common.{get_or, take, drop, Some, refl, sym, ap, ◌∙◌, subst, arith, append-nil}
use Rattle.std.proofs.Common.{mul-le-mul_right, zero-mul}
use Rattle.std.specs.Prelude.{Bool, IsTrue, cond, is_some, not, true, false}
use Rattle.std.specs.List.{between, flat_map, position_or_len, range_with_len}
use Rattle.std.proofs.lemmas.Bool.{cases_lt}
use Rattle.std.proofs.lemmas.List.{get_or_append_left, get_or-append-add, length-append, length-drop, length-take}
use Rattle.std.proofs.lemmas.List.{get_or_past, length-take-le, take-take}
use Rattle.std.proofs.lemmas.List.Edits.{length-between}
use Rattle.std.proofs.lemmas.List.FromFn.{get_or-map-range_with_len, length-map-range_with_len}
use Rattle.sdf_graph.specs.Rates.{rates}
use Rattle.sdf_graph.proofs.Theorems.{one_least_period}
use Rattle.sdf_sched.specs.Period.{Schedule}
use Rattle.sdf_actor.specs.declared.node.Node.{Node}
use Rattle.sdf_actor.specs.declared.node.Node.TheVariants.{Source, Sink, Inner}
use Rattle.sdf_actor.specs.declared.net_state.NetState.{NetState}
use Rattle.sdf_actor.specs.declared.sides.Lists.TheVariants.{Inputs, Outputs}
use Rattle.sdf_actor.specs.Graphs.{graph_of}
use Rattle.sdf_actor.specs.Histories.{put, taken, taken_before}
use Rattle.sdf_actor.specs.NetFaults.{IsAccepted, HasList}
use Rattle.sdf_actor.specs.Nets.{Netlist, node, wire, wiring, answer_of, arrived, from_port, outputs_of, produced_at}
use Rattle.sdf_actor.specs.Nets.{IsHistoryOf}
use Rattle.sdf_actor.specs.NetStates.{IsNetState}
use Rattle.sdf_actor.specs.Sides.{block_of, first_with, list_count, list_of, period_samples}
use Rattle.sdf_actor.specs.Steps.{Steps}
use Rattle.sdf_actor.proofs.Theorems.{between_agree, list_below, ports_have_channels}
use Rattle.sdf_queues.specs.RunResults.{HasInputs, periods_of}
use Rattle.sdf_queues.specs.Feeds.{AreFull}
use Rattle.sdf_queues.specs.Periods.{HasPeriod}
use Rattle.sdf_queues.proofs.Theorems.{blocks_are_counted}
use Rattle.sdf_warm_up.specs.Laws.{WasLeft, StatesWereLeft}

-- the first place that passes a test
passes : {X : Type 0} (p : X → Bool) (xs : List X) (d : X) → position_or_len p xs < length xs →
    p (get_or xs (position_or_len p xs) d) ≡ true
passes p [] d l = absurd (omega arith)
passes {X} p (x ∷ xs) d l = go (passes p xs d) (p x) refl
  where
    go : (position_or_len p xs < length xs → p (get_or xs (position_or_len p xs) d) ≡ true) → (b : Bool) → p x ≡ b →
        p (get_or (x ∷ xs) (position_or_len p (x ∷ xs)) d) ≡ true
    go later true is = ap (λ i. p (get_or (x ∷ xs) (cond (not i) (1 + position_or_len p xs) 0) d)) is ∙ is
    go later false is =
        let next : position_or_len p (x ∷ xs) ≡ suc (position_or_len p xs) =
        ap (λ i. cond (not i) (1 + position_or_len p xs) 0) is
        ∙ (let e : 1 + position_or_len p xs ≡ suc (position_or_len p xs) = omega arith in e) in
        ap (λ i. p (get_or (x ∷ xs) i d)) next ∙ later (omega (arith, next, l))

module _ {A S T : Type 0} (s : Steps A S T) (n : Netlist A T) (p : Schedule) (periods : ℕ) (inputs : List (List T))
    (rest : NetState T S) (has : HasPeriod s n p) (is : IsNetState s n inputs
    (periods_of p.repetitions periods) rest) where
  abbrev q : List ℕ
  q = p.repetitions

  abbrev k : ℕ → ℕ
  k = periods_of q periods

  abbrev V : ℕ → List T
  V = is.history

  -- the samples that the periods take from a list
  abbrev size : ℕ
  size = periods * period_samples n.nodes Inputs q

  accepted : IsAccepted s n q
  accepted = subst (IsAccepted s n) (one_least_period (rates (graph_of s n)) has.accepted.0 q has.accepted.1.period
      has.period.least) has.accepted.1

  -- ---- a source has found all that it reads

  module _ (a ext block : ℕ) (l : a < length n.nodes) (x : node n a ≡ Source ext block) where
    abbrev c : ℕ
    c = from_port n a 0

    abbrev list : List T
    list = get_or inputs ext []

    all : block * k a ≡ size
    all =
        let on : IsTrue (is_some (list_of Inputs (node n a))) =
        subst (λ y. IsTrue (is_some (list_of Inputs y))) (sym x) refl in
        let one : block * get_or q a 0 ≡ period_samples n.nodes Inputs q =
        ap (λ b. b * get_or q a 0) (sym (ap block_of x)) ∙ accepted.inputs a l on in
        (let m : block * (periods * get_or q a 0) ≡ periods * (block * get_or q a 0) = omega arith in m)
        ∙ ap (λ b. periods * b) one

    port : 0 < outputs_of s (node n a)
    port = subst (λ y. 0 < outputs_of s y) (sym x) (omega arith)

    from : (wire n c).from.0 ≡ a
    from = ((ports_have_channels s n a 0 has.net l).1 port).0

    puts : (i : ℕ) → (wiring s n).rates.produced c i ≡ block * i
    puts i = ap (λ b. produced_at s (node n b) (wire n c).from.1 i) from
        ∙ ap (λ y. produced_at s y (wire n c).from.1 i) x

    came : length (V c) ≡ (wiring s n).rates.initial c + block * k a
    came = is.is.lengths c (has.net.from_all a 0 l port)
        ∙ (ap (λ b. (wiring s n).rates.initial c + (wiring s n).rates.produced c (k b)) from
        ∙ ap (λ m. (wiring s n).rates.initial c + m) (puts (k a)))

    -- so many samples in each firing
    put_long : (i : ℕ) → i < k a → length (put (wiring s n) V a i) ≡ block
    put_long i h =
        let more : (i + 1) * block ≤ k a * block = mul-le-mul_right block (let z : i + 1 ≤ k a = omega (arith, h) in z)
        in
        let one : (wiring s n).outs a ≡ c ∷ [] =
        ap (λ y. map (from_port n a) (range_with_len 0 (outputs_of s y))) x in
        let start : ℕ = (wiring s n).rates.initial c in
        let i_on : ℕ = start + (wiring s n).rates.produced c i in
        let j_on : ℕ = start + (wiring s n).rates.produced c (i + 1) in
        let is_all : put (wiring s n) V a i ≡ between i_on j_on (V c) ++ [] =
        ap (λ cs. flat_of cs i) one in
        ap length (is_all ∙ append-nil (between i_on j_on (V c)))
        ∙ (length-between (V c) i_on j_on (omega (arith, came, puts (i + 1), more))
        ∙ omega (arith, puts i, puts (i + 1)))
      where
        flat_of : List ℕ → ℕ → List T
        flat_of cs i = flat_map (λ c. between ((wiring s n).rates.initial c + (wiring s n).rates.produced c i)
            ((wiring s n).rates.initial c + (wiring s n).rates.produced c (i + 1)) (V c)) cs

    read : (i : ℕ) → i < k a → put (wiring s n) V a i ≡ between (block * i) (block * (i + 1)) list
    read i h = is.is.steps a i l h
        ∙ (ap (λ y. answer_of s inputs y (taken_before (wiring s n) V a i) (taken (wiring s n) V a i)) x
        ∙ ap (λ j. between (block * j) (block * (j + 1)) list) (blocks_are_counted s n V a i))

    enough_of : (i : ℕ) → i + 1 ≡ k a → 0 < block → size ≤ length list
    enough_of i next some =
        let long : length (take (block * (i + 1) - block * i) (drop (block * i) list)) ≡ block =
        ap length (sym (read i (omega (arith, next)))) ∙ put_long i (omega (arith, next)) in
        let end : block * (i + 1) ≡ block * k a = ap (λ m. block * m) next in
        omega (
          arith,
          long,
          end,
          all,
          some,
          length-take (block * (i + 1) - block * i) (drop (block * i) list),
          length-drop (block * i) list,
        )

    pub enough : size ≤ length list
    enough = go (cases_lt 0 (k a)) (cases_lt 0 block)
      where
        go : (0 < k a) ⊎ (k a ≤ 0) → (0 < block) ⊎ (block ≤ 0) → size ≤ length list
        go (inr none) _ =
            let zero : block * k a ≡ block * 0 = ap (λ m. block * m) (let z : k a ≡ 0 = omega (arith, none) in z) in
            omega (arith, all, zero)
        go (inl some) (inr none) =
            let zero : block * k a ≡ 0 * k a = ap (λ b. b * k a) (let z : block ≡ 0 = omega (arith, none) in z) in
            omega (arith, all, zero, zero-mul (k a))
        go (inl some) (inl one) = enough_of (k a - 1) (omega (arith, some)) one

  -- ---- lists of what is read, and no more

  -- a list of so many samples
  some_list : (xs : List T) × (length xs ≡ size)
  some_list = go (cases_lt first (length n.nodes)) (node n first) refl
    where
      first : ℕ
      first = first_with Inputs n.nodes

      empty : block_of (node n first) ≡ 0 → (xs : List T) × (length xs ≡ size)
      empty z = (
        [],
        (let e : 0 ≡ periods * (0 * get_or q first 0) = omega arith in e)
            ∙ ap (λ b. periods * (b * get_or q first 0)) (sym z),
      )

      no_sink : (ext block : ℕ) → first < length n.nodes → node n first ≡ Sink ext block → ⊥
      no_sink ext block l x =
          let on : is_some (list_of Inputs (node n first)) ≡ true =
          passes (λ y. is_some (list_of Inputs y)) n.nodes (Sink 0 0) l in
          let off : is_some (list_of Inputs (node n first)) ≡ false = ap (λ y. is_some (list_of Inputs y)) x in
          (let z : true ≡ false = sym on ∙ off in cc)

      go : (first < length n.nodes) ⊎ (length n.nodes ≤ first) → (y : Node A) → node n first ≡ y →
          (xs : List T) × (length xs ≡ size)
      go (inr none) y x = empty (ap block_of (get_or_past n.nodes first (Sink 0 0) none))
      go (inl l) (Source ext block) x =
          (take size (get_or inputs ext []), length-take-le size (get_or inputs ext []) (enough first ext block l x))
      go (inl l) (Inner y) x = empty (ap block_of x)
      go (inl l) (Sink ext block) x = absurd (no_sink ext block l x)

  pick_by : (e : ℕ) → (length (get_or inputs e []) < size) ⊎ (size ≤ length (get_or inputs e [])) → List T
  pick_by e (inl short) = some_list.0
  pick_by e (inr long) = take size (get_or inputs e [])

  pick : ℕ → List T
  pick e = pick_by e (cases_lt (length (get_or inputs e [])) size)

  pick_long : (e : ℕ) → length (pick e) ≡ size
  unfolding pick_by some_list pick
  pick_long e = go (cases_lt (length (get_or inputs e [])) size)
    where
      go : (d : (length (get_or inputs e []) < size) ⊎ (size ≤ length (get_or inputs e []))) →
          length (pick_by e d) ≡ size
      go (inl short) = some_list.1
      go (inr long) = length-take-le size (get_or inputs e []) long

  pick_is : (e : ℕ) → size ≤ length (get_or inputs e []) → pick e ≡ take size (get_or inputs e [])
  unfolding pick_by pick
  pick_is e reach = go (cases_lt (length (get_or inputs e [])) size)
    where
      go : (d : (length (get_or inputs e []) < size) ⊎ (size ≤ length (get_or inputs e []))) →
          pick_by e d ≡ take size (get_or inputs e [])
      go (inl short) = absurd (omega (arith, short, reach))
      go (inr long) = refl

  abbrev count : ℕ
  count = list_count Inputs n.nodes

  abbrev given : List (List T)
  given = map pick (range_with_len 0 count)

  many : length given ≡ count
  many = length-map-range_with_len pick 0 count

  given_at : (e : ℕ) → e < count → get_or given e [] ≡ pick e
  given_at e l = get_or-map-range_with_len pick 0 count e e [] l (omega arith)

  full : AreFull n q periods given
  full e l = ap length (given_at e (omega (arith, l, many))) ∙ pick_long e

  has_inputs : HasInputs n q periods given
  has_inputs = record {
    count = many;
    even = λ e l. full e l ∙ sym (full 0 (omega (arith, l)));
    enough = λ e l. omega (arith, full e l);
  }

  -- a source reads the same there
  same_answer : (a : ℕ) → a < length n.nodes → (y : Node A) → node n a ≡ y → (i : ℕ) → i < k a →
      (seen : List (List T)) (now : List T) → length seen ≡ i →
      answer_of s inputs y seen now ≡ answer_of s given y seen now
  same_answer a l (Sink ext block) x i h seen now long = refl
  same_answer a l (Inner y) x i h seen now long = refl
  same_answer a l (Source ext block) x i h seen now long =
      let xs : List T = get_or inputs ext [] in
      let reach : size ≤ length xs = enough a ext block l x in
      let there : ext < count = list_below Inputs n.nodes a ext l (ap (list_of Inputs) x) in
      let front : take size xs ≡ take size (get_or given ext []) =
      sym (take-take size size xs (omega arith)) ∙ ap (take size) (sym (given_at ext there ∙ pick_is ext reach)) in
      let more : (i + 1) * block ≤ k a * block = mul-le-mul_right block (let z : i + 1 ≤ k a = omega (arith, h) in z) in
      let end : block * (length seen + 1) ≡ block * (i + 1) = ap (λ j. block * (j + 1)) long in
      between_agree xs (get_or given ext []) size (block * length seen) (block * (length seen + 1)) front
      (omega (arith, end, more, all a ext block l x))

  history_of : IsHistoryOf s n given k V
  history_of = record {
    begins = is.is.begins;
    lengths = is.is.lengths;
    enough = is.is.enough;
    steps = λ a i l h. is.is.steps a i l h ∙ same_answer a l (node n a) refl i h (taken_before (wiring s n) V a i)
        (taken (wiring s n) V a i) (blocks_are_counted s n V a i);
  }

  -- ---- and what has arrived at the sinks

  -- only one node makes a list
  alone : (a b e : ℕ) → a < length n.nodes → b < length n.nodes → list_of Outputs (node n a) ≡ Some e →
      list_of Outputs (node n b) ≡ Some e → a ≡ b
  alone a b e la lb xa xb = go (cases_lt a b) (cases_lt b a)
    where
      go : (a < b) ⊎ (b ≤ a) → (b < a) ⊎ (a ≤ b) → a ≡ b
      go (inl less) _ = absurd (accepted.lists.once b lb (inr (e, xb, (a, less, xa))))
      go (inr _) (inl less) = absurd (accepted.lists.once a la (inr (e, xa, (b, less, xb))))
      go (inr f) (inr g) = omega (arith, f, g)

  abbrev Sinks : ℕ → Type 0
  Sinks c = (xs : List (List T)) × (length xs ≡ c) × ((a e block : ℕ) → a < length n.nodes →
      node n a ≡ Sink e block → e < c → get_or xs e [] ≡ arrived s n k V a)

  module _ (c : ℕ) (h : c < list_count Outputs n.nodes) (before : Sinks c) where
    abbrev xs : List (List T)
    xs = before.0

    maker : HasList n.nodes Outputs (length n.nodes) c
    maker = accepted.lists.outputs c h

    abbrev longer : List (List T)
    longer = xs ++ arrived s n k V maker.0 ∷ []

    each : (a e block : ℕ) → a < length n.nodes → node n a ≡ Sink e block → e < suc c →
        get_or longer e [] ≡ arrived s n k V a
    each a e block l x less = go (cases_lt e c)
      where
        go : (e < c) ⊎ (c ≤ e) → get_or longer e [] ≡ arrived s n k V a
        go (inl low) =
            get_or_append_left xs (arrived s n k V maker.0 ∷ []) [] e (omega (arith, low, before.1))
            ∙ before.2 a e block l x low
        go (inr last) =
            let at : length xs + 0 ≡ e = omega (arith, last, less, before.1) in
            let same : c ≡ e = omega (arith, last, less) in
            let maker_is : maker.0 ≡ a =
            alone maker.0 a e maker.1 l (maker.2 ∙ ap (λ i. Some i) same) (ap (list_of Outputs) x) in
            ap (λ i. get_or longer i []) (sym at)
            ∙ (get_or-append-add xs (arrived s n k V maker.0 ∷ []) 0 [] ∙ ap (arrived s n k V) maker_is)

    one_more : Sinks (suc c)
    one_more = (longer, omega (arith, length-append xs (arrived s n k V maker.0 ∷ []), before.1), each)

  sinks : (c : ℕ) → c ≤ list_count Outputs n.nodes → Sinks c
  sinks zero h = ([], refl, λ a e block l x less. absurd (omega (arith, less)))
  sinks (suc c) h = one_more c (omega (arith, h)) (sinks c (omega (arith, h)))

  was : WasLeft s n q rest
  was =
      let outputs = sinks (list_count Outputs n.nodes) (omega arith) in
      record {
        periods = periods;
        inputs = given;
        outputs = outputs.0;
        given = has_inputs;
        full = full;
        run = record {
          history = V;
          is = history_of;
          count = outputs.1;
          each = λ a e block l x. outputs.2 a e block l x
              (list_below Outputs n.nodes a e l (ap (list_of Outputs) x));
          left = is.left;
        };
      }

pub were_left : {A S T : Type 0} (s : Steps A S T) → StatesWereLeft s
were_left = was
