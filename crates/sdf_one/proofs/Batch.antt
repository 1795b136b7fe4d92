-- Firings of one node in a row: what they do to a history, to the samples on the channels, and to what a runner holds.
use Rattle.std.proofs.Common.{◌≡◌, ℕ, zero, suc, ◌+◌, ◌*◌, ◌-◌, ◌≤◌, ◌<◌, List, [], ◌∷◌, ◌++◌, length, get_or, take}
use Rattle.std.proofs.Common.{add-one, drop, cond, eqb, Bool, true, false, refl, sym, ap, ◌∙◌, subst, inl, inr, ◌⊎◌}
use Rattle.std.proofs.Common.{arith}
use Rattle.std.specs.List.{between, flat_map, sum_by}
use Rattle.std.specs.declared.vec.Vec.{Vec}
use Rattle.std.proofs.Math.Nat.{mul-le-mul_left}
use Rattle.std.proofs.lemmas.Bool.{cases_eq, cases_lt, eq-eqb, ne_eqb}
use Rattle.std.proofs.lemmas.List.{append-nil, append_assoc, drop-append-le, drop-drop, length-append, length-drop}
use Rattle.std.proofs.lemmas.List.{length_push, length-take-le, take-append-le, take_at, drop_at, flat_map_more}
use Rattle.std.proofs.lemmas.List.Edits.{length-between}
use Rattle.sdf_graph.specs.Sequences.{IsEnabled}
use Rattle.sdf_actor.specs.declared.node.Node.{Node}
use Rattle.sdf_actor.specs.declared.node.Node.TheVariants.{Source, Sink, Inner}
use Rattle.sdf_actor.specs.Histories.{Wiring, taken, taken_before, spread}
use Rattle.sdf_actor.specs.Laws.{HistoryGrowsByFiring}
use Rattle.sdf_actor.specs.Nets.{Netlist, node, wiring, answers, SourceReaches, InputsReach, IsHistoryOf}
use Rattle.sdf_actor.specs.Steps.{Steps, phase, total_in, sum_in, block_at, state_at, puts_to, state_after}
use Rattle.sdf_node.specs.Many.{listed, joined}
use Rattle.sdf_queues.specs.Blocks.{samples, at_ports}
use Rattle.sdf_queues.specs.Moves.{IsLeft, MovesOn}
use Rattle.sdf_queues.specs.Sizes.{IsPlan}
use Rattle.sdf_queues.proofs.Theorems.{blocks_are_counted, blocks_stand, firings_move_on, nodes_take_theirs}
use Rattle.sdf_one.specs.declared.work.Work.{Work}
use Rattle.sdf_one.specs.Runs.{IsWork, IsState}
use Rattle.sdf_one.proofs.AtPorts.{at_one, at_sum, at_zero}
use Rattle.sdf_one.proofs.Holding as holding
use Rattle.sdf_one.proofs.Holding.{Holding, Ahead}
use Rattle.sdf_one.proofs.Known.{Known}
use Rattle.sdf_one.proofs.ManyWorks.{parts_long}
use Rattle.sdf_one.proofs.Parts.{flat_map_same}
use Rattle.sdf_one.proofs.Turns.{joined_piece}
use Rattle.sdf_one.proofs.Works.{state_push}

-- sources that find the samples of many firings find those of fewer
source_reaches : {A T : Type 0} (inputs : List (List T)) (many k : ℕ → ℕ) (a : ℕ) (x : Node A) →
    SourceReaches inputs many a x → k a ≤ many a → SourceReaches inputs k a x
source_reaches inputs many k a (Source ext block) reach h = let less : block * k a ≤ block * many a =
    mul-le-mul_left block h in omega (arith, less, reach)
source_reaches inputs many k a (Sink ext block) reach h = reach
source_reaches inputs many k a (Inner x) reach h = reach

pub reaches : {A T : Type 0} (n : Netlist A T) (inputs : List (List T)) (many k : ℕ → ℕ) → InputsReach n inputs many →
    ((b : ℕ) → b < length n.nodes → k b ≤ many b) → InputsReach n inputs k
reaches n inputs many k reach h b l = source_reaches inputs many k b (node n b) (reach b l) (h b l)

-- lists of one length with an item more that are the same
push_apart : {X : Type 0} (xs ys : List X) (x y : X) → length xs ≡ length ys → xs ++ x ∷ [] ≡ ys ++ y ∷ [] →
    (xs ≡ ys) × (x ∷ [] ≡ y ∷ [])
push_apart xs ys x y long e = (
  sym (take_at xs (x ∷ []) (length xs) refl) ∙ (ap (take (length xs)) e ∙ take_at ys (y ∷ []) (length xs) (sym long)),
  sym (drop_at xs (x ∷ []) (length xs) refl) ∙ (ap (drop (length xs)) e ∙ drop_at ys (y ∷ []) (length xs) (sym long)),
)

length_listed : {T : Type 0} (b : ℕ → List T) (i : ℕ) → length (listed b i) ≡ i
length_listed b zero = refl
length_listed b (suc i) = omega (arith, length_push (listed b i) (b i), length_listed b i)

pub length_after : {T : Type 0} (past : List (List T)) (b : ℕ → List T) (i : ℕ) →
    length (past ++ listed b i) ≡ length past + i
length_after past b i = omega (arith, length-append past (listed b i), length_listed b i)

-- blocks behind others, joined
pub flat_listed : {T : Type 0} (past : List (List T)) (b : ℕ → List T) (i : ℕ) →
    flat_map (λ (x : List T). x) (past ++ listed b i) ≡ flat_map (λ (x : List T). x) past ++ joined b i
flat_listed past b zero = ap (flat_map (λ x. x)) (append-nil past) ∙ sym (append-nil (flat_map (λ x. x) past))
flat_listed past b (suc i) =
    ap (flat_map (λ x. x)) (sym (append_assoc past (listed b i) (b i ∷ []))) ∙
    (sym (flat_map_more (λ x. x) [] (past ++ listed b i) (b i)) ∙
    (ap (λ xs. xs ++ b i) (flat_listed past b i) ∙ append_assoc (flat_map (λ x. x) past) (joined b i) (b i)))

-- a history, the samples that it leaves on the channels, and the next firings of a node there
pub record Firings (A S T : Type 0) : Type 0 where
  pub s : Steps A S T
  pub n : Netlist A T
  pub net : Known s n
  pub inputs : List (List T)
  pub a : ℕ
  pub known : a < length n.nodes
  pub k : ℕ → ℕ
  pub V : ℕ → List T
  pub is : IsHistoryOf s n inputs k V
  pub queue : ℕ → List T
  pub stands : IsLeft s n k V queue
  -- what each of them takes and puts, and what the first i of them take from a channel
  pub takes : ℕ → List ℕ
  pub puts : ℕ → List ℕ
  pub plan : (i : ℕ) → IsPlan s n a (k a + i) (takes i) (puts i)
  pub gone : ℕ → ℕ → ℕ
  pub gone_is : (c i : ℕ) → c < length n.wires → (wiring s n).rates.target c ≡ a →
      (wiring s n).rates.consumed c (k a + i) ≡ (wiring s n).rates.consumed c (k a) + gone c i
  pub times : ℕ
  pub held : (c : ℕ) → c < length n.wires → (wiring s n).rates.target c ≡ a → gone c times ≤ length (queue c)

module _ {A S T : Type 0} (x : Firings A S T) where
  open x use {s, n, net, inputs, a, known, k, V, queue, takes, puts, plan, gone, gone_is, times, held}

  abbrev f : Wiring T
  f = wiring s n

  abbrev ins : List ℕ
  ins = f.ins a

  abbrev outs : List ℕ
  outs = f.outs a

  abbrev pub past : List (List T)
  past = taken_before f V a (k a)

  -- what firing i takes and puts, and what the first i put on a channel
  abbrev pub block : ℕ → List T
  block i = flat_map (λ c. take (get_or (takes i) c 0) (drop (gone c i) (queue c))) ins

  abbrev pub answer : ℕ → List T
  answer i = answers s n inputs a (past ++ listed block i) (block i)

  abbrev pub more : ℕ → ℕ → List T
  more i c = joined (λ e. spread (λ d. get_or (puts e) d 0) outs (answer e) c) i

  pub block_long : (i : ℕ) → i < times → length (block i) ≡ sum_by (λ c. get_or (takes i) c 0) ins
  block_long i l =
      parts_long (λ c. take (get_or (takes i) c 0) (drop (gone c i) (queue c))) (λ c. get_or (takes i) c 0) ins (λ p h.
      let c : ℕ = get_or ins p 0 in
      let is = net.wired.ins_are a p known h in
      let rise = net.wired.sound.consumed_rises c (k a + suc i) (k a + times) (omega arith) in
      let step : f.rates.consumed c (k a + suc i) ≡ f.rates.consumed c (k a + i + 1) =
      ap (f.rates.consumed c) (let z : k a + suc i ≡ k a + i + 1 = omega arith in z) in
      length-take-le (get_or (takes i) c 0) (drop (gone c i) (queue c))
      (omega (
        arith,
        length-drop (gone c i) (queue c),
        rise,
        step,
        gone_is c i is.0 is.1,
        gone_is c times is.0 is.1,
        (plan i).taken c is.0 is.1,
        held c is.0 is.1,
      )))

  -- the counts after i of them
  abbrev pub counts : ℕ → ℕ → ℕ
  counts i b = k b + cond (eqb a b) i 0

  pub own : (i : ℕ) → counts i a ≡ k a + i
  own i = ap (λ t. k a + cond t i 0) (eq-eqb a a (λ _. a))

  pub other : (i b : ℕ) → (a ≡ b → ⊥) → counts i b ≡ k b
  other i b ne = ap (λ t. k b + cond t i 0) (ne_eqb a b ne) ∙ (let e : k b + 0 ≡ k b = omega arith in e)

  -- after i of them
  pub record Done (i : ℕ) : Type 0 where
    pub W : ℕ → List T
    pub is : IsHistoryOf s n inputs (counts i) W
    pub left : (c : ℕ) → c < length n.wires → drop (f.rates.consumed c (counts i (f.rates.target c))) (W c) ≡
        drop (at_ports ins (gone c i) c) (queue c) ++ more i c
    pub mine : taken_before f W a (counts i a) ≡ past ++ listed block i
    pub others : (b : ℕ) → b < length n.nodes → (a ≡ b → ⊥) → taken_before f W b (counts i b) ≡ taken_before f V b (k b)
    pub long : (e : ℕ) → e < i → length (answer e) ≡ sum_by (λ c. get_or (puts e) c 0) outs

  -- what is taken from a channel that does not lead to the node
  pub none_at : (c v : ℕ) → c < length n.wires → (f.rates.target c ≡ a → ⊥) → at_ports ins v c ≡ 0
  none_at c v l ne = (nodes_take_theirs s n a c net.good known l).1 v
      ∙ ap (λ t. cond t v 0) (ne_eqb (f.rates.target c) a ne)

  at_none : (c : ℕ) → c < length n.wires → at_ports ins (gone c 0) c ≡ 0
  at_none c l = go (cases_eq (f.rates.target c) a)
    where
      go : (f.rates.target c ≡ a) ⊎ (f.rates.target c ≡ a → ⊥) → at_ports ins (gone c 0) c ≡ 0
      go (inl e) =
          let same : f.rates.consumed c (k a + 0) ≡ f.rates.consumed c (k a) =
          ap (f.rates.consumed c) (let z : k a + 0 ≡ k a = omega arith in z) in
          let none : gone c 0 ≡ 0 = omega (arith, gone_is c 0 l e) in
          ap (λ v. at_ports ins v c) none ∙ at_zero ins c
      go (inr ne) = none_at c (gone c 0) l ne

  first : Done 0
  first = record {
    W = V;
    is = subst (λ j. IsHistoryOf s n inputs j V) (λ j b. same b (eqb a b) j) x.is;
    left = λ c l.
        ap (λ v. drop (f.rates.consumed c v) (V c)) (sym (same (f.rates.target c) (eqb a (f.rates.target c)))) ∙
        (sym (x.stands c l) ∙ (ap (λ v. drop v (queue c)) (sym (at_none c l))
        ∙ sym (append-nil (drop (at_ports ins (gone c 0) c) (queue c)))));
    mine = ap (taken_before f V a) (sym (same a (eqb a a))) ∙ sym (append-nil past);
    others = λ b l ne. ap (taken_before f V b) (other 0 b ne);
    long = λ e l. absurd (let no : e < 0 = l in omega arith);
  }
    where
      same : (b : ℕ) (t : Bool) → k b ≡ k b + cond t 0 0
      same b true = omega arith
      same b false = omega arith

  module _ (grows : HistoryGrowsByFiring s) (i : ℕ) (l : i < times) (reach : InputsReach n inputs (counts (suc i)))
      (at : Done i) where
    abbrev size : ℕ → ℕ
    size c = get_or (takes i) c 0

    abbrev here : ℕ → List T
    here c = drop (f.rates.consumed c (counts i (f.rates.target c))) (at.W c)

    plan_here : IsPlan s n a (counts i a) (takes i) (puts i)
    plan_here = subst (λ v. IsPlan s n a v (takes i) (puts i)) (sym (own i)) (plan i)

    next_gone : (c : ℕ) → c < length n.wires → f.rates.target c ≡ a → gone c i + size c ≡ gone c (suc i)
    next_gone c h e =
        let step : f.rates.consumed c (k a + suc i) ≡ f.rates.consumed c (k a + i + 1) =
        ap (f.rates.consumed c) (let z : k a + suc i ≡ k a + i + 1 = omega arith in z) in
        omega (arith, gone_is c i h e, gone_is c (suc i) h e, step, (plan i).taken c h e)

    stood : (c : ℕ) → c < length n.wires → f.rates.target c ≡ a → gone c (suc i) ≤ length (queue c)
    stood c h e =
        let rise = net.wired.sound.consumed_rises c (k a + suc i) (k a + times) (omega arith) in
        omega (arith, rise, gone_is c (suc i) h e, gone_is c times h e, held c h e)

    -- at each channel
    next_at : (c : ℕ) → c < length n.wires →
        (at_ports ins (gone c i) c + at_ports ins (size c) c ≡ at_ports ins (gone c (suc i)) c)
        × (at_ports ins (gone c (suc i)) c ≤ length (queue c))
    next_at c h = go (cases_eq (f.rates.target c) a)
      where
        go : (f.rates.target c ≡ a) ⊎ (f.rates.target c ≡ a → ⊥) →
            (at_ports ins (gone c i) c + at_ports ins (size c) c ≡ at_ports ins (gone c (suc i)) c)
            × (at_ports ins (gone c (suc i)) c ≤ length (queue c))
        go (inl e) =
            let all : at_ports ins (gone c (suc i)) c ≡ gone c (suc i) =
            (nodes_take_theirs s n a c net.good known h).1 (gone c (suc i))
            ∙ ap (λ t. cond t (gone c (suc i)) 0) (eq-eqb (f.rates.target c) a e) in (
              at_sum ins (gone c i) (size c) c ∙ ap (λ v. at_ports ins v c) (next_gone c h e),
              omega (arith, all, stood c h e),
            )
        go (inr ne) =
            let none = none_at c (gone c (suc i)) h ne in
            (omega (arith, none, none_at c (gone c i) h ne, none_at c (size c) h ne), omega (arith, none))

    -- its block is there
    at_port : (p : ℕ) → p < length ins → take (size (get_or ins p 0)) (here (get_or ins p 0)) ≡
        take (size (get_or ins p 0)) (drop (gone (get_or ins p 0) i) (queue (get_or ins p 0)))
    at_port p h =
        let c : ℕ = get_or ins p 0 in
        let is = net.wired.ins_are a p known h in
        ap (take (size c)) (at.left c is.0
        ∙ ap (λ v. drop v (queue c) ++ more i c) (at_one ins p (gone c i) c h refl)) ∙
        take-append-le (size c) (drop (gone c i) (queue c)) (more i c)
        (omega (arith, length-drop (gone c i) (queue c), stood c is.0 is.1, next_gone c is.0 is.1))

    block_is : taken f at.W a (counts i a) ≡ block i
    block_is =
        sym (blocks_stand s n (counts i) a at.W (takes i) (puts i) here net.good known plan_here (λ c h. refl)) ∙
        flat_map_same (λ c. take (size c) (here c)) (λ c. take (size c) (drop (gone c i) (queue c))) ins at_port

    enabled : IsEnabled f.rates (counts i) a
    enabled c h e =
        let now : f.rates.consumed c (counts i (f.rates.target c) + 1) ≡ f.rates.consumed c (k a + suc i) =
        ap (λ b. f.rates.consumed c (counts i b + 1)) e
        ∙ ap (f.rates.consumed c) (let z : counts i a + 1 ≡ k a + suc i = omega (arith, own i) in z) in
        let was : f.rates.consumed c (k (f.rates.target c)) ≡ f.rates.consumed c (k a) =
        ap (λ b. f.rates.consumed c (k b)) e in
        let long : length (queue c) ≡ length (V c) - f.rates.consumed c (k (f.rates.target c)) =
        ap length (x.stands c h) ∙ length-drop (f.rates.consumed c (k (f.rates.target c))) (V c) in
        let grew = net.wired.sound.produced_rises c (k (f.rates.source c)) (counts i (f.rates.source c))
        (let z : k (f.rates.source c) ≤ counts i (f.rates.source c) = omega arith in z) in
        omega (
          arith,
          now,
          was,
          long,
          x.is.lengths c h,
          x.is.enough c h,
          stood c h e,
          gone_is c (suc i) h e,
          grew,
        )

    one : counts (suc i) a ≡ counts i a + 1
    one = omega (arith, own i, own (suc i))

    moved : MovesOn s n inputs (counts i) (counts (suc i)) a at.W (takes i) (puts i) here
    moved = firings_move_on s grows n inputs (counts i) (counts (suc i)) a at.W (takes i) (puts i) here net.good known
        enabled one (λ b ne. other (suc i) b ne ∙ sym (other i b ne)) reach at.is plan_here (λ c h. refl)

    abbrev W' : ℕ → List T
    W' = Rattle.sdf_actor.specs.Laws.after_firing s n inputs (counts i) at.W a

    left_then : (c : ℕ) → c < length n.wires → drop (f.rates.consumed c (counts (suc i) (f.rates.target c))) (W' c) ≡
        drop (at_ports ins (gone c (suc i)) c) (queue c) ++ more (suc i) c
    left_then c h =
        let last : List T = spread (λ d. get_or (puts i) d 0) outs (answer i) c in
        let next = next_at c h in
        sym (moved.left c h) ∙
        ((λ κ. drop (at_ports ins (size c) c) (at.left c h κ)
        ++ spread (λ d. get_or (puts i) d 0) outs (answers s n inputs a (at.mine κ) (block_is κ)) c) ∙
        (ap (λ ys. ys ++ last) (drop-append-le (at_ports ins (size c) c) (drop (at_ports ins (gone c i) c) (queue c))
        (more i c) (omega (arith, next.0, next.1, length-drop (at_ports ins (gone c i) c) (queue c))) ∙
        ap (λ ys. ys ++ more i c) (drop-drop (at_ports ins (size c) c) (at_ports ins (gone c i) c) (queue c)
        ∙ ap (λ v. drop v (queue c)) next.0)) ∙
        append_assoc (drop (at_ports ins (gone c (suc i)) c) (queue c)) (more i c) last))

    -- what it puts has its length
    answer_long : length (answer i) ≡ sum_by (λ c. get_or (puts i) c 0) outs
    answer_long =
        let j : ℕ = counts i a in
        let same = push_apart (taken_before f W' a j) (taken_before f at.W a j) (taken f W' a j) (taken f at.W a j)
        (blocks_are_counted s n W' a j ∙ sym (blocks_are_counted s n at.W a j))
        (ap (taken_before f W' a) (let z : suc j ≡ counts (suc i) a = omega (arith, one) in z) ∙ moved.own) in
        let now : taken f W' a j ≡ taken f at.W a j = ap (λ bs. get_or bs 0 []) same.1 in
        ap length ((λ κ. answers s n inputs a ((sym at.mine ∙ sym same.0) κ) ((sym block_is ∙ sym now) κ))
        ∙ sym (moved.is.steps a j known (omega (arith, one)))) ∙
        parts_long (λ c. between (f.rates.initial c + f.rates.produced c j)
        (f.rates.initial c + f.rates.produced c (j + 1)) (W' c)) (λ c. get_or (puts i) c 0) outs (λ p h.
        let c : ℕ = get_or outs p 0 in
        let is = net.wired.outs_are a p known h in
        let all : f.rates.produced c (counts (suc i) (f.rates.source c)) ≡ f.rates.produced c (j + 1) =
        ap (λ b. f.rates.produced c (counts (suc i) b)) is.1 ∙ ap (f.rates.produced c) one in
        let long = length-between (W' c) (f.rates.initial c + f.rates.produced c j)
        (f.rates.initial c + f.rates.produced c (j + 1)) (omega (arith, all, moved.is.lengths c is.0)) in
        omega (arith, long, plan_here.put c is.0 is.1))

    next : Done (suc i)
    next = record {
      W = W';
      is = moved.is;
      left = left_then;
      mine = moved.own ∙ ((λ κ. at.mine κ ++ block_is κ ∷ []) ∙ append_assoc past (listed block i) (block i ∷ []));
      others = λ b h ne. moved.others b h ne ∙ at.others b h ne;
      long = λ e h. each e h (cases_lt e i);
    }
      where
        each : (e : ℕ) → e < suc i → (e < i) ⊎ (i ≤ e) → length (answer e) ≡ sum_by (λ c. get_or (puts e) c 0) outs
        each e h (inl less) = at.long e less
        each e h (inr last) = let same : i ≡ e = omega arith in
            subst (λ e. length (answer e) ≡ sum_by (λ c. get_or (puts e) c 0) outs) same answer_long

  -- all of them can be done
  pub done : HistoryGrowsByFiring s → ((i : ℕ) → i ≤ times → InputsReach n inputs (counts i)) → (i : ℕ) → i ≤ times →
      Done i
  done grows reach zero h = first
  done grows reach (suc i) h = next grows i (omega arith) (reach (suc i) h) (done grows reach i (omega arith))

-- the state of an actor after firings that take these blocks, and what they put
module _ {A S T : Type 0} (s : Steps A S T) (y : A) (j : ℕ) (past : List (List T)) (whole : List T) (b : ℕ → List T)
    (turn : (i : ℕ) → phase s y (j + i) ≡ phase s y (length past + i)) (many : ℕ) (all : whole ≡ joined b many)
    (long : (i : ℕ) → i < many → length (b i) ≡ total_in s y (phase s y (j + i))) where
  cut : (i : ℕ) → i < many → block_at s y j whole i ≡ b i
  cut i l =
      (λ κ. between (sum_in s y j i) (sum_in s y j (add-one i κ)) (all κ)) ∙
      joined_piece b (sum_in s y j) many i refl (λ e h. ap (λ v. sum_in s y j e + v) (long e h)) l

  at_turn : (i : ℕ) → phase s y (j + i) ≡ phase s y (length (past ++ listed b i))
  at_turn i = turn i ∙ ap (phase s y) (sym (length_after past b i))

  pub states : (i : ℕ) → i ≤ many → state_at s y j (state_after s y past) whole i ≡ state_after s y (past ++ listed b i)
  states zero h = ap (state_after s y) (sym (append-nil past))
  states (suc i) h =
      let now : List (List T) = past ++ listed b i in
      (λ κ. s.next y (at_turn i κ) (states i (omega arith) κ) (cut i (omega arith) κ)) ∙
      (sym (state_push s y 0 (s.start y) now (b i) ∙ ap (λ v. s.next y (phase s y v) (state_after s y now) (b i))
      (let z : 0 + length now ≡ length now = omega arith in z)) ∙
      ap (state_after s y) (append_assoc past (listed b i) (b i ∷ [])))

  pub puts_joined : (i : ℕ) → i ≤ many → puts_to s y j (state_after s y past) whole i ≡
      joined (λ e. s.puts y (phase s y (length (past ++ listed b e))) (state_after s y (past ++ listed b e)) (b e)) i
  puts_joined zero h = refl
  puts_joined (suc i) h = λ κ. puts_joined i (omega arith) κ
      ++ s.puts y (at_turn i κ) (states i (omega arith) κ) (cut i (omega arith) κ)

-- the next firings of a node of a runner, in a row: the samples that they take have come
pub record InARow {A S T Z : Type 0} (g : Holding A S T Z) (times : ℕ) : Type 0 where
  pub takes : ℕ → List ℕ
  pub puts : ℕ → List ℕ
  pub plan : (i : ℕ) → IsPlan g.s g.n g.a (g.k g.a + i) (takes i) (puts i)
  pub gone : ℕ → ℕ → ℕ
  pub gone_is : (c i : ℕ) → c < length g.n.wires → (wiring g.s g.n).rates.target c ≡ g.a →
      (wiring g.s g.n).rates.consumed c (g.k g.a + i) ≡ (wiring g.s g.n).rates.consumed c (g.k g.a) + gone c i
  pub held : (c : ℕ) → c < length g.n.wires → (wiring g.s g.n).rates.target c ≡ g.a →
      gone c times ≤ length (samples g.qs c)

-- what a runner holds after them
module _ {A S T Z : Type 0} {g : Holding A S T Z} {times : ℕ} (r : InARow g times) where
  open g use {s, n, inputs, many, k, a, known, works, qs, outputs, st}

  abbrev pub firings : Firings A S T
  firings = record {
    s = s;
    n = n;
    net = g.net;
    inputs = inputs;
    a = a;
    known = known;
    k = k;
    V = st.history;
    is = st.is;
    queue = samples qs;
    stands = st.left;
    takes = r.takes;
    puts = r.puts;
    plan = r.plan;
    gone = r.gone;
    gone_is = r.gone_is;
    times = times;
    held = r.held;
  }

  module _ (h : Ahead g times) (grows : HistoryGrowsByFiring s) (reach : InputsReach n inputs many) where
    open h use {m, own as m_own, others as m_others, below}

    up : (i : ℕ) → i ≤ times → (b : ℕ) → b < length n.nodes → (a ≡ b) ⊎ (a ≡ b → ⊥) → counts firings i b ≤ many b
    up i le b l (inl e) = subst (λ b. b < length n.nodes → counts firings i b ≤ many b) e
        (λ l. omega (arith, own firings i, m_own, below a l)) l
    up i le b l (inr ne) = omega (arith, other firings i b ne, m_others b ne, below b l)

    pub all_done : (i : ℕ) → i ≤ times → Done firings i
    all_done = done firings grows (λ i le. reaches n inputs many (counts firings i) reach
        (λ b l. up i le b l (cases_eq a b)))

    same_counts : counts firings times ≡ m
    same_counts = λ j b. same b (cases_eq a b) j
      where
        same : (b : ℕ) → (a ≡ b) ⊎ (a ≡ b → ⊥) → counts firings times b ≡ m b
        same b (inl e) = subst (λ b. counts firings times b ≡ m b) e (own firings times ∙ sym m_own)
        same b (inr ne) = other firings times b ne ∙ sym (m_others b ne)

    pub stands_on : (p : holding.After g) (outputs' : List (Vec T Z)) →
        ((c : ℕ) → c < length n.wires → samples p.qs c ≡
        drop (at_ports ((wiring s n).ins a) (r.gone c times) c) (samples qs c) ++ more firings times c) →
        IsWork s inputs outputs' (many a) (node n a) (past firings ++ listed (block firings) times) p.w →
        ((b : ℕ) (e : Work A T S) → b < length n.nodes → (a ≡ b → ⊥) →
        IsWork s inputs outputs' (many b) (node n b) (taken_before (wiring s n) st.history b (k b))
        (get_or works b e)) →
        IsState s n inputs many m p.works p.qs outputs'
    stands_on p outputs' left its rest = subst (λ m. IsState s n inputs many m p.works p.qs outputs') same_counts
        (record {
          history = last.W;
          is = last.is;
          channels = p.same_queues ∙ st.channels;
          left = λ c l. left c l ∙ sym (last.left c l);
          nodes = p.same_works ∙ st.nodes;
          each = λ b e l. each b e l (cases_eq a b);
        })
      where
        last : Done firings times
        last = all_done times (omega arith)

        each : (b : ℕ) (e : Work A T S) → b < length n.nodes → (a ≡ b) ⊎ (a ≡ b → ⊥) →
            IsWork s inputs outputs' (many b) (node n b) (taken_before (wiring s n) last.W b (counts firings times b))
            (get_or p.works b e)
        each b e l (inl same) =
            subst (λ b. IsWork s inputs outputs' (many b) (node n b)
            (taken_before (wiring s n) last.W b (counts firings times b)) (get_or p.works b e)) same
            (subst (IsWork s inputs outputs' (many a) (node n a)
            (taken_before (wiring s n) last.W a (counts firings times a))) (sym (p.its e))
            (subst (λ ts. IsWork s inputs outputs' (many a) (node n a) ts p.w) (sym last.mine) its))
        each b e l (inr ne) =
            subst (IsWork s inputs outputs' (many b) (node n b)
            (taken_before (wiring s n) last.W b (counts firings times b))) (sym (p.rest b e ne))
            (subst (λ ts. IsWork s inputs outputs' (many b) (node n b) ts (get_or works b e)) (sym (last.others b l ne))
            (rest b e l ne))
