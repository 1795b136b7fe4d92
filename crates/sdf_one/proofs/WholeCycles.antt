-- An actor's cycles: what their firings move, from any firing that begins one on.
use Rattle.std.proofs.Common.{◌≡◌, ℕ, zero, suc, ◌+◌, ◌*◌, ◌%◌, ◌≤◌, ◌<◌, List, [], ◌∷◌, length, get_or, sym, ap, ◌∙◌}
use Rattle.std.proofs.Common.{subst, inl, inr, ◌⊎◌, arith, add-one}
use Rattle.std.specs.List.{sum_by}
use Rattle.std.proofs.Math.Nat.{mod-eq_of_lt, mod-add-mod, mul-mod_left, suc-mul, zero-mul}
use Rattle.std.proofs.lemmas.Bool.{cases_lt}
use Rattle.std.proofs.lemmas.List.Sums.{sum_by-cons}
use Rattle.sdf_actor.specs.Steps.{total_in, total_out, sum_in, sum_out}
use Rattle.sdf_actor.specs.Nets as nets
use Rattle.sdf_actor.specs.Nets.{wiring}
use Rattle.sdf_queues.specs.Moves.{FitsPorts}
use Rattle.sdf_queues.specs.Sizes.{IsPlan, at_phase, in_all, out_all}
use Rattle.sdf_queues.proofs.Theorems.{plans_fit}
use Rattle.sdf_one.specs.Cycles.{AreRowsAt, IsInTurn}
use Rattle.sdf_one.proofs.Holding.{ActorOf}

-- one phase more serves the ports in turn
pub turn_more : (ports : List ℕ) (rows : List (List ℕ)) (i last next : ℕ) (row : List ℕ) → row ≡ at_phase rows i →
    IsInTurn ports rows i → ((m p : ℕ) → m < i → last < p → p < length ports →
    get_or (at_phase rows m) (get_or ports p 0) 0 ≡ 0) →
    ((p : ℕ) → p < last → p < length ports → get_or row (get_or ports p 0) 0 ≡ 0) → last ≤ next →
    ((p : ℕ) → next < p → p < length ports → get_or row (get_or ports p 0) 0 ≡ 0) →
    IsInTurn ports rows (i + 1) × ((m p : ℕ) → m < i + 1 → next < p → p < length ports →
    get_or (at_phase rows m) (get_or ports p 0) 0 ≡ 0)
turn_more ports rows i last next row is turn still before up after = (
  λ m n p q l h j k. both m n p q l j k (cases_lt n i) (cases_lt p last) h,
  λ m p l h j. one m p h j (cases_lt m i) l,
)
  where
    both : (m n p q : ℕ) → m < n → p < q → q < length ports → (n < i) ⊎ (i ≤ n) → (p < last) ⊎ (last ≤ p) →
        n < i + 1 → (get_or (at_phase rows m) (get_or ports q 0) 0 ≡ 0)
        ⊎ (get_or (at_phase rows n) (get_or ports p 0) 0 ≡ 0)
    both m n p q l j k (inl less) at h = turn m n p q l less j k
    both m n p q l j k (inr here) (inl less) h =
        let same : i ≡ n = omega arith in
        inr ((λ κ. get_or (at_phase rows (sym same κ)) (get_or ports p 0) 0)
        ∙ (ap (λ xs. get_or xs (get_or ports p 0) 0) (sym is) ∙ before p less (omega arith)))
    both m n p q l j k (inr here) (inr past) h = inl (still m q (omega arith) (omega arith) k)

    one : (m p : ℕ) → next < p → p < length ports → (m < i) ⊎ (i ≤ m) → m < i + 1 →
        get_or (at_phase rows m) (get_or ports p 0) 0 ≡ 0
    one m p h j (inl less) l = still m p less (omega arith) j
    one m p h j (inr here) l =
        let same : i ≡ m = omega arith in
        (λ κ. get_or (at_phase rows (sym same κ)) (get_or ports p 0) 0)
        ∙ (ap (λ xs. get_or xs (get_or ports p 0) 0) (sym is) ∙ after p h j)

sum_none : (f : ℕ → ℕ) (ds : List ℕ) → ((p : ℕ) → p < length ds → f (get_or ds p 0) ≡ 0) → sum_by f ds ≡ 0
sum_none f [] none = omega arith
sum_none f (d ∷ ds) none =
    let first : f d ≡ 0 = none 0 (omega arith) in
    omega (arith, sum_by-cons f d ds, first, sum_none f ds (λ p l. none (suc p) (omega arith)))

-- a sum in two
pub sum_split : (f g h : ℕ → ℕ) (ds : List ℕ) →
    ((p : ℕ) → p < length ds → f (get_or ds p 0) ≡ g (get_or ds p 0) + h (get_or ds p 0)) →
    sum_by f ds ≡ sum_by g ds + sum_by h ds
sum_split f g h [] each = omega arith
sum_split f g h (d ∷ ds) each =
    let first : f d ≡ g d + h d = each 0 (omega arith) in
    omega (
      arith,
      sum_by-cons f d ds,
      sum_by-cons g d ds,
      sum_by-cons h d ds,
      first,
      sum_split f g h ds (λ p l. each (suc p) (omega arith)),
    )

pub sum_same : (f g : ℕ → ℕ) (ds : List ℕ) →
    ((p : ℕ) → p < length ds → f (get_or ds p 0) ≡ g (get_or ds p 0)) → sum_by f ds ≡ sum_by g ds
sum_same f g [] each = omega arith
sum_same f g (d ∷ ds) each =
    let first : f d ≡ g d = each 0 (omega arith) in
    omega (
      arith,
      sum_by-cons f d ds,
      sum_by-cons g d ds,
      first,
      sum_same f g ds (λ p l. each (suc p) (omega arith)),
    )

sum_scaled : (t : ℕ) (g : ℕ → ℕ) (ds : List ℕ) → sum_by (λ c. t * g c) ds ≡ t * sum_by g ds
sum_scaled t g [] = omega arith
sum_scaled t g (d ∷ ds) =
    let split : t * (g d + sum_by g ds) ≡ t * g d + t * sum_by g ds = omega arith in
    let all : t * sum_by g (d ∷ ds) ≡ t * (g d + sum_by g ds) = ap (λ v. t * v) (sum_by-cons g d ds) in
    omega (arith, sum_by-cons (λ c. t * g c) d ds, sum_scaled t g ds)

-- from a firing on at which the sizes begin anew as much is moved as from the first one on
moves_ahead : (moved size : ℕ → ℕ) (k : ℕ) → moved 0 ≡ 0 → ((i : ℕ) → moved (i + 1) ≡ moved i + size i) →
    ((i : ℕ) → moved (k + i + 1) ≡ moved (k + i) + size i) → (i : ℕ) → moved (k + i) ≡ moved k + moved i
moves_ahead moved size k none first later zero =
    let at : moved (k + 0) ≡ moved k = ap moved (let v : k + 0 ≡ k = omega arith in v) in
    omega (arith, at, none)
moves_ahead moved size k none first later (suc i) =
    let from : moved (k + suc i) ≡ moved (k + i + 1) = ap moved (let v : k + suc i ≡ k + i + 1 = omega arith in v) in
    let to : moved (suc i) ≡ moved (i + 1) = ap moved (sym (add-one i)) in
    omega (arith, from, to, moves_ahead moved size k none first later i, first i, later i)

-- so many cycles move so many times what one does
cycles_move : (moved : ℕ → ℕ) (turns one : ℕ) → moved 0 ≡ 0 → one ≡ moved turns →
    ((t : ℕ) → moved (t * turns + turns) ≡ moved (t * turns) + moved turns) → (t : ℕ) → moved (t * turns) ≡ t * one
cycles_move moved turns one none is ahead zero =
    let at : moved (0 * turns) ≡ moved 0 = ap moved (zero-mul turns) in
    omega (arith, at, none, zero-mul one)
cycles_move moved turns one none is ahead (suc t) =
    let more : moved (suc t * turns) ≡ moved (t * turns + turns) =
    ap moved (let v : suc t * turns ≡ t * turns + turns = omega (arith, suc-mul t turns) in v) in
    omega (arith, more, is, ahead t, cycles_move moved turns one none is ahead t, suc-mul t one)

module _ {A S T : Type 0} (its : ActorOf A S T) where
  open its use {s, n, net, z, sizes, y, cycles, a, known, x, is}

  abbrev ins : List ℕ
  ins = (wiring s n).ins a

  abbrev outs : List ℕ
  outs = (wiring s n).outs a

  -- the sizes of firing i
  abbrev pub takes_at : ℕ → List ℕ
  takes_at i = at_phase z.takes (i % s.cycle x)

  abbrev pub puts_at : ℕ → List ℕ
  puts_at i = at_phase z.puts (i % s.cycle x)

  pub some_phases : 0 < s.cycle x
  some_phases = subst (λ y. 0 < nets.cycle_of s y) is (sizes.some a known)

  pub plan_by : (i j : ℕ) → i % s.cycle x ≡ j % s.cycle x → IsPlan s n a i (takes_at j) (puts_at j)
  plan_by i j e = subst (λ v. IsPlan s n a i (at_phase z.takes v) (at_phase z.puts v))
      (ap (λ y. i % nets.cycle_of s y) is ∙ e) (sizes.plan a i known)

  pub plan : (i : ℕ) → IsPlan s n a i (takes_at i) (puts_at i)
  plan i = plan_by i i (λ _. i % s.cycle x)

  pub phase_on : (k i : ℕ) → k % s.cycle x ≡ 0 → (k + i) % s.cycle x ≡ i % s.cycle x
  phase_on k i e = sym (mod-add-mod k (s.cycle x) i) ∙ (ap (λ v. (v + i) % s.cycle x) e
      ∙ ap (λ v. v % s.cycle x) (let v : 0 + i ≡ i = omega arith in v))

  pub fits_ports : (i : ℕ) → FitsPorts s n a i (takes_at i) (puts_at i)
  fits_ports i = plans_fit s n a i (takes_at i) (puts_at i) net.good known (plan i)

  pub in_is : (i : ℕ) → total_in s x (i % s.cycle x) ≡ sum_by (λ c. get_or (takes_at i) c 0) ins
  in_is i = sym ((fits_ports i).taken ∙ ap (λ v. in_all s v i) is)

  pub out_is : (i : ℕ) → total_out s x (i % s.cycle x) ≡ sum_by (λ c. get_or (puts_at i) c 0) outs
  out_is i = sym ((fits_ports i).put ∙ ap (λ v. out_all s v i) is)

  -- the rows of its phases are there
  pub rows_in : AreRowsAt ins z.takes (s.cycle x)
  rows_in j h =
      let turn : j % s.cycle x ≡ j = mod-eq_of_lt h in
      let its : nets.cycle_of s (nets.node n a) ≡ s.cycle x = ap (nets.cycle_of s) is in
      let at : j % nets.cycle_of s (nets.node n a) ≡ j = ap (λ m. j % m) its ∙ turn in (
        subst (λ v. v < length z.takes) at (sizes.takes_known a j known),
        λ p l. subst (λ v. get_or ins p 0 < length (at_phase z.takes v)) turn
            (let all = (plan j).takes_all in omega (arith, (fits_ports j).ins_are.known p l, all)),
      )

  pub rows_out : AreRowsAt outs z.puts (s.cycle x)
  rows_out j h =
      let turn : j % s.cycle x ≡ j = mod-eq_of_lt h in
      let its : nets.cycle_of s (nets.node n a) ≡ s.cycle x = ap (nets.cycle_of s) is in
      let at : j % nets.cycle_of s (nets.node n a) ≡ j = ap (λ m. j % m) its ∙ turn in (
        subst (λ v. v < length z.puts) at (sizes.puts_known a j known),
        λ p l. subst (λ v. get_or outs p 0 < length (at_phase z.puts v)) turn
            (let all = (plan j).puts_all in omega (arith, (fits_ports j).outs_are.known p l, all)),
      )

  -- from a firing that begins a cycle on as much is moved as from the first one on
  module _ (k : ℕ) (begins : k % s.cycle x ≡ 0) where
    pub ahead_in : (c : ℕ) → c < length n.wires → (wiring s n).rates.target c ≡ a → (i : ℕ) →
        (wiring s n).rates.consumed c (k + i) ≡ (wiring s n).rates.consumed c k + (wiring s n).rates.consumed c i
    ahead_in c l e = moves_ahead ((wiring s n).rates.consumed c) (λ i. get_or (takes_at i) c 0) k
        (net.wired.sound.consumed_none c) (λ i. (plan i).taken c l e)
        (λ i. (plan_by (k + i) i (phase_on k i begins)).taken c l e)

    pub ahead_out : (c : ℕ) → c < length n.wires → (wiring s n).rates.source c ≡ a → (i : ℕ) →
        (wiring s n).rates.produced c (k + i) ≡ (wiring s n).rates.produced c k + (wiring s n).rates.produced c i
    ahead_out c l e = moves_ahead ((wiring s n).rates.produced c) (λ i. get_or (puts_at i) c 0) k
        (net.wired.sound.produced_none c) (λ i. (plan i).put c l e)
        (λ i. (plan_by (k + i) i (phase_on k i begins)).put c l e)

  pub begins : (t : ℕ) → (t * s.cycle x) % s.cycle x ≡ 0
  begins t = mul-mod_left t (s.cycle x)

  -- so many cycles move so many times what one does
  pub taken_by : (c : ℕ) → c < length n.wires → (wiring s n).rates.target c ≡ a → (t : ℕ) →
      (wiring s n).rates.consumed c (t * s.cycle x) ≡ t * get_or y.takes.items c 0
  taken_by c l e = cycles_move ((wiring s n).rates.consumed c) (s.cycle x) (get_or y.takes.items c 0)
      (net.wired.sound.consumed_none c)
      (cycles.taken c l ∙ ap (λ b. (wiring s n).rates.consumed c (nets.cycle_of s (nets.node n b))) e
      ∙ ap (λ v. (wiring s n).rates.consumed c (nets.cycle_of s v)) is)
      (λ t. ahead_in (t * s.cycle x) (begins t) c l e (s.cycle x))

  pub put_by : (c : ℕ) → c < length n.wires → (wiring s n).rates.source c ≡ a → (t : ℕ) →
      (wiring s n).rates.produced c (t * s.cycle x) ≡ t * get_or y.puts.items c 0
  put_by c l e = cycles_move ((wiring s n).rates.produced c) (s.cycle x) (get_or y.puts.items c 0)
      (net.wired.sound.produced_none c)
      (cycles.put c l ∙ ap (λ b. (wiring s n).rates.produced c (nets.cycle_of s (nets.node n b))) e
      ∙ ap (λ v. (wiring s n).rates.produced c (nets.cycle_of s v)) is)
      (λ t. ahead_out (t * s.cycle x) (begins t) c l e (s.cycle x))

  -- what so many firings take at all ports
  pub sums_in : (i : ℕ) → sum_in s x 0 i ≡ sum_by (λ c. (wiring s n).rates.consumed c i) ins
  sums_in zero = sym (sum_none (λ c. (wiring s n).rates.consumed c 0) ins
      (λ p l. net.wired.sound.consumed_none (get_or ins p 0)))
  sums_in (suc i) =
      let split = sum_split (λ c. (wiring s n).rates.consumed c (suc i)) (λ c. (wiring s n).rates.consumed c i)
      (λ c. get_or (takes_at i) c 0) ins
      (λ p l. let at = net.wired.ins_are a p known l in
      ap ((wiring s n).rates.consumed (get_or ins p 0)) (sym (add-one i))
      ∙ (plan i).taken (get_or ins p 0) at.0 at.1) in
      let turn : total_in s x ((0 + i) % s.cycle x) ≡ total_in s x (i % s.cycle x) =
      ap (λ v. total_in s x (v % s.cycle x)) (let v : 0 + i ≡ i = omega arith in v) in
      omega (arith, sums_in i, split, turn, in_is i)

  pub sums_out : (i : ℕ) → sum_out s x 0 i ≡ sum_by (λ c. (wiring s n).rates.produced c i) outs
  sums_out zero = sym (sum_none (λ c. (wiring s n).rates.produced c 0) outs
      (λ p l. net.wired.sound.produced_none (get_or outs p 0)))
  sums_out (suc i) =
      let split = sum_split (λ c. (wiring s n).rates.produced c (suc i)) (λ c. (wiring s n).rates.produced c i)
      (λ c. get_or (puts_at i) c 0) outs
      (λ p l. let at = net.wired.outs_are a p known l in
      ap ((wiring s n).rates.produced (get_or outs p 0)) (sym (add-one i))
      ∙ (plan i).put (get_or outs p 0) at.0 at.1) in
      let turn : total_out s x ((0 + i) % s.cycle x) ≡ total_out s x (i % s.cycle x) =
      ap (λ v. total_out s x (v % s.cycle x)) (let v : 0 + i ≡ i = omega arith in v) in
      omega (arith, sums_out i, split, turn, out_is i)

  abbrev pub size_in : ℕ
  size_in = sum_by (λ c. get_or y.takes.items c 0) ins

  abbrev pub size_out : ℕ
  size_out = sum_by (λ c. get_or y.puts.items c 0) outs

  -- so many cycles take so many times the block of one
  pub all_in : (t : ℕ) → t * size_in ≡ sum_in s x 0 (t * s.cycle x)
  all_in t = sym (sums_in (t * s.cycle x) ∙
      (sum_same (λ c. (wiring s n).rates.consumed c (t * s.cycle x)) (λ c. t * get_or y.takes.items c 0) ins
      (λ p l. let at = net.wired.ins_are a p known l in taken_by (get_or ins p 0) at.0 at.1 t)
      ∙ sum_scaled t (λ c. get_or y.takes.items c 0) ins))

  pub all_out : (t : ℕ) → t * size_out ≡ sum_out s x 0 (t * s.cycle x)
  all_out t = sym (sums_out (t * s.cycle x) ∙
      (sum_same (λ c. (wiring s n).rates.produced c (t * s.cycle x)) (λ c. t * get_or y.puts.items c 0) outs
      (λ p l. let at = net.wired.outs_are a p known l in put_by (get_or outs p 0) at.0 at.1 t)
      ∙ sum_scaled t (λ c. get_or y.puts.items c 0) outs))

  -- and put as many samples as their blocks have
  pub put_ahead : (t : ℕ) → sum_by (λ c. (wiring s n).rates.produced c (t * s.cycle x + s.cycle x)) outs ≡
      sum_by (λ c. (wiring s n).rates.produced c (t * s.cycle x)) outs + size_out
  put_ahead t =
      sum_split (λ c. (wiring s n).rates.produced c (t * s.cycle x + s.cycle x))
      (λ c. (wiring s n).rates.produced c (t * s.cycle x)) (λ c. get_or y.puts.items c 0) outs
      (λ p l. let at = net.wired.outs_are a p known l in
      let one = put_by (get_or outs p 0) at.0 at.1 1 in
      let single : (wiring s n).rates.produced (get_or outs p 0) (1 * s.cycle x) ≡
      (wiring s n).rates.produced (get_or outs p 0) (s.cycle x) =
      ap ((wiring s n).rates.produced (get_or outs p 0)) (let v : 1 * s.cycle x ≡ s.cycle x = omega arith in v) in
      omega (arith, ahead_out (t * s.cycle x) (begins t) (get_or outs p 0) at.0 at.1 (s.cycle x), one, single))
