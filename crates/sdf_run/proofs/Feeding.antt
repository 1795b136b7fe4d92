-- Feeds of a session, one after another.
use Rattle.std.proofs.Common.{◌≡◌, ℕ, zero, suc, ◌+◌, ◌*◌, ◌/◌, ◌%◌, ◌≤◌, ◌<◌, List, [], ◌∷◌, ◌++◌, length, get_or}
use Rattle.std.proofs.Common.{Some, None, refl, sym, ap, ◌∙◌, subst, arith, length-append}
use Rattle.std.specs.List.{flat_map, sum_by}
use Rattle.std.proofs.lemmas.List.{append-nil, append_assoc, get_or_default, same_lists}
use Rattle.std.proofs.lemmas.List.Sums.{sum_by-cons}
use Rattle.std.proofs.lemmas.Nat.{div-mul-add, mod-mul-add}
use Rattle.sdf_graph.specs.Rates.{rates}
use Rattle.sdf_sched.specs.Period.{Schedule, IsPeriodOf}
use Rattle.sdf_prec.specs.Tables.{TableValue}
use Rattle.sdf_actor.specs.Graphs.{graph_of}
use Rattle.sdf_actor.specs.Nets.{Netlist}
use Rattle.sdf_actor.specs.NetStates.{IsNetState, AreJoined}
use Rattle.sdf_actor.specs.Sides.{list_count, period_samples}
use Rattle.sdf_actor.specs.Steps.{Steps}
use Rattle.sdf_actor.specs.declared.net_state.NetState.{NetState}
use Rattle.sdf_actor.specs.declared.sides.Lists.TheVariants.{Inputs, Outputs}
use Rattle.sdf_queues.specs.RunResults.{HasInputs, periods_of, IsRunFault}
use Rattle.sdf_queues.specs.Feeds.{HasRun, AreFull, GoesOnBy}
use Rattle.sdf_prec.specs.BlockTables.{IsTableOf}
use Rattle.sdf_queues.specs.declared.fault.RunFault.{RunFault}
use Rattle.sdf_queues.specs.declared.fault.RunFault.TheVariants.{OutOfMemory, InputLength, NotHomed, Patience, NoWorker}
use Rattle.sdf_queues.specs.declared.fault.RunFault.TheVariants.{SessionFailed}
use Rattle.sdf_one.proofs.Theorems.{no_period_runs}
use Rattle.sdf_run.specs.declared.mode.Mode.{Mode}
use Rattle.sdf_run.specs.Sessions.{AreBlocks, AreNone, SessionValue, MayRun, HasRounds, counted, IsLive, FeedsBlocks}
use Rattle.sdf_run.specs.Sessions.{StandsAfter, IsSession, HasFed, IsFeedFault, after_fault, Feed, FeedsAreOneRun}

-- each list with the one of its number behind it
abbrev pub join : {T : Type 0} → List (List T) → List (List T) → List (List T)
join [] ys = []
join (x ∷ xs) [] = x ∷ join xs []
join (x ∷ xs) (y ∷ ys) = (x ++ y) ∷ join xs ys

pub joined_is : {T : Type 0} (xs ys : List (List T)) → length ys ≤ length xs → AreJoined xs ys (join xs ys)
joined_is [] [] h e = refl
joined_is [] (y ∷ ys) h e = absurd (omega arith)
joined_is (x ∷ xs) [] h zero = sym (append-nil x)
joined_is (x ∷ xs) [] h (suc e) = joined_is xs [] (omega arith) e
joined_is (x ∷ xs) (y ∷ ys) h zero = refl
joined_is (x ∷ xs) (y ∷ ys) h (suc e) = joined_is xs ys (omega arith) e

pub joined_long : {T : Type 0} (xs ys : List (List T)) → length (join xs ys) ≡ length xs
joined_long [] ys = refl
joined_long (x ∷ xs) [] = ap suc (joined_long xs [])
joined_long (x ∷ xs) (y ∷ ys) = ap suc (joined_long xs ys)

-- lists of all samples of so many periods, and no more, are what these read
pub given_of : {A T : Type 0} (n : Netlist A T) (q : List ℕ) (periods : ℕ) (inputs : List (List T)) →
    length inputs ≡ list_count Inputs n.nodes → AreFull n q periods inputs → HasInputs n q periods inputs
given_of n q periods inputs count full = record {
  count = count;
  even = λ e l. full e l ∙ sym (full 0 (omega arith));
  enough = λ e l. (let each = full e l in omega arith);
}

-- blocks are what their periods read
module _ {A T : Type 0} (n : Netlist A T) (q : List ℕ) (j blocks : ℕ) (inputs : List (List T))
    (are : AreBlocks (list_count Inputs n.nodes) (j * period_samples n.nodes Inputs q) blocks inputs) where
  pub blocks_full : AreFull n q (blocks * j) inputs
  blocks_full e l = are.each e l ∙ (let same : blocks * (j * period_samples n.nodes Inputs q) ≡
      blocks * j * period_samples n.nodes Inputs q = omega arith in same)

  pub blocks_given : HasInputs n q (blocks * j) inputs
  blocks_given = given_of n q (blocks * j) inputs are.count blocks_full

some_is : {X : Type 0} (x y : X) → Some x ≡ Some y → x ≡ y
some_is x y e = let same : Some x ≡ Some y = e in cc

-- lists without a sample
abbrev pub blank : {T : Type 0} → ℕ → List (List T)
blank zero = []
blank (suc k) = [] ∷ blank k

blank_at : (T : Type 0) (k e : ℕ) → get_or (blank {T = T} k) e [] ≡ []
blank_at T zero e = refl
blank_at T (suc k) zero = refl
blank_at T (suc k) (suc e) = blank_at T k e

blank_long : (T : Type 0) (k : ℕ) → length (blank {T = T} k) ≡ k
blank_long T zero = refl
blank_long T (suc k) = ap suc (blank_long T k)

blank_are : (T : Type 0) (k : ℕ) → AreNone k (blank {T = T} k)
blank_are T k = record { count = blank_long T k; each = blank_at T k }

-- a session that was fed nothing
module _ {A S T : Type 0} (s : Steps A S T) (n : Netlist A T) (p : Schedule) (j : ℕ) (t : TableValue) (mode : Mode)
    (rest : NetState T S) (first : (inputs : List (List T)) → IsNetState s n inputs (λ _. 0) rest) where
  abbrev opened : SessionValue A S T
  opened = record {
    net = n;
    period = p;
    blocking = j;
    table = t;
    mode = mode;
    rest = Some rest;
    blocks = 0;
    rounds = 0;
  }

  pub stands_first : (fed made : List (List T)) → AreNone (list_count Inputs n.nodes) fed →
      AreNone (list_count Outputs n.nodes) made → StandsAfter s opened 0 fed made
  stands_first fed made fed_none made_none =
      let full : AreFull n p.repetitions (0 * j) fed =
      λ e l. ap length (fed_none.each e) ∙ (let z : 0 ≡ 0 * j * period_samples n.nodes Inputs p.repetitions =
      omega arith in z) in
      let given : HasInputs n p.repetitions (0 * j) fed = given_of n p.repetitions (0 * j) fed fed_none.count full in
      record {
        given = given;
        full = full;
        rest = rest;
        held = refl;
        run = subst (λ k. HasRun s n fed (periods_of p.repetitions k) made rest)
            (let z : 0 ≡ 0 * j = omega arith in z) (no_period_runs s n p.repetitions fed made rest
            made_none.count made_none.each (first fed));
      }

  pub session_first : IsPeriodOf (rates (graph_of s n)) p → IsTableOf (rates (graph_of s n)) p.repetitions j t →
      MayRun t mode → IsSession s opened
  session_first period table may = record {
    period = period;
    table = table;
    may = may;
    stands = λ live. (
      0,
      blank (list_count Inputs n.nodes),
      blank (list_count Outputs n.nodes),
      stands_first (blank (list_count Inputs n.nodes)) (blank (list_count Outputs n.nodes))
          (blank_are T (list_count Inputs n.nodes)) (blank_are T (list_count Outputs n.nodes)),
    );
  }

-- where it stands after some lists, its net state is what they leave
pub rest_of : {A S T : Type 0} (s : Steps A S T) (v : SessionValue A S T) (old : NetState T S) → v.rest ≡ Some old →
    (few : ℕ) (fed made : List (List T)) → StandsAfter s v few fed made →
    IsNetState s v.net fed (periods_of v.period.repetitions (few * v.blocking)) old
rest_of s v old held few fed made stood =
    subst (λ r. IsNetState s v.net fed (periods_of v.period.repetitions (few * v.blocking)) r)
    (some_is stood.rest old (sym stood.held ∙ held))
    (record { history = stood.run.history; is = stood.run.is; left = stood.run.left })

-- so many lists of that length are blocks for it
pub blocks_same : {T : Type 0} (many count j each samples blocks : ℕ) (inputs : List (List T)) → many ≡ count →
    each ≡ samples → AreBlocks many (j * each) blocks inputs ≡ AreBlocks count (j * samples) blocks inputs
blocks_same many count j each samples blocks inputs many_is each_is =
    λ κ. AreBlocks (many_is κ) (j * each_is κ) blocks inputs

-- a run of blocks fails by memory alone
pub feed_fault : {A S T : Type 0} (v : SessionValue A S T) (blocks : ℕ) (inputs : List (List T)) → IsLive v →
    FeedsBlocks v blocks inputs → (fault : RunFault) →
    IsRunFault v.net v.period.repetitions (blocks * v.blocking) inputs fault →
    IsFeedFault v inputs fault × (record v { rest = None } ≡ after_fault v fault)
feed_fault v blocks inputs live are OutOfMemory why = ((live, (blocks, are)), refl)
feed_fault v blocks inputs live are InputLength why =
    absurd (why (blocks_given v.net v.period.repetitions v.blocking blocks inputs are))
feed_fault v blocks inputs live are NotHomed why = absurd why
feed_fault v blocks inputs live are Patience why = absurd why
feed_fault v blocks inputs live are NoWorker why = absurd why
feed_fault v blocks inputs live are SessionFailed why = absurd why

module _ {A S T : Type 0} (s : Steps A S T) (v : SessionValue A S T) (old last : NetState T S)
    (held : v.rest ≡ Some old)
    (blocks : ℕ) (fed made : List (List T)) (are : FeedsBlocks v blocks fed)
    (on : GoesOnBy s v.net v.period.repetitions old (blocks * v.blocking) fed made last) where
  abbrev q : List ℕ
  q = v.period.repetitions

  -- it stands after what it stood after and these
  pub stands_on : (seen rounds few : ℕ) (first all before joined : List (List T)) → StandsAfter s v few first before →
      AreJoined first fed all → length all ≡ length first → AreJoined before made joined →
      length joined ≡ length before →
      StandsAfter s (record v { rest = Some last; blocks = seen; rounds = rounds }) (few + blocks) all joined
  stands_on seen rounds few first all before joined stood all_are all_long joined_are joined_long =
      let sum : few * v.blocking + blocks * v.blocking ≡ (few + blocks) * v.blocking = omega arith in
      let same : stood.rest ≡ old = some_is stood.rest old (sym stood.held ∙ held) in
      let before_is : HasRun s v.net first (periods_of q (few * v.blocking)) before old =
      subst (λ r. HasRun s v.net first (periods_of q (few * v.blocking)) before r) same stood.run in
      let run : HasRun s v.net all (periods_of q (few * v.blocking + blocks * v.blocking)) joined last =
      on.runs (few * v.blocking) first all before joined stood.given stood.full before_is all_are
      joined_are joined_long in
      let full : AreFull v.net q ((few + blocks) * v.blocking) all = λ e l.
      ap length (all_are e) ∙ (length-append (get_or first e []) (get_or fed e []) ∙ (
      let one : length (get_or first e []) ≡ few * v.blocking * period_samples v.net.nodes Inputs q =
      stood.full e (omega (arith, all_long)) in
      let other : length (get_or fed e []) ≡ blocks * v.blocking * period_samples v.net.nodes Inputs q =
      blocks_full v.net q v.blocking blocks fed are e (omega (arith, all_long, stood.given.count, are.count)) in
      let split : few * v.blocking * period_samples v.net.nodes Inputs q
      + blocks * v.blocking * period_samples v.net.nodes Inputs q ≡
      (few + blocks) * v.blocking * period_samples v.net.nodes Inputs q = omega arith in
      omega (arith, one, other, split))) in
      record {
        given = given_of v.net q ((few + blocks) * v.blocking) all (all_long ∙ stood.given.count) full;
        full = full;
        rest = last;
        held = refl;
        run = subst (λ p. HasRun s v.net all (periods_of q p) joined last) sum run;
      }

  -- so it stands after some lists, where it did
  pub stands_still : (seen rounds : ℕ) → ((few : ℕ) × (first : List (List T)) × (before : List (List T))
      × StandsAfter s v few first before) →
      (few : ℕ) × (first : List (List T)) × (before : List (List T))
      × StandsAfter s (record v { rest = Some last; blocks = seen; rounds = rounds }) few first before
  stands_still seen rounds (few, first, before, stood) =
      let fed_few : length fed ≤ length first = omega (arith, are.count, stood.given.count) in
      let made_few : length made ≤ length before = omega (arith, on.count, stood.run.count) in (
        few + blocks,
        join first fed,
        join before made,
        stands_on seen rounds few first (join first fed) before (join before made) stood (joined_is first fed fed_few)
            (joined_long first fed) (joined_is before made made_few) (joined_long before made),
      )

-- what a feed does
pub has_fed : {A S T : Type 0} (s : Steps A S T) (v : SessionValue A S T) (old last : NetState T S) →
    v.rest ≡ Some old →
    (blocks rounds seen taken : ℕ) (fed made : List (List T)) → FeedsBlocks v blocks fed →
    GoesOnBy s v.net v.period.repetitions old (blocks * v.blocking) fed made last →
    HasRounds v.table v.period.repetitions v.blocking v.mode blocks rounds →
    seen ≡ counted (v.blocks + blocks) → taken ≡ counted (v.rounds + rounds) →
    HasFed s v (record v { rest = Some last; blocks = seen; rounds = taken }) blocks fed made rounds
has_fed s v old last held blocks rounds seen taken fed made are on rounds_are seen_is taken_is = record {
  live = (old, held);
  whole = are;
  count = on.count;
  taken = rounds_are;
  rest = last;
  now = λ κ. record v { rest = Some last; blocks = seen_is κ; rounds = taken_is κ };
  stands = stands_on s v old last held blocks fed made are on seen taken;
}

same_all : {T : Type 0} (xs ys : List (List T)) → length xs ≡ length ys → ((e : ℕ) → get_or xs e [] ≡ get_or ys e []) →
    xs ≡ ys
same_all xs ys long each =
    same_lists xs ys long (λ e d h. get_or_default xs e d [] h
    ∙ (each e ∙ sym (get_or_default ys e d [] (omega (arith, long, h)))))

-- feed after feed
pub one_run : {A S T : Type 0} (s : Steps A S T) → FeedsAreOneRun s
one_run {A} {S} {T} s v w few first before all joined [] stood is all_long all_are joined_long joined_are =
    let all_is : all ≡ first = same_all all first all_long (λ e. all_are e ∙ append-nil (get_or first e [])) in
    let joined_is : joined ≡ before = same_all joined before joined_long
    (λ e. joined_are e ∙ append-nil (get_or before e [])) in
    subst (λ u. StandsAfter s u (few + 0) all joined) (sym is)
    (subst (λ xs. StandsAfter s v (few + 0) xs joined) (sym all_is)
    (subst (λ ys. StandsAfter s v (few + 0) first ys) (sym joined_is)
    (subst (λ m. StandsAfter s v m first before) (let e : few ≡ few + 0 = omega arith in e) stood)))
one_run {A} {S} {T} s v w few first before all joined (f ∷ feeds) stood (u, one, more) all_long all_are
    made_long made_are =
    let fed_few : length f.fed ≤ length first = omega (arith, one.whole.count, stood.given.count) in
    let made_few : length f.made ≤ length before = omega (arith, one.count, stood.run.count) in
    let now : StandsAfter s u (few + f.blocks) (join first f.fed) (join before f.made) =
    one.stands few first (join first f.fed) before (join before f.made) stood (joined_is first f.fed fed_few)
    (joined_long first f.fed) (joined_is before f.made made_few) (joined_long before f.made) in
    let last : StandsAfter s w (few + f.blocks + sum_by (λ (g : Feed T). g.blocks) feeds) all joined =
    one_run s u w (few + f.blocks) (join first f.fed) (join before f.made) all joined feeds now more
    (all_long ∙ sym (joined_long first f.fed))
    (λ e. all_are e ∙ behind (get_or first e []) (get_or f.fed e [])
    (flat_map (λ (g : Feed T). get_or g.fed e []) feeds) (get_or (join first f.fed) e [])
    (joined_is first f.fed fed_few e))
    (made_long ∙ sym (joined_long before f.made))
    (λ e. made_are e ∙ behind (get_or before e []) (get_or f.made e [])
    (flat_map (λ (g : Feed T). get_or g.made e []) feeds) (get_or (join before f.made) e [])
    (joined_is before f.made made_few e)) in
    let many : few + f.blocks + sum_by (λ (g : Feed T). g.blocks) feeds ≡
    few + sum_by (λ (g : Feed T). g.blocks) (f ∷ feeds) =
    omega (arith, sum_by-cons (λ (g : Feed T). g.blocks) f feeds) in
    subst (λ m. StandsAfter s w m all joined) many last
  where
    behind : (x y z xy : List T) → xy ≡ x ++ y → x ++ (y ++ z) ≡ xy ++ z
    behind x y z xy is = sym (append_assoc x y z) ∙ ap (λ l. l ++ z) (sym is)

-- a first list of so many blocks says how many
pub block_count : {T : Type 0} (many samples blocks : ℕ) (inputs : List (List T)) (first : List T) → 0 < many →
    0 < samples → AreBlocks many samples blocks inputs → get_or inputs 0 [] ≡ first →
    (length first % samples ≡ 0) × (length first / samples ≡ blocks)
block_count many samples blocks inputs first some sized are is =
    let long : length first ≡ blocks * samples + 0 =
    ap length (sym is) ∙ (are.each 0 (omega (arith, are.count)) ∙
    (let e : blocks * samples ≡ blocks * samples + 0 = omega arith in e)) in (
      ap (λ n. n % samples) long ∙ mod-mul-add blocks samples 0 sized,
      ap (λ n. n / samples) long ∙ div-mul-add blocks samples 0 sized,
    )
