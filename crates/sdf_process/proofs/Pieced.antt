-- What a run that goes on makes of the next blocks of a sound, behind what it made before.
use Rattle.std.proofs.Common.{◌≡◌, ℕ, zero, suc, ◌+◌, ◌*◌, ◌<◌, ℤ, List, [], ◌∷◌, ◌++◌}
use Rattle.std.proofs.Common.{length, get_or, Option, Some, refl, sym, ap, ◌∙◌, subst, arith}
use Rattle.sdf_actor.specs.declared.net_state.NetState.{NetState}
use Rattle.sdf_actor.specs.declared.sides.Lists.TheVariants.{Inputs, Outputs}
use Rattle.sdf_actor.specs.Nets.{Netlist, IsNet}
use Rattle.sdf_actor.specs.NetStates.{AreJoined, IsNetState}
use Rattle.sdf_actor.specs.Sides.{list_count}
use Rattle.sdf_queues.specs.RunResults.{AreOutputs, HasInputs, periods_of as firings}
use Rattle.sdf_queues.specs.Feeds.{GoesOnBy, HasRun}
use Rattle.sdf_queues.specs.Periods.{HasPeriod}
use Rattle.sdf_queues.proofs.Theorems.{nothing_runs}
use Rattle.sdf_kit.specs.declared.kit.Kit.{Kit}
use Rattle.sdf_kit.specs.Kit.{kit_steps}
use Rattle.sdf_sched.specs.Period.{Schedule}
use Rattle.sdf_parallel.specs.Cuts.{join}
use Rattle.sdf_parallel.proofs.Theorems.{joined_is, joined_long}
use Rattle.sdf_wav.specs.Canonical.{sample_bytes}
use Rattle.sdf_wav.specs.Sound.{Sound}
use Rattle.sdf_process.specs.declared.io_rates.IoRates.{IoRates}
use Rattle.sdf_process.specs.declared.player.Player.{Player}
use Rattle.sdf_process.specs.declared.portion.Portion.{Portion}
use Rattle.sdf_process.specs.Output.{io_rates_of, in_turn, interleaved, lists_from, lists_to}
use Rattle.sdf_process.specs.Streams.{AreWhole, Follows, Makes, PlaysBy, StandsAt, StandsWhole, StaysPlayer}
use Rattle.sdf_process.proofs.InTurn.{in_turn_more}
use Rattle.sdf_process.proofs.Played.{frames_on_join, lists_full, lists_joined, made_long}
use Rattle.sdf_process.proofs.Refusals.{some_same}
use Rattle.sdf_process.proofs.Rendering.{are_inputs, list_length}
use Rattle.sdf_process.proofs.Sounds.{length-interleaved}
use Rattle.sdf_process.proofs.Texts.{bytes_append}

-- what a run made
pub outputs_of : (n : Netlist Kit ℤ) (inputs : List (List ℤ)) (k : ℕ → ℕ) (made : List (List ℤ))
    (rest : NetState ℤ (List ℤ)) → HasRun kit_steps n inputs k made rest → AreOutputs kit_steps n inputs k made
outputs_of n inputs k made rest run = record { history = run.history; is = run.is; count = run.count; each = run.each }

-- lists without a sample
abbrev pub blank : ℕ → List (List ℤ)
blank zero = []
blank (suc k) = [] ∷ blank k

pub blank_at : (k e : ℕ) → get_or (blank k) e [] ≡ []
blank_at zero e = refl
blank_at (suc k) zero = refl
blank_at (suc k) (suc e) = blank_at k e

pub blank_long : (k : ℕ) → length (blank k) ≡ k
blank_long zero = refl
blank_long (suc k) = ap suc (blank_long k)

-- nothing was run
pub first_stands : (n : Netlist Kit ℤ) (p : Schedule) (rest : NetState ℤ (List ℤ)) →
    IsNet kit_steps n → 0 < list_count Inputs n.nodes → 0 < (io_rates_of n p.repetitions).taken →
    ((inputs : List (List ℤ)) → IsNetState kit_steps n inputs (λ _. 0) rest) → (s : Sound) →
    StandsAt n p 1 s 0 0 [] (Some rest)
first_stands n p rest good some sized first s = record {
  made = blank (list_count Outputs n.nodes);
  rest = rest;
  held = refl;
  run = nothing_runs kit_steps n p.repetitions (0 * 1) (lists_to (0 * 1) (io_rates_of n p.repetitions) s)
      (blank (list_count Outputs n.nodes)) rest good given (omega (arith, given.count, some)) sized empty
      (blank_long (list_count Outputs n.nodes)) (λ e l. blank_at (list_count Outputs n.nodes) e)
      (first (lists_to (0 * 1) (io_rates_of n p.repetitions) s));
  bytes_are = refl;
}
  where
    given : HasInputs n p.repetitions (0 * 1) (lists_to (0 * 1) (io_rates_of n p.repetitions) s)
    given = are_inputs n p.repetitions s (0 * 1)

    empty : length (get_or (lists_to (0 * 1) (io_rates_of n p.repetitions) s) 0 []) ≡ 0
    empty = omega (
      arith,
      list_length (0 * 1) (io_rates_of n p.repetitions) s 0 (omega (arith, given.count, some)),
    )

-- ---- the next blocks

-- they were run behind the first `few`: the lists that both runs made, and the net state after them
pub record AreRun (n : Netlist Kit ℤ) (p : Schedule) (j : ℕ) (s : Sound) (few blocks : ℕ) (bytes : List ℕ)
    (left : Option (NetState ℤ (List ℤ))) (on : List (List ℤ)) (last : NetState ℤ (List ℤ)) : Type 0 where
  pub stands : StandsWhole n p j s few bytes left
  pub count : length on ≡ list_count Outputs n.nodes
  pub run : HasRun kit_steps n (lists_to ((few + blocks) * j) (io_rates_of n p.repetitions) s)
      (firings p.repetitions ((few + blocks) * j)) (join stands.made on) last

module _ {n : Netlist Kit ℤ} {p : Schedule} {j : ℕ} {s : Sound} {few blocks : ℕ} {bytes : List ℕ}
    {left : Option (NetState ℤ (List ℤ))} {on : List (List ℤ)} {last : NetState ℤ (List ℤ)}
    (has : HasPeriod kit_steps n p)
    (are : AreRun n p j s few blocks bytes left on last) (now : Option (NetState ℤ (List ℤ)))
    (is : now ≡ Some last) where
  abbrev x : IoRates
  x = io_rates_of n p.repetitions

  abbrev made : List (List ℤ)
  made = are.stands.made

  stands_on_by : (frames : ℕ) → StandsAt n p j s (few + blocks) (few * j * x.made + frames)
      (bytes ++ sample_bytes (interleaved frames on)) now
  stands_on_by frames =
      let same : length made ≡ length on = are.stands.run.count ∙ sym are.count in
      record {
        made = join made on;
        rest = last;
        held = is;
        run = are.run;
        bytes_are = ap (λ (b : List ℕ). b ++ sample_bytes (interleaved frames on)) are.stands.bytes_are
            ∙ (sym (bytes_append (interleaved (few * j * x.made) made) (interleaved frames on))
            ∙ ap sample_bytes (sym (frames_on_join (few * j * x.made) frames made on
            (made_long kit_steps n p has (few * j) (lists_to (few * j) x s) made
            (are_inputs n p.repetitions s (few * j))
            (outputs_of n (lists_to (few * j) x s) (firings p.repetitions (few * j)) made are.stands.rest
            are.stands.run)) same)));
      }

  -- frames of what was made on
  pub blocks_made : (frames : ℕ) (lists : List (List ℤ)) → in_turn lists ≡ interleaved frames on →
      AreWhole x.outputs frames lists → Makes n p j s few blocks frames bytes lists now
  blocks_made frames lists same whole = record {
    stands = subst (λ (l : List ℤ). StandsAt n p j s (few + blocks) (few * j * x.made + frames)
        (bytes ++ sample_bytes l) now) (sym same) (stands_on_by frames);
    whole = whole;
  }

-- frames in one list
pub one_list : (outputs frames : ℕ) (on : List (List ℤ)) (list : List ℤ) → list ≡ interleaved frames on →
    length on ≡ outputs →
    (in_turn (list ∷ []) ≡ interleaved frames on) × AreWhole outputs frames (list ∷ [])
one_list outputs frames on list is count =
    let all : in_turn (list ∷ []) ≡ list = in_turn_more [] list in
    let long : length list ≡ frames * outputs =
    ap length is ∙ (length-interleaved frames on ∙ ap (λ (k : ℕ). frames * k) count) in (
      all ∙ is,
      record { each = each long; all = ap length all ∙ long },
    )
  where
    each : length list ≡ frames * outputs → (i : ℕ) → i < 1 →
        (k : ℕ) × (length (get_or (list ∷ []) i []) ≡ k * outputs)
    each long zero l = (frames, long)
    each long (suc i) l = absurd (omega (arith, l))

-- ---- a player goes on

-- what is said of a net and a period, said of those that a player plays, and back
module _ (n : Netlist Kit ℤ) (p : Schedule) (j : ℕ) (v : Player) (by : PlaysBy n p j v)
    (P : Netlist Kit ℤ → Schedule → Type 0) where
  pub to_player : P n p → P v.net.now v.period.now
  to_player h = subst (λ (m : Netlist Kit ℤ). P m v.period.now) (sym by.net) (subst (P n) (sym by.period) h)

  pub from_player : P v.net.now v.period.now → P n p
  from_player h = subst (P n) by.period (subst (λ (m : Netlist Kit ℤ). P m v.period.now) by.net h)

-- and it plays on by the same net
pub plays_still : (n : Netlist Kit ℤ) (p : Schedule) (j : ℕ) (v w : Player) → PlaysBy n p j v → StaysPlayer v w →
    PlaysBy n p j w
plays_still n p j v w by (net, period, cut) = record {
  player = record { period = rw (net, period) by.player.period; cut = rw (net, period, cut) by.player.cut };
  net = ap (λ (z : _). z.now) net ∙ by.net;
  period = ap (λ (z : _). z.now) period ∙ by.period;
  single = by.single;
}

-- what it holds is what the run before left
pub held_is : {n : Netlist Kit ℤ} {p : Schedule} {j : ℕ} {s : Sound} {few frames : ℕ} {bytes : List ℕ}
    {rest : NetState ℤ (List ℤ)} (at : StandsAt n p j s few frames bytes (Some rest)) →
    HasRun kit_steps n (lists_to (few * j) (io_rates_of n p.repetitions) s) (firings p.repetitions (few * j)) at.made
    rest
held_is {n} {p} {j} {s} {few} {frames} {bytes} {rest} at =
    subst (HasRun kit_steps n (lists_to (few * j) (io_rates_of n p.repetitions) s)
    (firings p.repetitions (few * j)) at.made) (sym (some_same rest at.rest at.held)) at.run

-- it goes on by what the portion's own I/O rates read
pub portion_as : (n : Netlist Kit ℤ) (p : Schedule) (y : Portion) → y.io ≡ io_rates_of n p.repetitions →
    (rest : NetState ℤ (List ℤ)) (on : List (List ℤ)) (last : NetState ℤ (List ℤ)) →
    GoesOnBy kit_steps n p.repetitions rest y.periods (lists_from 0 y.periods y.io y.input.now) on last →
    GoesOnBy kit_steps n p.repetitions rest y.periods
    (lists_from 0 y.periods (io_rates_of n p.repetitions) y.input.now) on last
portion_as n p y is rest on last goes =
    subst (λ (x : IoRates). GoesOnBy kit_steps n p.repetitions rest y.periods (lists_from 0 y.periods x y.input.now) on
    last) is goes

-- the run before and the one on the portion are one run
module _ {n : Netlist Kit ℤ} {p : Schedule} {j : ℕ} {s : Sound} {few blocks : ℕ} {bytes : List ℕ}
    {rest last : NetState ℤ (List ℤ)} {y : Portion} {on : List (List ℤ)}
    (follows : Follows n p j s few blocks bytes (Some rest) y)
    (goes : GoesOnBy kit_steps n p.repetitions rest y.periods (lists_from 0 y.periods (io_rates_of n p.repetitions)
    y.input.now) on last) where
  abbrev e : IoRates
  e = io_rates_of n p.repetitions

  abbrev before : List (List ℤ)
  before = follows.stands.made

  all : few * j + y.periods ≡ (few + blocks) * j
  all = ap (λ (k : ℕ). few * j + k) follows.periods
      ∙ (let z : few * j + blocks * j ≡ (few + blocks) * j = omega arith in z)

  joined : AreJoined (lists_to (few * j) e s) (lists_from 0 y.periods e y.input.now) (lists_to ((few + blocks) * j) e s)
  joined = subst (λ (g : List (List ℤ)). AreJoined (lists_to (few * j) e s) g (lists_to ((few + blocks) * j) e s))
      follows.lists
      (subst (λ (k : ℕ). AreJoined (lists_to (few * j) e s) (lists_from (few * j) y.periods e s) (lists_to k e s)) all
      (lists_joined (few * j) y.periods e s))

  same : length before ≡ length on
  same = follows.stands.run.count ∙ sym goes.count

  one_run : HasRun kit_steps n (lists_to ((few + blocks) * j) e s) (firings p.repetitions ((few + blocks) * j))
      (join before on) last
  one_run =
      subst (λ (k : ℕ). HasRun kit_steps n (lists_to ((few + blocks) * j) e s) (firings p.repetitions k)
      (join before on) last) all
      (goes.runs (few * j) (lists_to (few * j) e s) (lists_to ((few + blocks) * j) e s) before (join before on)
      (are_inputs n p.repetitions s (few * j)) (lists_full n p.repetitions (few * j) s) (held_is follows.stands) joined
      (joined_is before on (omega (arith, same))) (joined_long before on))

  pub plays_on : AreRun n p j s few blocks bytes (Some rest) on last
  plays_on = record { stands = follows.stands; count = goes.count; run = one_run }
