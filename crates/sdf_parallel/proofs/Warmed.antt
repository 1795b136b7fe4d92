-- What a run from the start leaves after its warm-up.
use Rattle.std.proofs.Common.{◌≡◌, ℕ, ◌+◌, ◌-◌, ◌≤◌, List, [], ◌++◌, length, get_or, replicate, sym, subst, ap}
use Rattle.std.proofs.Common.{◌∙◌, ⊎_elim, arith, zero-mul}
use Rattle.std.proofs.lemmas.Bool.{cases_lt}
use Rattle.std.proofs.lemmas.List.{length-replicate, get_or-replicate, get_or_past}
use Rattle.sdf_actor.specs.declared.net_state.NetState.{NetState}
use Rattle.sdf_actor.specs.declared.sides.Lists.TheVariants.{Outputs}
use Rattle.sdf_actor.specs.Nets.{Netlist}
use Rattle.sdf_actor.specs.NetStates.{IsNetState}
use Rattle.sdf_actor.specs.Sides.{list_count}
use Rattle.sdf_actor.specs.Steps.{Steps}
use Rattle.sdf_queues.specs.RunResults.{HasInputs, periods_of}
use Rattle.sdf_queues.specs.Feeds.{HasRun, AreFull, GoesOnBy}
use Rattle.sdf_one.proofs.Theorems.{no_period_runs}
use Rattle.sdf_parallel.specs.Parts.{read_by, IsWarmedUp}
use Rattle.sdf_parallel.proofs.Cutting.{reads_join, are_given, are_full}

abbrev pub blank : {T : Type 0} → ℕ → List (List T)
blank count = replicate count []

pub blank_at : {T : Type 0} (count e : ℕ) → ◌≡◌ {A = List T} (get_or (blank count) e []) []
blank_at {T = T} count e = ⊎_elim
    (λ l. get_or-replicate count e [] [] l)
    (λ past. get_or_past (blank {T = T} count) e []
    (let long : length (blank {T = T} count) ≡ count = length-replicate count [] in omega (arith, long)))
    (cases_lt e count)

-- no period leaves what no firing leaves
pub unfired : {A S T : Type 0} (s : Steps A S T) (n : Netlist A T) (q : List ℕ) (given : List (List T))
    (first : NetState T S) → IsNetState s n given (λ _. 0) first → IsNetState s n given (periods_of q 0) first
unfired s n q given first is = subst (λ k. IsNetState s n given k first) (λ κ a. sym (zero-mul (get_or q a 0)) κ) is

pub warmed : {A S T : Type 0} (s : Steps A S T) (n : Netlist A T) (q : List ℕ) (inputs : List (List T))
    (periods warm from : ℕ) → HasInputs n q periods inputs → AreFull n q periods inputs → warm ≤ from →
    from ≤ periods → (first : NetState T S) → ((given : List (List T)) → IsNetState s n given (λ _. 0) first) →
    (on : List (List T)) (last : NetState T S) →
    GoesOnBy s n q first (from - (from - warm)) (read_by n q inputs (from - warm) from) on last →
    IsWarmedUp s n q inputs warm from last
warmed {A = A} {S = S} {T = T} s n q inputs periods warm from given full before within first is on last goes =
    let f : ℕ = from - warm in
    let none : List (List T) = read_by n q inputs f f in
    let made : List (List T) = blank (list_count Outputs n.nodes) in
    let zero : f - f ≡ 0 = omega arith in
    let none_given : HasInputs n q 0 none = subst (λ k. HasInputs n q k none) zero
    (are_given n q inputs periods given full f f (omega arith) (omega arith)) in
    let none_full : AreFull n q 0 none = subst (λ k. AreFull n q k none) zero
    (are_full n q inputs periods given full f f (omega arith) (omega arith)) in
    let long : length made ≡ list_count Outputs n.nodes = length-replicate (list_count Outputs n.nodes) [] in
    let begun : HasRun s n none (periods_of q 0) made first =
    no_period_runs s n q none made first long (blank_at (list_count Outputs n.nodes)) (is none) in
    let runs : HasRun s n (read_by n q inputs f from) (periods_of q (0 + (from - f))) on last =
    goes.runs 0 none (read_by n q inputs f from) made on none_given none_full begun
    (reads_join n q inputs f f from (omega arith) (omega arith))
    (λ e. ap (λ ys. ys ++ get_or on e []) (sym (blank_at (list_count Outputs n.nodes) e)))
    (goes.count ∙ sym long) in (
      on,
      subst (λ k. HasRun s n (read_by n q inputs f from) (periods_of q k) on last)
          (let e : 0 + (from - f) ≡ warm = omega arith in e) runs,
    )
