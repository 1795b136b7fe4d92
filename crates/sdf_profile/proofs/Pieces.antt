-- A text with costs, piece by piece.
use Rattle.std.proofs.Common.{◌≡◌, ℕ, suc, ◌+◌, ◌<◌, ◌++◌, List, [], ◌∷◌, length, drop, get_or, Option, Some, None}
use Rattle.std.proofs.Common.{Result, Ok, Err, refl, sym, ap, arith, append_assoc, add-one, subst, MatchOption}
use Rattle.std.proofs.Common.{◌==◌, true, take, IfSome}
use Rattle.std.proofs.lemmas.Bool.Decides.{nat_tests}
use Rattle.std.proofs.Math.Seq.{drop-cons, drop-length}
use Rattle.std.proofs.lemmas.Option.{none-some, same_Some}
use Rattle.std.proofs.lemmas.List.{take_more}
use Rattle.sdf_profile.specs.declared.places.CostPlace.{CostPlace}
use Rattle.sdf_profile.specs.declared.unwritten.Unwritten.{Unwritten}
use Rattle.sdf_profile.specs.declared.unwritten.Unwritten.TheVariants.{Cost}
use Rattle.sdf_profile.specs.Places.{piece, behind, written_from, costed_in}
use Rattle.sdf_profile.specs.Written.{DifferInCosts}

pub behind_nothing : (text : Result (List ℕ) Unwritten) → behind [] text ≡ text
behind_nothing (Ok text) = refl
behind_nothing (Err fault) = refl

behind_both : (one other : List ℕ) (text : Result (List ℕ) Unwritten) →
    behind one (behind other text) ≡ behind (one ++ other) text
behind_both one other (Ok text) = ap Ok (sym (append_assoc one other text))
behind_both one other (Err fault) = refl

-- what is written in the place of what stands at the place of an actor, and where that ends
abbrev pub Follows : List ℕ → ℕ → CostPlace → ℕ → List ℕ → List ℕ → ℕ → Type 0
Follows graph read p n before after end =
    (new : List ℕ) × (piece graph read p n ≡ Some (record { new = new; end = end })) × (after ≡ before ++ new)

turn : (graph : List ℕ) (read actor : ℕ) (p : CostPlace) (n : ℕ) (places : List CostPlace) (costs before after : List ℕ)
    (end : ℕ) → Follows graph read p n before after end →
    behind after (written_from graph end (suc actor) places costs)
    ≡ behind before (written_from graph read actor (p ∷ places) (n ∷ costs))
turn graph read actor p n places costs before after end (new, is, after_is) =
    rw (is, after_is) (sym (behind_both before new (written_from graph end (suc actor) places costs)))

-- behind one more cost
pub written_turn : (graph : List ℕ) (read actor : ℕ) (places : List CostPlace) (costs before after : List ℕ) (end : ℕ)
    (d : CostPlace) (o : Option ℕ) → actor < length places → actor < length costs →
    MatchOption o (piece graph read (get_or places actor d) (get_or costs actor 0) ≡ None)
    (Follows graph read (get_or places actor d) (get_or costs actor 0) before after) →
    o ≡ Some end →
    behind after (written_from graph end (actor + 1) (drop (actor + 1) places) (drop (actor + 1) costs))
    ≡ behind before (written_from graph read actor (drop actor places) (drop actor costs))
written_turn graph read actor places costs before after end d None place cost follows is = absurd (none-some end is)
written_turn graph read actor places costs before after end d (Some y) place cost follows is =
    let here = subst (Follows graph read (get_or places actor d) (get_or costs actor 0) before after)
    (same_Some y end is) follows in
    rw (add-one actor, drop-cons places actor d place, drop-cons costs actor 0 cost)
    (turn graph read actor (get_or places actor d) (get_or costs actor 0) (drop (suc actor) places)
    (drop (suc actor) costs) before after end here)

-- there is no cost in the place of what stands there
pub written_fault : (graph : List ℕ) (read actor : ℕ) (places : List CostPlace) (costs before after : List ℕ)
    (d : CostPlace)
    (o : Option ℕ) → actor < length places → actor < length costs →
    MatchOption o (piece graph read (get_or places actor d) (get_or costs actor 0) ≡ None)
    (Follows graph read (get_or places actor d) (get_or costs actor 0) before after) →
    o ≡ None →
    behind before (written_from graph read actor (drop actor places) (drop actor costs)) ≡ Err (Cost actor)
written_fault graph read actor places costs before after d None place cost fault is =
    rw (drop-cons places actor d place, drop-cons costs actor 0 cost, fault) refl
written_fault graph read actor places costs before after d (Some y) place cost follows is =
    absurd (none-some y (sym is))

-- behind all costs
pub written_end : (graph : List ℕ) (read actor : ℕ) (places : List CostPlace) (costs before after rest : List ℕ) →
    length places ≡ actor → length costs ≡ actor → rest ≡ drop read graph → after ≡ before ++ rest →
    behind before (written_from graph read actor (drop actor places) (drop actor costs)) ≡ Ok after
written_end graph read actor places costs before after rest place cost rest_is after_is =
    rw (after_is, rest_is, sym place, drop-length places) refl

pub costed_by : (graph : List ℕ) (places : List CostPlace) (costs : List ℕ) (text : Result (List ℕ) Unwritten) →
    length places ≡ length costs → written_from graph 0 0 places costs ≡ text → costed_in graph places costs ≡ text
unfolding costed_in
costed_by graph places costs text all is = let test : (length places == length costs) ≡ true =
    grind (arith, nat_tests) in rw test is

-- the texts differ in one more cost
pub differ_turn : (costs graph text : List ℕ) (actor : ℕ) (o : Option ℕ) (end : ℕ) → actor < length costs →
    IfSome o (λ e. DifferInCosts (take actor costs ++ get_or costs actor 0 ∷ []) (take e graph) text) → o ≡ Some end →
    DifferInCosts (take (actor + 1) costs) (take end graph) text
differ_turn costs graph text actor None end cost differ is = absurd (none-some end is)
differ_turn costs graph text actor (Some e) end cost differ is =
    rw (take_more costs actor 0 cost, sym (same_Some e end is)) differ
