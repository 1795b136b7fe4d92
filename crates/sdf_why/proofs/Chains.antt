-- Chains of channels that actors wait for.
use Rattle.std.proofs.Common.{◌≡◌, ◌<◌, ◌≤◌, ◌+◌, ◌⊎◌, inl, inr, ℕ, List, [], ◌∷◌, ◌++◌, length, drop, set, replicate}
use Rattle.std.proofs.Common.{get_or, Option, Some, None, cond, count_by, refl, sym, ap, ◌∙◌, subst, arith}
use Rattle.std.proofs.Common.{length-append}
use Rattle.std.specs.Prelude.{slice_get, option_and_then}
use Rattle.std.specs.List.{All}
use Rattle.std.specs.Option.{is_none, option_map_or}
use Rattle.std.proofs.Math.Seq.{drop-append_seam}
use Rattle.std.proofs.lemmas.Bool.{cases_lt, cases_eq}
use Rattle.std.proofs.lemmas.Option.{slice_get_past, none-some}
use Rattle.std.proofs.lemmas.List.{length-replicate, get_or-replicate, get_or_past, length-set, get_or-set_same}
use Rattle.std.proofs.lemmas.List.{get_or-set_other, drop-append-le, length-drop}
use Rattle.std.proofs.lemmas.List.Sums.{sum_by-set}
use Rattle.std.proofs.lemmas.List.Elements.{All-nil, All-cons}
use Rattle.sdf_graph.specs.Rates.{GraphValue}
use Rattle.sdf_why.specs.declared.cycle.Halt.{Halt}
use Rattle.sdf_why.specs.Cycles.{Waits, IsChain, IsCycle, IsWalk}

-- no place is known at first
none_left : (n a : ℕ) → get_or {A = Option ℕ} (replicate n None) a None ≡ None
none_left n a = go (cases_lt a n)
  where
    go : (a < n) ⊎ (n ≤ a) → get_or {A = Option ℕ} (replicate n None) a None ≡ None
    go (inl known) = get_or-replicate n a None None known
    go (inr past) = get_or_past (replicate n None) a None (omega (arith, length-replicate {A = Option ℕ} n None))

module _ (g : GraphValue) (halts : List Halt) where
  -- one more channel at its end
  pub chain_more : (a : ℕ) (cs : List ℕ) (b c m : ℕ) → IsChain g halts a cs b → Waits g halts b c m →
      IsChain g halts a (cs ++ c ∷ []) m
  chain_more a [] b c m same waits = (m, subst (λ x. Waits g halts x c m) (sym same) waits, refl)
  chain_more a (d ∷ cs) b c m chain waits = (chain.0, chain.1, chain_more chain.0 cs b c m chain.2 waits)

  -- its channels are there
  pub chain_known : (a : ℕ) (cs : List ℕ) (b : ℕ) → IsChain g halts a cs b → All (λ c. c < length g.channels) cs
  chain_known a [] b same = All-nil (λ c. c < length g.channels)
  chain_known a (c ∷ cs) b chain =
      All-cons (λ c. c < length g.channels) c cs chain.1.known (chain_known chain.0 cs b chain.2)

  -- an actor that waits has a place
  pub waits_within : (a c m : ℕ) → Waits g halts a c m → a < length halts
  waits_within a c m waits = go (cases_lt a (length halts))
    where
      go : (a < length halts) ⊎ (length halts ≤ a) → a < length halts
      go (inl known) = known
      go (inr past) =
          let none : slice_get halts a ≡ None = slice_get_past halts a past in
          absurd (none-some c (sym (ap (option_and_then (λ (h : Halt). h.short)) none) ∙ waits.told))

  -- before the first step
  pub walk_begins : (first n : ℕ) → n ≡ length halts → IsWalk g halts first [] (replicate n None) first
  walk_begins first n all = record {
    all = length-replicate n None ∙ all;
    way = refl;
    left = λ a p is. absurd (none-some p (sym (none_left n a) ∙ is));
  }

  -- one step more
  pub walk_goes_on : (first : ℕ) (path : List ℕ) (places : List (Option ℕ)) (a c m : ℕ) →
      IsWalk g halts first path places a → Waits g halts a c m →
      IsWalk g halts first (path ++ c ∷ []) (set places a (Some (length path))) m
  walk_goes_on first path places a c m walk waits = record {
    all = length-set places a (Some (length path)) ∙ walk.all;
    way = chain_more first path a c m walk.way waits;
    left = λ b p is. go b p (cases_eq b a) is;
  }
    where
      within : a < length places
      within = omega (arith, waits_within a c m waits, walk.all)

      go : (b p : ℕ) → (b ≡ a) ⊎ (b ≡ a → ⊥) → get_or (set places a (Some (length path))) b None ≡ Some p →
          (p < length (path ++ c ∷ [])) × IsChain g halts b (drop p (path ++ c ∷ [])) m
      go b p (inl same) is =
          let here : Some (length path) ≡ Some p = sym (ap (λ x. get_or (set places a (Some (length path))) x None) same
          ∙ get_or-set_same places a (Some (length path)) None within) ∙ is in
          let p_is : p ≡ length path = sym (ap (λ o. option_map_or (λ (x : ℕ). x) o 0) here) in (
            omega (arith, p_is, length-append path (c ∷ [])),
            subst (λ n. IsChain g halts b (drop n (path ++ c ∷ [])) m) (sym p_is)
                (subst (λ (cs : List ℕ). IsChain g halts b cs m) (sym (drop-append_seam path (c ∷ [])))
                (m, subst (λ x. Waits g halts x c m) (sym same) waits, refl)),
          )
      go b p (inr other) is =
          let before = walk.left b p (sym (get_or-set_other places a b (Some (length path)) None other) ∙ is) in (
            omega (arith, before.0, length-append path (c ∷ [])),
            subst (λ (cs : List ℕ). IsChain g halts b cs m)
                (sym (drop-append-le p path (c ∷ []) (omega (arith, before.0))))
                (chain_more b (drop p path) a c m before.1 waits),
          )

  -- an actor that was left before is on a cycle
  pub walk_closes : (first : ℕ) (path : List ℕ) (places : List (Option ℕ)) (a p : ℕ) →
      IsWalk g halts first path places a → get_or places a None ≡ Some p → IsCycle g halts (drop p path)
  walk_closes first path places a p walk is =
      let before = walk.left a p is in
      record { actor = a; some = omega (arith, before.0, length-drop p path); round = before.1 }

-- fewer actors are not left yet
pub fewer_left : (places : List (Option ℕ)) (a p : ℕ) → a < length places → get_or places a None ≡ None →
    count_by is_none (set places a (Some p)) < count_by is_none places
fewer_left places a p within none = omega (
  arith,
  subst (λ (o : Option ℕ). count_by is_none (set places a (Some p)) + cond (is_none o) 1 0
      ≡ count_by is_none places + 0) none
      (sum_by-set (λ (o : Option ℕ). cond (is_none o) 1 0) places a (Some p) None within),
)
