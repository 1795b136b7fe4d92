-- Places on seats, and the firings of a sequence that are dealt to a seat.
use Rattle.std.proofs.Common.{◌≡◌, ℕ, zero, suc, ◌+◌, ◌≤◌, ◌<◌, ◌⊎◌, inl, inr, List, [], ◌∷◌, ◌++◌, Bool, true, false}
use Rattle.std.proofs.Common.{length, map}
use Rattle.std.proofs.Common.{cond, get_or, take, eqb, refl, sym, ap, ◌∙◌, add-one, arith}
use Rattle.std.proofs.lemmas.Bool.{cases_lt}
use Rattle.std.proofs.lemmas.List.{map-append, get_or_append_left, get_or_push, take-append-le, take_all, length_push}
use Rattle.std.proofs.lemmas.List.Elements.{filter_more, filter-append}
use Rattle.sdf_graph.specs.Sequences.{repeated}
use Rattle.sdf_rings.specs.Asks.{dealt}
use Rattle.sdf_rings.specs.Begun.{place, count_on_seat, AreNext}

map_cond : (f : ℕ → ℕ) (t : Bool) (x : ℕ) → map f (cond t (x ∷ []) []) ≡ cond t (f x ∷ []) []
map_cond f true x = refl
map_cond f false x = refl

module _ (places : List (ℕ × ℕ)) (seat : ℕ) where
  abbrev ring_node : ℕ → ℕ
  ring_node a = (place places a).1

  pub dealt_more : (order : List ℕ) (i : ℕ) → i < length order →
      map ring_node (dealt places (take (i + 1) order) seat) ≡
      map ring_node (dealt places (take i order) seat)
      ++ cond (eqb (place places (get_or order i 0)).0 seat) (ring_node (get_or order i 0) ∷ []) []
  dealt_more order i h =
      let here : List ℕ = cond (eqb (place places (get_or order i 0)).0 seat) (get_or order i 0 ∷ []) [] in
      ap (map ring_node) (filter_more (λ a. eqb (place places a).0 seat) order i 0 h) ∙
      (map-append ring_node (dealt places (take i order) seat) here ∙
      ap (λ ys. map ring_node (dealt places (take i order) seat) ++ ys)
      (map_cond ring_node (eqb (place places (get_or order i 0)).0 seat) (get_or order i 0)))

  pub dealt_again : (order : List ℕ) (b : ℕ) → map ring_node (dealt places (repeated (b + 1) order) seat) ≡
      map ring_node (dealt places (repeated b order) seat) ++ map ring_node (dealt places order seat)
  dealt_again order b =
      ap (λ m. map ring_node (dealt places (repeated m order) seat)) (add-one b) ∙
      (ap (map ring_node) (filter-append (λ a. eqb (place places a).0 seat) (repeated b order) order) ∙
      map-append ring_node (dealt places (repeated b order) seat) (dealt places order seat))

  pub dealt_all : (order : List ℕ) (b : ℕ) →
      repeated b (map ring_node (dealt places order seat)) ≡ map ring_node (dealt places (repeated b order) seat)
  dealt_all order zero = refl
  dealt_all order (suc b) =
      ap (λ xs. xs ++ map ring_node (dealt places order seat)) (dealt_all order b)
      ∙ (sym (dealt_again order b) ∙ ap (λ m. map ring_node (dealt places (repeated m order) seat)) (add-one b))

-- the next place on a seat is how many stand there
pub next_more : (xs : List (ℕ × ℕ)) (p : ℕ × ℕ) → AreNext xs → p.1 ≡ count_on_seat xs p.0 → AreNext (xs ++ p ∷ [])
next_more xs p next is = λ a h. go a h (cases_lt a (length xs))
  where
    go : (a : ℕ) → a < length (xs ++ p ∷ []) → (a < length xs) ⊎ (length xs ≤ a) →
        (place (xs ++ p ∷ []) a).1 ≡ count_on_seat (take a (xs ++ p ∷ [])) (place (xs ++ p ∷ []) a).0
    go a h (inl below) =
        let at : place (xs ++ p ∷ []) a ≡ place xs a = get_or_append_left xs (p ∷ []) (0, 0) a below in
        let front : take a (xs ++ p ∷ []) ≡ take a xs = take-append-le a xs (p ∷ []) (omega arith) in
        ap (λ q. q.1) at ∙ (next a below ∙ (ap (λ ys. count_on_seat ys (place xs a).0) (sym front)
        ∙ ap (λ q. count_on_seat (take a (xs ++ p ∷ [])) q.0) (sym at)))
    go a h (inr above) =
        let long : length xs ≡ a = (let m = length_push xs p in omega arith) in
        let at : place (xs ++ p ∷ []) a ≡ p = get_or_push xs p (0, 0) a long in
        let front : take a (xs ++ p ∷ []) ≡ xs = take-append-le a xs (p ∷ []) (omega arith)
        ∙ take_all a xs (omega arith) in
        ap (λ q. q.1) at ∙ (is ∙ (ap (λ ys. count_on_seat ys p.0) (sym front)
        ∙ ap (λ q. count_on_seat (take a (xs ++ p ∷ [])) q.0) (sym at)))
