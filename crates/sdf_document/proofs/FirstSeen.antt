-- Names, each once, where it stands first.
use Rattle.std.proofs.Common.{◌≡◌, ◌∙◌, ◌<◌, ◌+◌, Some, None, map, take, length, get_or, Bool, true, false, ℕ, List, []}
use Rattle.std.proofs.Common.{◌∷◌, ◌++◌, ap, refl, sym, subst}
use Rattle.std.specs.Prelude.{◌||◌, not, bytes_eq}
use Rattle.std.specs.List.{list_any, filter, filter_map}
use Rattle.std.proofs.lemmas.List.Elements.{filter-append, filter_map-append}
use Rattle.std.proofs.lemmas.List.{map_more, append-nil}
use Rattle.std.proofs.lemmas.Slice.Eq.{bytes_eq-Decides}
use Rattle.sdf_document.specs.Document.{first_seen, actor_file, AreDistinct}
use Rattle.sdf_document.specs.Names.{with_name, IsNamed}
use Rattle.sdf_document.specs.Actors.{actor_view}
use Rattle.sdf_document.specs.declared.entry.ActorEntry.{ActorEntry}

same_text : (x y : List ℕ) → bytes_eq x y ≡ true → x ≡ y
same_text x y = (bytes_eq-Decides x y).0

text_itself : (x : List ℕ) → bytes_eq x x ≡ true
text_itself x = (bytes_eq-Decides x x).1 refl

other_text : (x y : List ℕ) → bytes_eq x y ≡ false → bytes_eq y x ≡ false
other_text x y e = go (bytes_eq y x) refl
  where
    go : (b : Bool) → bytes_eq y x ≡ b → b ≡ false
    go true h =
        let is : y ≡ x = same_text y x h in
        sym (subst (λ z. bytes_eq x z ≡ true) (sym is) (text_itself x)) ∙ e
    go false h = refl

-- those without x
abbrev pub without : List ℕ → List (List ℕ) → List (List ℕ)
without x ys = filter (λ y. not (bytes_eq x y)) ys

-- x is found without another
any_without : (x y : List ℕ) → bytes_eq x y ≡ false → (zs : List (List ℕ)) →
    list_any (bytes_eq x) (without y zs) ≡ list_any (bytes_eq x) zs
any_without x y e [] = refl
any_without x y e (z ∷ zs) = go (bytes_eq y z) refl (any_without x y e zs)
  where
    go : (b : Bool) → bytes_eq y z ≡ b → list_any (bytes_eq x) (without y zs) ≡ list_any (bytes_eq x) zs
        → list_any (bytes_eq x) (without y (z ∷ zs)) ≡ list_any (bytes_eq x) (z ∷ zs)
    go true h rest =
        let is : y ≡ z = same_text y z h in
        let no : bytes_eq x z ≡ false = subst (λ w. bytes_eq x w ≡ false) is e in
        rw (h, no) rest
    go false h rest = rw h (ap (λ b. bytes_eq x z || b) rest)

-- a name put last is left out with its like
push_same : (x y : List ℕ) (zs : List (List ℕ)) → bytes_eq x y ≡ true → without y (with_name zs x) ≡ without y zs
push_same x y zs e = go (list_any (bytes_eq x) zs) refl
  where
    go : (b : Bool) → list_any (bytes_eq x) zs ≡ b → without y (with_name zs x) ≡ without y zs
    go true h = rw h refl
    go false h =
        let same : bytes_eq y x ≡ true = subst (λ w. bytes_eq y w ≡ true) (sym (same_text x y e)) (text_itself y) in
        rw h (filter-append (λ z. not (bytes_eq y z)) zs (x ∷ []) ∙ rw same (append-nil (without y zs)))

push_other : (x y : List ℕ) (zs : List (List ℕ)) → bytes_eq x y ≡ false →
    y ∷ without y (with_name zs x) ≡ with_name (y ∷ without y zs) x
push_other x y zs e = go (list_any (bytes_eq x) zs) refl
  where
    other : bytes_eq y x ≡ false
    other = other_text x y e

    go : (b : Bool) → list_any (bytes_eq x) zs ≡ b → y ∷ without y (with_name zs x) ≡ with_name (y ∷ without y zs) x
    go true h =
        let found : list_any (bytes_eq x) (without y zs) ≡ true = any_without x y e zs ∙ h in
        rw (h, e, found) refl
    go false h =
        let none : list_any (bytes_eq x) (without y zs) ≡ false = any_without x y e zs ∙ h in
        rw (h, e, none) (ap (λ ws. y ∷ ws) (filter-append (λ z. not (bytes_eq y z)) zs (x ∷ []) ∙ rw other refl))

first_seen_push : (xs : List (List ℕ)) (x : List ℕ) → first_seen (xs ++ x ∷ []) ≡ with_name (first_seen xs) x
first_seen_push [] x = refl
first_seen_push (y ∷ xs) x = ap (λ zs. y ∷ without y zs) (first_seen_push xs x) ∙ go (bytes_eq x y) refl
  where
    go : (b : Bool) → bytes_eq x y ≡ b → y ∷ without y (with_name (first_seen xs) x) ≡
        with_name (y ∷ without y (first_seen xs)) x
    go true e = rw e (ap (λ zs. y ∷ zs) (push_same x y (first_seen xs) e))
    go false e = push_other x y (first_seen xs) e

-- names stay distinct where a new one is put last
pub distinct_more : (names : List (List ℕ)) (x : List ℕ) (named : List (List ℕ)) → AreDistinct names →
    IsNamed names x named → AreDistinct named
distinct_more names x named once new = rw new.1
    (first_seen_push names x ∙ (ap (λ ns. with_name ns x) once ∙ rw new.0 refl))

-- after one more actor
one_more : (es : List ActorEntry) (i : ℕ) (e : ActorEntry) → i < length es
    → first_seen (filter_map actor_file (map actor_view (take (i + 1) es))) ≡
    first_seen (filter_map actor_file (map actor_view (take i es))
    ++ filter_map actor_file (actor_view (get_or es i e) ∷ []))
one_more es i e h =
    ap (λ xs. first_seen (filter_map actor_file xs)) (map_more actor_view es i e h)
    ∙ ap first_seen (filter_map-append actor_file (map actor_view (take i es)) (actor_view (get_or es i e) ∷ []))

-- one with a file, and one without
pub wanted_more : (es : List ActorEntry) (i : ℕ) (e : ActorEntry) (name : List ℕ) → i < length es →
    actor_file (actor_view (get_or es i e)) ≡ Some name
    → first_seen (filter_map actor_file (map actor_view (take (i + 1) es))) ≡
    with_name (first_seen (filter_map actor_file (map actor_view (take i es)))) name
wanted_more es i e name h is = one_more es i e h
    ∙ rw is (first_seen_push (filter_map actor_file (map actor_view (take i es))) name)

pub wanted_same : (es : List ActorEntry) (i : ℕ) (e : ActorEntry) → i < length es →
    actor_file (actor_view (get_or es i e)) ≡ None
    → first_seen (filter_map actor_file (map actor_view (take (i + 1) es))) ≡
    first_seen (filter_map actor_file (map actor_view (take i es)))
wanted_same es i e h is = one_more es i e h ∙ rw is
    (ap first_seen (append-nil (filter_map actor_file (map actor_view (take i es)))))
