-- What one firing of an actor does, of what its two blocks do.
use Rattle.std.proofs.Common.{◌≡◌, ℕ, ◌<◌, List, [], ◌++◌, length, get_or, set, cond}
use Rattle.std.proofs.Common.{eqb, sym, ap, ◌∙◌, subst, inl, inr, ◌⊎◌, arith, vec_capacity}
use Rattle.std.proofs.lemmas.List.{get_or-set_same, get_or-set_other, get_or-map, length-set}
use Rattle.std.proofs.lemmas.List.{append-nil}
use Rattle.std.proofs.lemmas.Bool.{cases_eq, eq-eqb, ne_eqb}
use Rattle.std.specs.declared.vec.Vec.{Vec}
use Rattle.sdf_queues.specs.Lists.{list, capacity}

-- an output list after a write
pub list_set : {T Z : Type 0} (outputs : List (Vec T Z)) (ext : ℕ) (v d : Vec T Z) (b : List T) → ext < length outputs →
    v.items ≡ (get_or outputs ext d).items ++ b →
    (e : ℕ) → e < length outputs → list (set outputs ext v) e ≡ list outputs e ++ cond (eqb ext e) b []
list_set {T} {Z} outputs ext v d b within is e l = go (cases_eq ext e)
  where
    long : length (set outputs ext v) ≡ length outputs
    long = length-set outputs ext v

    now : list (set outputs ext v) e ≡ (get_or (set outputs ext v) e d).items
    now = get_or-map (λ (x : Vec T Z). x.items) (set outputs ext v) e d [] (omega (arith, long))

    was : list outputs e ≡ (get_or outputs e d).items
    was = get_or-map (λ (x : Vec T Z). x.items) outputs e d [] l

    go : (ext ≡ e) ⊎ (ext ≡ e → ⊥) → list (set outputs ext v) e ≡ list outputs e ++ cond (eqb ext e) b []
    go (inl same) =
        let here : (get_or (set outputs ext v) e d).items ≡ v.items =
        subst (λ e. (get_or (set outputs ext v) e d).items ≡ v.items) same
        (ap (λ (x : Vec T Z). x.items) (get_or-set_same outputs ext v d within)) in
        let old : (get_or outputs ext d).items ≡ list outputs e = ap (λ e. (get_or outputs e d).items) same ∙ sym was in
        now ∙ (here ∙ (is ∙ (ap (λ xs. xs ++ b) old ∙ ap (λ t. list outputs e ++ cond t b [])
        (sym (eq-eqb ext e same)))))
    go (inr ne) =
        now ∙ (ap (λ (x : Vec T Z). x.items) (get_or-set_other outputs ext e v d (λ s. ne (sym s))) ∙
        (sym was ∙ (sym (append-nil (list outputs e))
        ∙ ap (λ t. list outputs e ++ cond t b []) (sym (ne_eqb ext e ne)))))

pub capacity_set : {T Z : Type 0} (outputs : List (Vec T Z)) (ext : ℕ) (v d : Vec T Z) → ext < length outputs →
    vec_capacity v ≡ vec_capacity (get_or outputs ext d) →
    (e : ℕ) → e < length outputs → capacity (set outputs ext v) e ≡ capacity outputs e
capacity_set {T} {Z} outputs ext v d within is e l = go (cases_eq ext e)
  where
    long : length (set outputs ext v) ≡ length outputs
    long = length-set outputs ext v

    now : capacity (set outputs ext v) e ≡ vec_capacity (get_or (set outputs ext v) e d)
    now = get_or-map (λ (x : Vec T Z). vec_capacity x) (set outputs ext v) e d 0 (omega (arith, long))

    was : capacity outputs e ≡ vec_capacity (get_or outputs e d)
    was = get_or-map (λ (x : Vec T Z). vec_capacity x) outputs e d 0 l

    go : (ext ≡ e) ⊎ (ext ≡ e → ⊥) → capacity (set outputs ext v) e ≡ capacity outputs e
    go (inl same) =
        let here : vec_capacity (get_or (set outputs ext v) e d) ≡ vec_capacity v =
        subst (λ e. vec_capacity (get_or (set outputs ext v) e d) ≡ vec_capacity v) same
        (ap (λ (x : Vec T Z). vec_capacity x) (get_or-set_same outputs ext v d within)) in
        now ∙ (here ∙ (is ∙ (ap (λ e. vec_capacity (get_or outputs e d)) same ∙ sym was)))
    go (inr ne) = now ∙ (ap (λ (x : Vec T Z). vec_capacity x)
        (get_or-set_other outputs ext e v d (λ s. ne (sym s))) ∙ sym was)
