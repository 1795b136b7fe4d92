use Rattle.std.proofs.Common.{◌≡◌, ◌∙◌, ◌<◌, ◌+◌, Some, None, Option, option_map, ℕ, ℤ, List, [], ◌∷◌, ◌++◌, length}
use Rattle.std.proofs.Common.{drop, get_or, ap, refl, sym, append_assoc}
use Rattle.std.specs.Prelude.{option_and_then}
use Rattle.toml.proofs.Views.{items_view-drop}
use Rattle.toml.specs.Data.{as_integer}
use Rattle.toml.specs.View.{view, items_view}
use Rattle.toml.specs.declared.value.Value.{Value}
use Rattle.sdf_document.specs.Values.{integers_in}

regroup : (done : List ℤ) (z : ℤ) (o : Option (List ℤ)) →
    option_map (λ zs. (done ++ z ∷ []) ++ zs) o ≡ option_map (λ zs. done ++ zs) (option_map (λ zs. z ∷ zs) o)
regroup done z None = refl
regroup done z (Some zs) = ap Some (append_assoc done (z ∷ []) zs)

-- one more number
pub integers_more : (done : List ℤ) (vs : List Value) (i : ℕ) (d : Value) (z : ℤ) → i < length vs →
    as_integer (view (get_or vs i d)) ≡ Some z
    → option_map (λ zs. (done ++ z ∷ []) ++ zs) (integers_in (items_view (drop (i + 1) vs))) ≡
    option_map (λ zs. done ++ zs) (integers_in (items_view (drop i vs)))
integers_more done vs i d z h e =
    regroup done z _ ∙ sym (ap (λ ds. option_map (λ zs. done ++ zs) (integers_in ds)) (items_view-drop vs i d h)
    ∙ ap (λ o. option_map (λ zs. done ++ zs) (option_and_then
    (λ z. option_map (λ zs. z ∷ zs) (integers_in (items_view (drop (i + 1) vs)))) o)) e)

-- an item that is no number
pub integers_fail : (done : List ℤ) (vs : List Value) (i : ℕ) (d : Value) → i < length vs →
    as_integer (view (get_or vs i d)) ≡ None
    → option_map (λ zs. done ++ zs) (integers_in (items_view (drop i vs))) ≡ None
integers_fail done vs i d h e =
    ap (λ ds. option_map (λ zs. done ++ zs) (integers_in ds)) (items_view-drop vs i d h)
    ∙ ap (λ o. option_map (λ zs. done ++ zs) (option_and_then
    (λ z. option_map (λ zs. z ∷ zs) (integers_in (items_view (drop (i + 1) vs)))) o)) e
