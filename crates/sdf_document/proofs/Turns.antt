-- Actors and links one after the other, as loops read them.
use Rattle.std.proofs.lemmas.List.{drop_all}
use Rattle.toml.specs.Data.{Data}
use Rattle.std.proofs.Common.{◌≡◌, ◌∙◌, ◌<◌, ◌≤◌, ◌+◌, Ok, Err, Result, ℕ, List, [], ◌∷◌, ◌++◌, length, drop, get_or}
use Rattle.std.proofs.Common.{ap, refl, sym, suc}
use Rattle.toml.proofs.Views.{items_view-drop}
use Rattle.toml.specs.View.{view, items_view}
use Rattle.toml.specs.declared.value.Value.{Value}
use Rattle.sdf_document.specs.declared.fault.ReadFault.{ReadFault}
use Rattle.sdf_document.specs.declared.fault.ReadFault.TheVariants as errors
use Rattle.sdf_document.specs.Fault.{Fault, fault_view, Fails}
use Rattle.sdf_document.specs.Document.{each_from, item_count}

module _ {E : Type 0} (one : ℕ → List E → Data → Result E Fault) where
  pub each_more : (vs : List Value) (a : ℕ) (d : Value) (done : List E) (e : E) (total : Result (List E) Fault) →
      a < length vs
      → one a done (view (get_or vs a d)) ≡ Ok e → each_from one a done (items_view (drop a vs)) ≡ total
      → each_from one (a + 1) (done ++ e ∷ []) (items_view (drop (a + 1) vs)) ≡ total
  unfolding each_from
  each_more vs a d done e total lt h so_far =
      let step : each_from one a done (items_view (drop a vs)) ≡
      each_from one (a + 1) (done ++ e ∷ []) (items_view (drop (a + 1) vs)) =
      rw (items_view-drop vs a d lt, h) refl in
      sym step ∙ so_far

  pub each_fail : (x : ReadFault) (vs : List Value) (a : ℕ) (d : Value) (done : List E)
      (total : Result (List E) Fault) → a < length vs
      → Fails x (one a done (view (get_or vs a d))) → each_from one a done (items_view (drop a vs)) ≡ total →
      Fails x total
  unfolding each_from
  each_fail errors.OutOfMemory vs a d done total lt h so_far = tt
  each_fail (errors.Document f) vs a d done total lt h so_far =
      let step : each_from one a done (items_view (drop a vs)) ≡ Err (fault_view f) =
      rw (items_view-drop vs a d lt, h) refl in
      sym so_far ∙ step

  pub each_done : (vs : List Value) (a : ℕ) (done : List E) (total : Result (List E) Fault) → length vs ≤ a
      → each_from one a done (items_view (drop a vs)) ≡ total → total ≡ Ok done
  unfolding each_from
  each_done vs a done total le so_far =
      let step : each_from one a done (items_view (drop a vs)) ≡ Ok done = rw (drop_all a vs le) refl in
      sym so_far ∙ step

pub item_count_view : (vs : List Value) → item_count (items_view vs) ≡ length vs
item_count_view [] = refl
item_count_view (v ∷ vs) = ap suc (item_count_view vs)
