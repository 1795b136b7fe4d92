-- The values at the keys of a row, as a loop reads them.
use Rattle.std.proofs.Common.{◌≡◌, ◌∙◌, ◌<◌, ◌≤◌, ◌+◌, ℕ, List, [], ◌∷◌, ◌++◌, Result, Ok, Err, Bool, length, drop}
use Rattle.std.proofs.Common.{get_or, ap, refl, sym, append_assoc, append-nil}
use Rattle.std.proofs.lemmas.List.{drop_all, drop_more}
use Rattle.toml.specs.Data.{Members}
use Rattle.sdf_kinds.specs.declared.row.KeyForm.{KeyForm}
use Rattle.sdf_document.specs.declared.key.KeyValue.{KeyValue}
use Rattle.sdf_document.specs.declared.fault.ReadFault.{ReadFault}
use Rattle.sdf_document.specs.declared.fault.ReadFault.TheVariants as errors
use Rattle.sdf_document.specs.Fault.{Fault, fault_view, Fails, ◌>>=◌}
use Rattle.sdf_document.specs.Lists.{Lookup}
use Rattle.sdf_kinds.specs.Keys.{key_name}
use Rattle.sdf_kinds.specs.Rows.{keys_view}
use Rattle.sdf_document.specs.Kinds.{key_value_at, values_at, HasForm, HaveForms}

-- values, and those that are read after them
abbrev pub values_after : List KeyValue → Result (List KeyValue) Fault → Result (List KeyValue) Fault
values_after done (Ok vs) = Ok (done ++ vs)
values_after done (Err f) = Err f

regroup : (done : List KeyValue) (v : KeyValue) (r : Result (List KeyValue) Fault) →
    values_after (done ++ v ∷ []) r ≡ values_after done (r >>= λ vs. Ok (v ∷ vs))
regroup done v (Ok vs) = ap Ok (append_assoc done (v ∷ []) vs)
regroup done v (Err f) = refl

module _ (a : ℕ) (files : Lookup) (ms : Members) where
  pub value_more : (done : List KeyValue) (ks : List KeyForm) (i : ℕ) (k : KeyForm) (v : KeyValue)
      (name : List ℕ) (total : Result (List KeyValue) Fault) → i < length ks → name ≡ key_name (get_or ks i k).0
      → key_value_at a files name (get_or ks i k).1 ms ≡ Ok v →
      values_after done (values_at a files (keys_view (drop i ks)) ms) ≡ total
      → values_after (done ++ v ∷ []) (values_at a files (keys_view (drop (i + 1) ks)) ms) ≡ total
  unfolding values_at
  value_more done ks i k v name total lt named given so_far =
      let h = ap (λ n. key_value_at a files n (get_or ks i k).1 ms) (sym named) ∙ given in
      let step : values_at a files (keys_view (drop i ks)) ms ≡
      (values_at a files (keys_view (drop (i + 1) ks)) ms >>= λ vs. Ok (v ∷ vs)) =
      rw (drop_more ks i k lt, h) refl in
      regroup done v (values_at a files (keys_view (drop (i + 1) ks)) ms) ∙ (ap (values_after done) (sym step) ∙ so_far)

  pub value_fail : (x : ReadFault) (done : List KeyValue) (ks : List KeyForm) (i : ℕ) (k : KeyForm) (name : List ℕ)
      (total : Result (List KeyValue) Fault) → i < length ks → name ≡ key_name (get_or ks i k).0
      → Fails x (key_value_at a files name (get_or ks i k).1 ms) →
      values_after done (values_at a files (keys_view (drop i ks)) ms) ≡ total → Fails x total
  unfolding values_at
  value_fail errors.OutOfMemory done ks i k name total lt named given so_far = tt
  value_fail (errors.Document f) done ks i k name total lt named given so_far =
      let h = ap (λ n. key_value_at a files n (get_or ks i k).1 ms) (sym named) ∙ given in
      let step : values_at a files (keys_view (drop i ks)) ms ≡ Err (fault_view f) = rw (drop_more ks i k lt, h) refl in
      sym so_far ∙ ap (values_after done) step

  pub values_done : (done : List KeyValue) (ks : List KeyForm) (i : ℕ) (total : Result (List KeyValue) Fault) →
      length ks ≤ i
      → values_after done (values_at a files (keys_view (drop i ks)) ms) ≡ total → total ≡ Ok done
  unfolding values_at
  values_done done ks i total le so_far =
      let step : values_at a files (keys_view (drop i ks)) ms ≡ Ok [] = rw (drop_all i ks le) refl in
      sym so_far ∙ (ap (values_after done) step ∙ ap Ok (append-nil done))

module _ (looked : Bool) where
  pub forms_more : (all ks : List KeyForm) (done left : List KeyValue) (i : ℕ) (k : KeyForm) (v : KeyValue) →
      i < length ks → HasForm looked (get_or ks i k).1 v
      → ((rest : List KeyValue) → HaveForms looked (keys_view (drop i ks)) rest →
      HaveForms looked (keys_view all) (done ++ rest))
      → HaveForms looked (keys_view (drop (i + 1) ks)) left →
      HaveForms looked (keys_view all) ((done ++ v ∷ []) ++ left)
  forms_more all ks done left i k v lt has so_far h =
      let more : HaveForms looked (keys_view (drop i ks)) (v ∷ left) = rw (drop_more ks i k lt) (has, h) in
      rw (append_assoc done (v ∷ []) left) (so_far (v ∷ left) more)

  pub forms_done : (all ks : List KeyForm) (done : List KeyValue) (i : ℕ) → length ks ≤ i
      → ((rest : List KeyValue) → HaveForms looked (keys_view (drop i ks)) rest →
      HaveForms looked (keys_view all) (done ++ rest)) → HaveForms looked (keys_view all) done
  forms_done all ks done i le so_far =
      let none : HaveForms looked (keys_view (drop i ks)) [] = rw (drop_all i ks le) tt in
      (rw (append-nil done) at (so_far [] none))
