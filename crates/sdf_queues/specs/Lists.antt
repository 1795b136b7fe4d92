-- Lists in vectors.
use Rattle.std.specs.Prelude.{◌≡◌, ℕ, ◌<◌, List, [], length, map, slice_index, slice_index_or, vec_capacity}
use Rattle.std.specs.declared.vec.Vec.{Vec}
use Rattle.sdf_actor.specs.Wires.{lists}

-- list e, and how many samples it has room for
abbrev pub list : {T Z : Type 0} → List (Vec T Z) → ℕ → List T
list vs e = slice_index_or (lists vs) e []

abbrev pub capacity : {T Z : Type 0} → List (Vec T Z) → ℕ → ℕ
capacity vs e = slice_index (map (λ v. vec_capacity v) vs) e

-- there are `many` empty lists, with room for `samples` samples each
abbrev pub AreEmpty : {T Z : Type 0} → List (Vec T Z) → ℕ → ℕ → Type 0
AreEmpty vs many samples = (length vs ≡ many) × ((e : ℕ) → e < many → (list vs e ≡ []) × (capacity vs e ≡ samples))
