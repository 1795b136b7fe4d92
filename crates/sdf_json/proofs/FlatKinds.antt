-- The values of kinds do not nest deep.
use Rattle.std.proofs.Common.{◌≤◌, ℕ, List, Option, Some, None, [], ◌∷◌, map, arith}
use Rattle.std.specs.Prelude.{ℤ, codes}
use Rattle.std.specs.List.{AllByRecursion}
use Rattle.serde_json.specs.Data.{Data, no_members, depth, string}
use Rattle.serde_json.specs.Read.{max_depth}
use Rattle.sdf_kinds.specs.declared.row.Kind.{Kind}
use Rattle.sdf_kinds.specs.declared.row.Form.{Form}
use Rattle.sdf_kinds.specs.declared.row.Form.TheVariants.{Natural, Optional, Integer, FromLeast}
use Rattle.sdf_kinds.specs.declared.row.Form.TheVariants.{List as ListForm}
use Rattle.sdf_kinds.specs.declared.ports.PortRow.{PortRow}
use Rattle.sdf_kinds.specs.Ports.{ports_in, samples_in}
use Rattle.sdf_kinds.specs.Rows.{KeyFormValue, row_of, kinds, shared_keys}
use Rattle.sdf_json.specs.declared.ports.Amount.{Amount}
use Rattle.sdf_json.specs.declared.ports.Amount.TheVariants.{Zero, One, Block, Up, Down, Factor, Ways, Run}
use Rattle.sdf_json.specs.declared.kinds.Range.{Range}
use Rattle.sdf_json.specs.Values.{natural, with, list_of}
use Rattle.sdf_json.specs.Ports.{ports_of}
use Rattle.sdf_json.specs.Kinds.{amount_value, port_members, range_of, absent, range_members, more_members, key_value}
use Rattle.sdf_json.specs.Kinds.{kind_value, kinds_value}
use Rattle.sdf_json.proofs.Depths.{IsFlat, with_flat, map_flat}
use Rattle.sdf_json.proofs.FlatDesigns.{object_flat}

amount_flat : (a : Amount) → IsFlat 2 (amount_value a)
amount_flat Zero = omega arith
amount_flat One = omega arith
amount_flat Block = omega arith
amount_flat Up = omega arith
amount_flat Down = omega arith
amount_flat Factor = omega arith
amount_flat Ways = omega arith
amount_flat Run = omega arith

ports_flat : (p : PortRow Amount) → AllByRecursion (λ (m : List ℕ × Data). IsFlat 2 m.1) (port_members p)
ports_flat p = (
  amount_flat (ports_in p.inputs),
  (
    amount_flat (samples_in p.inputs),
    (
      amount_flat (ports_in p.outputs),
      (
        amount_flat (samples_in p.outputs),
        (amount_flat p.cycle, tt),
      ),
    ),
  ),
)

absent_flat : (z : Option ℤ) → IsFlat 0 (absent z)
absent_flat None = omega arith
absent_flat (Some z) = omega arith

range_flat : (r : Range) → AllByRecursion (λ (m : List ℕ × Data). IsFlat 0 m.1) (range_members r)
range_flat r = (omega arith, (omega arith, (absent_flat r.default, (omega arith, tt))))

more_flat : (f : Form) → AllByRecursion (λ (m : List ℕ × Data). IsFlat 0 m.1) (more_members f)
more_flat (Natural least most absent) = tt
more_flat (Optional least most) = tt
more_flat (Integer least most absent) = tt
more_flat (FromLeast least most absent) = (omega arith, tt)
more_flat (ListForm most width) = (omega arith, tt)

key_flat : (k : KeyFormValue) → IsFlat 1 (key_value k)
key_flat k =
    let named = with_flat 0 no_members ((codes "name", string k.name) ∷ []) (omega arith) (omega arith, tt) in
    let limited = with_flat 0 (with no_members ((codes "name", string k.name) ∷ [])) (range_members (range_of k.form))
    named (range_flat (range_of k.form)) in
    let inner = with_flat 0 (with (with no_members ((codes "name", string k.name) ∷ []))
    (range_members (range_of k.form))) (more_members k.form) limited (more_flat k.form) in
    omega (arith, inner)

keys_flat : (ks : List KeyFormValue) → IsFlat 2 (list_of (map key_value ks))
keys_flat ks = let inner = map_flat 1 key_value ks key_flat in omega (arith, inner)

kind_flat : (k : Kind) → IsFlat 3 (kind_value k)
kind_flat k =
    let front = (codes "keys", list_of (map key_value (row_of k).keys))
    ∷ (codes "name", string (row_of k).word) ∷ (codes "since", natural (row_of k).since) ∷ [] in
    let number_and_name = with_flat 2 no_members front (omega arith)
    (keys_flat (row_of k).keys, (omega arith, (omega arith, tt)))
    in
    let inner = with_flat 2 (with no_members front) (port_members (ports_of k)) number_and_name
    (ports_flat (ports_of k)) in
    omega (arith, inner)

all_flat : IsFlat 4 (list_of (map kind_value kinds))
all_flat = let inner = map_flat 3 kind_value kinds kind_flat in omega (arith, inner)

shared_flat : IsFlat 4 (list_of (map key_value shared_keys))
shared_flat = let inner = keys_flat shared_keys in omega (arith, inner)

pub kinds_flat : depth kinds_value ≤ max_depth
kinds_flat =
    let flat = object_flat 4 ((codes "kinds", list_of (map kind_value kinds))
    ∷ (codes "keys", list_of (map key_value shared_keys)) ∷ []) (all_flat, (shared_flat, tt)) in
    omega (arith, flat)
