-- The values of designs do not nest deep.
use Rattle.std.proofs.Common.{◌≤◌, ℕ, suc, List, [], ◌∷◌, length, Option, Some, None, arith}
use Rattle.std.specs.Prelude.{sum, codes, slice_index}
use Rattle.std.specs.List.{AllByRecursion}
use Rattle.serde_json.specs.Data.{Data, no_members, depth, string}
use Rattle.serde_json.specs.Read.{max_depth}
use Rattle.sdf_actor.specs.Nets.{wire}
use Rattle.sdf_actor.specs.Sides.{period_samples}
use Rattle.sdf_actor.specs.declared.sides.Lists.TheVariants.{Inputs, Outputs}
use Rattle.sdf_file.specs.Designs.{DesignValue}
use Rattle.sdf_texts.specs.Schedules.{name_of}
use Rattle.sdf_json.specs.Values.{natural, object_of, list_of, each_to}
use Rattle.sdf_json.specs.Designs.{actor_value, end_value, ends_of, link_value, rate_member, check_value}
use Rattle.sdf_json.proofs.Depths.{IsFlat, with_flat, each_flat}

pub object_flat : (n : ℕ) (ms : List (List ℕ × Data)) → AllByRecursion (λ (m : List ℕ × Data). IsFlat n m.1) ms →
    IsFlat (suc n) (object_of ms)
object_flat n ms each = let inner = with_flat n no_members ms (omega arith) each in omega (arith, inner)

pub actor_flat : (d : DesignValue) (q : List ℕ) (a : ℕ) → IsFlat 1 (actor_value d q a)
actor_flat d q a =
    object_flat 0 ((codes "name", string (name_of d a)) ∷ (codes "firings", natural (slice_index q a)) ∷ [])
    (omega arith, (omega arith, tt))

pub end_flat : (d : DesignValue) (e : ℕ × ℕ) → IsFlat 1 (end_value d e)
end_flat d e =
    object_flat 0 ((codes "actor", string (name_of d e.0)) ∷ (codes "port", natural e.1) ∷ [])
    (omega arith, (omega arith, tt))

pub ends_each : (d : DesignValue) (c : ℕ) → AllByRecursion (λ (m : List ℕ × Data). IsFlat 1 m.1) (ends_of d c)
ends_each d c = (end_flat d (wire d.net c).from, (end_flat d (wire d.net c).to, tt))

link_flat : (d : DesignValue) (c : ℕ) → IsFlat 2 (link_value d c)
link_flat d c = object_flat 1 (ends_of d c) (ends_each d c)

pub list_flat : (n : ℕ) (f : ℕ → Data) (m : ℕ) → ((i : ℕ) → IsFlat n (f i)) → IsFlat (suc n) (list_of (each_to f m))
list_flat n f m each = let inner = each_flat n f m each in omega (arith, inner)

pub weaker : (m n : ℕ) (d : Data) → m ≤ n → IsFlat m d → IsFlat n d
weaker m n d less flat = omega (arith, less, flat)

rate_each : (rate : Option ℕ) → AllByRecursion (λ (m : List ℕ × Data). IsFlat 3 m.1) (rate_member rate)
rate_each None = tt
rate_each (Some n) = (omega arith, tt)

pub check_flat : (d : DesignValue) (q : List ℕ) → depth (check_value d q) ≤ max_depth
check_flat d q =
    let actors = list_of (each_to (actor_value d q) (length d.net.nodes)) in
    let links = list_of (each_to (link_value d) (length d.net.wires)) in
    let flat = object_flat 3 ((codes "actors", actors) ∷ (codes "links", links) ∷ (codes "period", natural (sum q))
    ∷ (codes "input", natural (period_samples d.net.nodes Inputs q))
    ∷ (codes "output", natural (period_samples d.net.nodes Outputs q)) ∷ rate_member d.rate) (
      weaker 2 3 actors (omega arith) (list_flat 1 (actor_value d q) (length d.net.nodes) (actor_flat d q)),
      (
        list_flat 2 (link_value d) (length d.net.wires) (link_flat d),
        (omega arith, (omega arith, (omega arith, rate_each d.rate))),
      ),
    ) in
    omega (arith, flat)
