-- How deep values nest.
use Rattle.std.proofs.Common.{◌≤◌, ℕ, zero, suc, List, Option, Some, None, [], ◌∷◌, ◌++◌, map, Ordering}
use Rattle.std.proofs.Common.{Less, Equal, Greater, arith}
use Rattle.std.specs.List.{AllByRecursion}
use Rattle.std.specs.Ordering.{nat_cmp, match_ordering}
use Rattle.std.specs.Cmp.Lexicographic.{slice_cmp}
use Rattle.std.proofs.Math.Nat.{max-le}
use Rattle.serde_json.specs.Data.{Data, Members, no_members, member, put, depth, members_depth, items_depth}
use Rattle.serde_json.specs.View.{items_of}
use Rattle.sdf_json.specs.Values.{or_null, with, each_to}

-- the value nests at most n deep
abbrev pub IsFlat : ℕ → Data → Type 0
IsFlat n d = depth d ≤ n

put_at : (o : Ordering) (n : ℕ) (k l : List ℕ) (d e : Data) (ms : Members) → IsFlat n d → IsFlat n e →
    members_depth ms ≤ n → members_depth (put k d ms) ≤ n →
    members_depth (match_ordering o (member k d (member l e ms)) (member l d ms) (member l e (put k d ms))) ≤ n
put_at Less n k l d e ms one other rest later = max-le one (max-le other rest)
put_at Equal n k l d e ms one other rest later = max-le one rest
put_at Greater n k l d e ms one other rest later = max-le other later

pub put_flat : (n : ℕ) (k : List ℕ) (d : Data) (ms : Members) → IsFlat n d → members_depth ms ≤ n →
    members_depth (put k d ms) ≤ n
put_flat n k d no_members one rest = max-le one (omega arith)
put_flat n k d (member l e ms) one rest =
    let first : depth e ≤ n = omega (arith, rest) in
    let others : members_depth ms ≤ n = omega (arith, rest) in
    put_at (slice_cmp nat_cmp k l) n k l d e ms one first others (put_flat n k d ms one others)

pub with_flat : (n : ℕ) (ms : Members) (more : List (List ℕ × Data)) → members_depth ms ≤ n →
    AllByRecursion (λ (m : List ℕ × Data). IsFlat n m.1) more → members_depth (with ms more) ≤ n
with_flat n ms [] so_far rest = so_far
with_flat n ms (m ∷ more) so_far rest =
    with_flat n (put m.0 m.1 ms) more (put_flat n m.0 m.1 ms rest.0 so_far) rest.1

pub append_flat : (n : ℕ) (ds : List Data) (d : Data) → items_depth (items_of ds) ≤ n → IsFlat n d →
    items_depth (items_of (ds ++ d ∷ [])) ≤ n
append_flat n [] d so_far one = max-le one (omega arith)
append_flat n (e ∷ ds) d so_far one =
    let first : depth e ≤ n = omega (arith, so_far) in
    let others : items_depth (items_of ds) ≤ n = omega (arith, so_far) in
    max-le first (append_flat n ds d others one)

pub each_flat : (n : ℕ) (f : ℕ → Data) (m : ℕ) → ((i : ℕ) → IsFlat n (f i)) → items_depth (items_of (each_to f m)) ≤ n
each_flat n f zero each = omega arith
each_flat n f (suc m) each = append_flat n (each_to f m) (f m) (each_flat n f m each) (each m)

pub map_flat : {X : Type 0} (n : ℕ) (f : X → Data) (xs : List X) → ((x : X) → IsFlat n (f x)) →
    items_depth (items_of (map f xs)) ≤ n
map_flat n f [] each = omega arith
map_flat n f (x ∷ xs) each = max-le (each x) (map_flat n f xs each)

pub perhaps_flat : (n : ℕ) (number : Option ℕ) → IsFlat n (or_null number)
perhaps_flat n None = omega arith
perhaps_flat n (Some number) = omega arith
