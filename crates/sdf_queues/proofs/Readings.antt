-- Reading lists.
use Rattle.std.proofs.Common.{◌≡◌, ℕ, ◌<◌, List, [], length, get_or, ap, ◌∙◌, vec_len, arith}
use Rattle.std.proofs.lemmas.List.{get_or-map}
use Rattle.std.specs.declared.vec.Vec.{Vec}
use Rattle.std.specs.Global.{Global}
use Rattle.sdf_queues.specs.Lists.{list}

-- a list that is read
pub list_is : {T : Type 0} (xs : List (Vec T Global)) (i : ℕ) (v : Vec T Global) → i < length xs →
    list xs i ≡ (get_or xs i v).items
list_is {T} xs i v l = get_or-map (λ (x : Vec T Global). x.items) xs i v [] l

pub list_long : {T : Type 0} (xs : List (Vec T Global)) (i : ℕ) (v : Vec T Global) → i < length xs →
    length (list xs i) ≡ vec_len (get_or xs i v)
list_long {T} xs i v l = ap length (list_is xs i v l) ∙ long (get_or xs i v)
  where
    long : (w : Vec T Global) → length w.items ≡ vec_len w
    long w = omega arith

pub vec_long : {X : Type 0} (v : Vec X Global) → length v.items ≡ vec_len v
vec_long v = omega arith
