-- Parts of a queue's buffer.
use Rattle.std.proofs.Common.{◌≡◌, ℕ, ◌+◌, ◌≤◌, List, ◌++◌, length, take, drop, sym, ap, ◌∙◌, arith, vec_len}
use Rattle.std.specs.declared.vec.Vec.{Vec}
use Rattle.std.specs.Global.{Global}
use Rattle.std.specs.Vec.{with_items}
use Rattle.std.specs.List.{between}
use Rattle.std.proofs.lemmas.List.{with_items_is, drop-drop, drop-append-le, length-take-le}
use Rattle.std.proofs.lemmas.Slice.{between_is, take-put_mid}
use borrow.Rule.Slice.PartMut.{put_mid}
use Rattle.sdf_queues.specs.QueueValue.{QueueValue}

-- a part whose beginning is dropped
pub released : {T : Type 0} (xs : List T) (start end many : ℕ) →
    between (start + many) end xs ≡ drop many (between start end xs)
released xs start end many = between_is xs (start + many) end
    ∙ (sym (drop-drop many start (take end xs)) ∙ ap (drop many) (sym (between_is xs start end)))

-- a block written behind a part, over what stood there
pub put_over : {T : Type 0} (xs ys : List T) (start end many last : ℕ) → start ≤ end → end ≤ length xs →
    last ≡ end + length ys →
    between start last (put_mid end many xs ys) ≡ between start end xs ++ ys
put_over xs ys start end many last rise within is =
    let long : length (take end xs) ≡ end = length-take-le end xs within in
    between_is (put_mid end many xs ys) start last ∙
    (ap (drop start) (take-put_mid end many xs ys last is within) ∙
    (drop-append-le start (take end xs) ys (omega (arith, long)) ∙ ap (λ zs. zs ++ ys) (sym (between_is xs start end))))

-- the same in the buffer's vector
pub written : {T : Type 0} (list : Vec T Global) (slots ys old : List T) (from to made many : ℕ) → from ≤ to →
    to + made ≤ vec_len list → length slots ≡ vec_len list → slots ≡ list.items → length ys ≡ made →
    length (put_mid to many slots ys) ≡ length slots → between from to list.items ≡ old →
    between from (to + made) (with_items list (put_mid to many slots ys)).items ≡ old ++ ys
written list slots ys old from to made many rise within len is long kept same =
    ap (λ xs. between from (to + made) xs) (with_items_is list (put_mid to many slots ys) (kept ∙ len)) ∙
    (put_over slots ys from to many (to + made) rise (omega arith) (omega arith)
    ∙ ap (λ xs. xs ++ ys) (ap (between from to) is ∙ same))

-- and what the queue then holds
pub holds_more : {T : Type 0} (list : Vec T Global) (slots ys put old : List T) (room : ℕ) (q : QueueValue T)
    (from to made many : ℕ) → from ≤ to → to + made ≤ vec_len list → length slots ≡ vec_len list →
    slots ≡ list.items → length ys ≡ made → length (put_mid to many slots ys) ≡ length slots →
    between from to list.items ≡ old → record { samples = old; room = room } ≡ q → ys ≡ put →
    record { samples = between from (to + made) (with_items list (put_mid to many slots ys)).items; room = room } ≡
    record q { samples = q.samples ++ put }
holds_more list slots ys put old room q from to made many rise within len is long kept same view value =
    ap (λ xs. record { samples = xs; room = room })
    (written list slots ys old from to made many rise within len is long kept same)
    ∙ (ap (λ h. record { samples = h.samples ++ ys; room = h.room }) view
    ∙ ap (λ zs. record { samples = q.samples ++ zs; room = q.room }) value)
