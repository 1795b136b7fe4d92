use Rattle.std.proofs.Common.{◌≡◌, ◌<◌, ◌⊎◌, length, ap, ◌∙◌, inl, inr, arith}
use Rattle.std.proofs.lemmas.List.{get_or_read}
use Rattle.sdf_prec.specs.declared.firing.Firing.{Firing}
use Rattle.sdf_prec.specs.Numbers.{number}
use Rattle.sdf_prec.specs.Tables.{firing, no_firing}
use Rattle.sdf_prec.specs.Trying.{IsTriedBefore}
use Rattle.sdf_prec.proofs.Queues.{insert_sorted, insert_stands}
use Rattle.sdf_prec.proofs.hu.queue.add.Goals.{else-place-len-via-then-place-len+else-index-ready}
use Rattle.sdf_prec.proofs.hu.queue.add.Goals.{else-place-len-via-else-place-len}
use Rattle.sdf_prec.proofs.hu.queue.add.Goals as goal

-- the firing that is tried next is of another actor
apart : (c : goal.In_ok-insert) → c.place_of-place.result < length c.args.queue.now.items →
    (firing c.args.queue.now.items c.place_of-place.result).actor ≡ c.args.ready.actor → ⊥
apart c l = elim c.else-place-len.branch [
  | else-place-len-via-then-place-len+else-index-ready w ↦ λ e.
      w.if-index-ready.false (ap (λ (f : Firing). f.actor) (get_or_read c.args.queue.now.items c.place_of-place.result
      w.index.result.now l w.index.ensures no_firing) ∙ e)
  | else-place-len-via-else-place-len w ↦ λ e. (let no' = w.if-place-len.false in absurd (omega (arith, c.len.ensures)))
]

after : (c : goal.In_ok-insert) → c.place_of-place.result < length c.args.queue.now.items →
    IsTriedBefore (number c.args.levels.now) c.args.ready (firing c.args.queue.now.items c.place_of-place.result)
after c l = go ((rw c.deref.ensures.value at c.place_of-place.ensures.after) l)
  where
    x : Firing
    x = firing c.args.queue.now.items c.place_of-place.result

    go : IsTriedBefore (number c.args.levels.now) c.args.ready x ⊎ (x.actor ≡ c.args.ready.actor) →
        IsTriedBefore (number c.args.levels.now) c.args.ready x
    go (inl h) = h
    go (inr e) = absurd (apart c l e)

pub returns-clause-sorted : goal.returns-clause-sorted
returns-clause-sorted c =
    let within = rw c.deref.ensures.value at c.place_of-place.ensures.within in
    let before = rw c.deref.ensures.value at c.place_of-place.ensures.before in
    rw c.in_ok-insert.ensures.items (insert_sorted (number c.args.levels.now) c.args.queue.now.items c.args.ready
    c.place_of-place.result c.requires.sorted within before (after c))

pub returns-clause-stands : goal.returns-clause-stands
returns-clause-stands c =
    let within = rw c.deref.ensures.value at c.place_of-place.ensures.within in
    let before = rw c.deref.ensures.value at c.place_of-place.ensures.before in
    rw c.in_ok-insert.ensures.items (insert_stands (number c.args.levels.now) c.args.queue.now.items c.args.ready
    c.place_of-place.result c.requires.sorted within before (after c))
