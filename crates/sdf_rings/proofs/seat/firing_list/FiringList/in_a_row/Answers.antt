use Rattle.std.proofs.Common.{◌≡◌, ◌+◌, ◌%◌, ◌<◌, ◌≤◌, length, slice_index, arith, ap, subst, sym, ◌∙◌}
use Rattle.sdf_rings.proofs.ListLaws.{inside, row, within}
use Rattle.sdf_rings.proofs.Lists.{vec_long}
use Rattle.sdf_rings.proofs.seat.firing_list.FiringList.in_a_row.Goals as goal

pub returns-then-index-clause-inside : goal.returns-then-index-clause-inside
returns-then-index-clause-inside c =
    let w = c.self.inside.block.items in
    let h = subst (λ xs. c.args.place < length xs) (sym c.self.view_is) c.requires in
    let long : c.len.result ≡ length w = c.len.ensures ∙ sym (vec_long c.self.inside.block) in
    let first = ap (λ n. c.args.place % n) long in
    subst (λ xs. c.args.place + c.loop-j.j ≤ length xs) c.self.view_is
    (inside c.self.inside.blocks c.args.place w h c.loop-j.j
    (omega (
      arith,
      long,
      first,
      within c.self.inside.blocks c.args.place w h,
      c.len-2.ensures,
      c.min-many.ensures,
      c.loop-j-test.true,
    )))

pub returns-then-index-clause-same : goal.returns-then-index-clause-same
returns-then-index-clause-same c =
    let w = c.self.inside.block.items in
    let h = subst (λ xs. c.args.place < length xs) (sym c.self.view_is) c.requires in
    let long : c.len.result ≡ length w = c.len.ensures ∙ sym (vec_long c.self.inside.block) in
    let first = ap (λ n. c.args.place % n) long in
    subst (λ xs. (j : _) → j < c.loop-j.j → slice_index xs c.args.place ≡ slice_index xs (c.args.place + j))
    c.self.view_is
    (row c.self.inside.blocks c.args.place w h c.loop-j.j
    (omega (
      arith,
      long,
      first,
      within c.self.inside.blocks c.args.place w h,
      c.len-2.ensures,
      c.min-many.ensures,
      c.loop-j-test.true,
    ))
    (subst (λ f. (j : _) → j < c.loop-j.j → slice_index w f ≡ slice_index w (f + j)) first c.loop-j.invariant))

pub returns-clause-inside : goal.returns-clause-inside
returns-clause-inside c =
    let w = c.self.inside.block.items in
    let h = subst (λ xs. c.args.place < length xs) (sym c.self.view_is) c.requires in
    let long : c.len.result ≡ length w = c.len.ensures ∙ sym (vec_long c.self.inside.block) in
    let first = ap (λ n. c.args.place % n) long in
    subst (λ xs. c.args.place + c.min-many.result ≤ length xs) c.self.view_is
    (inside c.self.inside.blocks c.args.place w h c.min-many.result
    (omega (arith, long, first, within c.self.inside.blocks c.args.place w h, c.len-2.ensures, c.min-many.ensures)))

pub returns-clause-same : goal.returns-clause-same
returns-clause-same c =
    let w = c.self.inside.block.items in
    let h = subst (λ xs. c.args.place < length xs) (sym c.self.view_is) c.requires in
    let long : c.len.result ≡ length w = c.len.ensures ∙ sym (vec_long c.self.inside.block) in
    let first = ap (λ n. c.args.place % n) long in
    subst (λ xs. (j : _) → j < c.min-many.result → slice_index xs c.args.place ≡ slice_index xs (c.args.place + j))
    c.self.view_is
    (row c.self.inside.blocks c.args.place w h c.min-many.result
    (omega (arith, long, first, within c.self.inside.blocks c.args.place w h, c.len-2.ensures, c.min-many.ensures))
    (subst (λ f. (j : _) → j < c.min-many.result → slice_index w f ≡ slice_index w (f + j)) first
    (λ j l. c.loop-j.invariant j (omega (arith, l, c.loop-j-test.false)))))
