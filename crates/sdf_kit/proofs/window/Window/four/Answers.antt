use Rattle.std.proofs.Common.{◌+◌, ◌*◌, ap, get_or, pos, FitsSigned, sym, subst, refl, inl, inr, arith}
use Rattle.std.specs.Int.{w16}
use Rattle.std.specs.Simd.Lanes.{Each1}
use Rattle.sdf_kit.specs.declared.window.SampleForm.TheVariants.{Split}
use Rattle.sdf_kit.proofs.Windows.{high_fits, low_short, front_long, read, held_are, quiet_small, quiet_output}
use Rattle.sdf_kit.proofs.Windows.{wide_sent, wide_settles, wide_output, split_output}
use Rattle.sdf_kit.proofs.window.Window.four.Goals as goal

pub four_dots-a-requires-clause-samples : goal.four_dots-a-requires-clause-samples
four_dots-a-requires-clause-samples c = high_fits c.self.invariant c.front-high.ensures

pub four_dots-a-requires-in-Split-clause-samples : goal.four_dots-a-requires-in-Split-clause-samples
four_dots-a-requires-in-Split-clause-samples c = high_fits c.self.invariant c.front-high.ensures

pub four_dots-b-requires-clause-samples : goal.four_dots-b-requires-clause-samples
four_dots-b-requires-clause-samples c = subst (λ xs. Each1 (FitsSigned w16) xs) (sym c.front.ensures)
    (low_short c.self.inside.high c.self.inside.low c.self.inside.len c.self.inside.limits
    (held_are c.self.invariant c.self.view_is c.requires.branch Split c.in-Split.is))

pub four_dots-a-requires-in-Split-clause-room : goal.four_dots-a-requires-in-Split-clause-room
four_dots-a-requires-in-Split-clause-room c =
    omega (arith, c.requires.room, front_long c.self.invariant c.self.view_is (inl c.front-high.ensures))

pub four_dots-b-requires-clause-room : goal.four_dots-b-requires-clause-room
four_dots-b-requires-clause-room c =
    omega (arith, c.requires.room, front_long c.self.invariant c.self.view_is (inr c.front.ensures))

pub rescale_small-requires-clause-small : goal.rescale_small-requires-clause-small
rescale_small-requires-clause-small c =
    quiet_small c.self.invariant c.self.view_is c.requires.branch c.in-Quiet.is c.front-high.ensures
    (get_or c.four_dots-a.result 0 (pos 0))
    c.args.at (omega (arith, c.requires.room))
    (read c.four_dots-a.result 0 _ (ap (λ xs. get_or xs 0 (pos 0)) c.four_dots-a.ensures))

pub rescale_small-requires-in-Quiet-clause-small : goal.rescale_small-requires-in-Quiet-clause-small
rescale_small-requires-in-Quiet-clause-small c =
    quiet_small c.self.invariant c.self.view_is c.requires.branch c.in-Quiet.is c.front-high.ensures
    (get_or c.four_dots-a.result 1 (pos 0))
    (c.args.at + c.args.step) (omega (arith, c.requires.room))
    (read c.four_dots-a.result 1 _ (ap (λ xs. get_or xs 1 (pos 0)) c.four_dots-a.ensures))

pub rescale_small-requires-in-Quiet-2-clause-small : goal.rescale_small-requires-in-Quiet-2-clause-small
rescale_small-requires-in-Quiet-2-clause-small c =
    quiet_small c.self.invariant c.self.view_is c.requires.branch c.in-Quiet.is c.front-high.ensures
    (get_or c.four_dots-a.result 2 (pos 0))
    (c.args.at + 2 * c.args.step) (omega (arith, c.requires.room))
    (read c.four_dots-a.result 2 _ (ap (λ xs. get_or xs 2 (pos 0)) c.four_dots-a.ensures))

pub rescale_small-requires-in-Quiet-3-clause-small : goal.rescale_small-requires-in-Quiet-3-clause-small
rescale_small-requires-in-Quiet-3-clause-small c =
    quiet_small c.self.invariant c.self.view_is c.requires.branch c.in-Quiet.is c.front-high.ensures
    (get_or c.four_dots-a.result 3 (pos 0))
    (c.args.at + 3 * c.args.step) (omega (arith, c.requires.room))
    (read c.four_dots-a.result 3 _ (ap (λ xs. get_or xs 3 (pos 0)) c.four_dots-a.ensures))

pub rescale-requires-clause-small : goal.rescale-requires-clause-small
rescale-requires-clause-small c =
    wide_settles c.self.invariant c.self.view_is c.requires.branch c.front-high.ensures c.args.at
    c.four_wide_dots-sums.ensures.a

pub rescale-requires-in-Wide-clause-small : goal.rescale-requires-in-Wide-clause-small
rescale-requires-in-Wide-clause-small c =
    wide_settles c.self.invariant c.self.view_is c.requires.branch c.front-high.ensures (c.args.at + c.args.step)
    c.four_wide_dots-sums.ensures.b

pub rescale-requires-in-Wide-2-clause-small : goal.rescale-requires-in-Wide-2-clause-small
rescale-requires-in-Wide-2-clause-small c =
    wide_settles c.self.invariant c.self.view_is c.requires.branch c.front-high.ensures (c.args.at + 2 * c.args.step)
    c.four_wide_dots-sums.ensures.c

pub rescale-requires-in-Wide-3-clause-small : goal.rescale-requires-in-Wide-3-clause-small
rescale-requires-in-Wide-3-clause-small c =
    wide_settles c.self.invariant c.self.view_is c.requires.branch c.front-high.ensures (c.args.at + 3 * c.args.step)
    c.four_wide_dots-sums.ensures.d

pub returns-in-Quiet : goal.returns-in-Quiet
returns-in-Quiet c =
    let r0 = quiet_output c.self.invariant c.self.view_is c.requires.branch c.in-Quiet.is c.front-high.ensures
    (get_or c.four_dots-a.result 0 (pos 0)) c.args.at c.args.shift (omega (arith, c.requires.room))
    (read c.four_dots-a.result 0 _ (ap (λ xs. get_or xs 0 (pos 0)) c.four_dots-a.ensures))
    c.rescale_small.ensures (record { sfits = c.rescale_small.type_inv }) in
    let r1 = quiet_output c.self.invariant c.self.view_is c.requires.branch c.in-Quiet.is c.front-high.ensures
    (get_or c.four_dots-a.result 1 (pos 0)) (c.args.at + c.args.step) c.args.shift (omega (arith, c.requires.room))
    (read c.four_dots-a.result 1 _ (ap (λ xs. get_or xs 1 (pos 0)) c.four_dots-a.ensures))
    c.rescale_small-in-Quiet.ensures (record { sfits = c.rescale_small-in-Quiet.type_inv }) in
    let r2 = quiet_output c.self.invariant c.self.view_is c.requires.branch c.in-Quiet.is c.front-high.ensures
    (get_or c.four_dots-a.result 2 (pos 0)) (c.args.at + 2 * c.args.step) c.args.shift (omega (arith, c.requires.room))
    (read c.four_dots-a.result 2 _ (ap (λ xs. get_or xs 2 (pos 0)) c.four_dots-a.ensures))
    c.rescale_small-in-Quiet-2.ensures (record { sfits = c.rescale_small-in-Quiet-2.type_inv }) in
    let r3 = quiet_output c.self.invariant c.self.view_is c.requires.branch c.in-Quiet.is c.front-high.ensures
    (get_or c.four_dots-a.result 3 (pos 0)) (c.args.at + 3 * c.args.step) c.args.shift (omega (arith, c.requires.room))
    (read c.four_dots-a.result 3 _ (ap (λ xs. get_or xs 3 (pos 0)) c.four_dots-a.ensures))
    c.rescale_small-in-Quiet-3.ensures (record { sfits = c.rescale_small-in-Quiet-3.type_inv }) in
    rw (r0, r1, r2, r3) refl

pub returns-in-Wide : goal.returns-in-Wide
returns-in-Wide c =
    let r0 = wide_output c.self.invariant c.self.view_is c.requires.branch c.in-Wide.is c.front-high.ensures
    _ c.args.at c.args.shift
    (wide_sent c.self.invariant c.self.view_is c.requires.branch c.front-high.ensures c.args.at
    c.four_wide_dots-sums.ensures.a) c.rescale.ensures (record { sfits = c.rescale.type_inv }) in
    let r1 = wide_output c.self.invariant c.self.view_is c.requires.branch c.in-Wide.is c.front-high.ensures
    _ (c.args.at + c.args.step) c.args.shift
    (wide_sent c.self.invariant c.self.view_is c.requires.branch c.front-high.ensures (c.args.at + c.args.step)
    c.four_wide_dots-sums.ensures.b) c.rescale-in-Wide.ensures (record { sfits = c.rescale-in-Wide.type_inv }) in
    let r2 = wide_output c.self.invariant c.self.view_is c.requires.branch c.in-Wide.is c.front-high.ensures
    _ (c.args.at + 2 * c.args.step) c.args.shift
    (wide_sent c.self.invariant c.self.view_is c.requires.branch c.front-high.ensures
    (c.args.at + 2 * c.args.step)
    c.four_wide_dots-sums.ensures.c) c.rescale-in-Wide-2.ensures (record { sfits = c.rescale-in-Wide-2.type_inv }) in
    let r3 = wide_output c.self.invariant c.self.view_is c.requires.branch c.in-Wide.is c.front-high.ensures
    _ (c.args.at + 3 * c.args.step) c.args.shift
    (wide_sent c.self.invariant c.self.view_is c.requires.branch c.front-high.ensures
    (c.args.at + 3 * c.args.step)
    c.four_wide_dots-sums.ensures.d) c.rescale-in-Wide-3.ensures (record { sfits = c.rescale-in-Wide-3.type_inv }) in
    rw (r0, r1, r2, r3) refl

pub returns-in-Split : goal.returns-in-Split
returns-in-Split c =
    let r0 = split_output c.self.invariant c.self.view_is c.requires.branch c.in-Split.is c.front-high.ensures
    c.front.ensures
    (get_or c.four_dots-a-in-Split.result 0 (pos 0)) (get_or c.four_dots-b.result 0 (pos 0)) c.args.at c.args.shift
    (omega (arith, c.requires.room))
    (read c.four_dots-a-in-Split.result 0 _ (ap (λ xs. get_or xs 0 (pos 0)) c.four_dots-a-in-Split.ensures))
    (read c.four_dots-b.result 0 _ (ap (λ xs. get_or xs 0 (pos 0)) c.four_dots-b.ensures))
    c.join.ensures (record { sfits = c.join.type_inv }) in
    let r1 = split_output c.self.invariant c.self.view_is c.requires.branch c.in-Split.is c.front-high.ensures
    c.front.ensures
    (get_or c.four_dots-a-in-Split.result 1 (pos 0)) (get_or c.four_dots-b.result 1 (pos 0))
    (c.args.at + c.args.step) c.args.shift
    (omega (arith, c.requires.room))
    (read c.four_dots-a-in-Split.result 1 _ (ap (λ xs. get_or xs 1 (pos 0)) c.four_dots-a-in-Split.ensures))
    (read c.four_dots-b.result 1 _ (ap (λ xs. get_or xs 1 (pos 0)) c.four_dots-b.ensures))
    c.join-in-Split.ensures (record { sfits = c.join-in-Split.type_inv }) in
    let r2 = split_output c.self.invariant c.self.view_is c.requires.branch c.in-Split.is c.front-high.ensures
    c.front.ensures
    (get_or c.four_dots-a-in-Split.result 2 (pos 0)) (get_or c.four_dots-b.result 2 (pos 0))
    (c.args.at + 2 * c.args.step) c.args.shift
    (omega (arith, c.requires.room))
    (read c.four_dots-a-in-Split.result 2 _ (ap (λ xs. get_or xs 2 (pos 0)) c.four_dots-a-in-Split.ensures))
    (read c.four_dots-b.result 2 _ (ap (λ xs. get_or xs 2 (pos 0)) c.four_dots-b.ensures))
    c.join-in-Split-2.ensures (record { sfits = c.join-in-Split-2.type_inv }) in
    let r3 = split_output c.self.invariant c.self.view_is c.requires.branch c.in-Split.is c.front-high.ensures
    c.front.ensures
    (get_or c.four_dots-a-in-Split.result 3 (pos 0)) (get_or c.four_dots-b.result 3 (pos 0))
    (c.args.at + 3 * c.args.step) c.args.shift
    (omega (arith, c.requires.room))
    (read c.four_dots-a-in-Split.result 3 _ (ap (λ xs. get_or xs 3 (pos 0)) c.four_dots-a-in-Split.ensures))
    (read c.four_dots-b.result 3 _ (ap (λ xs. get_or xs 3 (pos 0)) c.four_dots-b.ensures))
    c.join-in-Split-3.ensures (record { sfits = c.join-in-Split-3.type_inv }) in
    rw (r0, r1, r2, r3) refl
