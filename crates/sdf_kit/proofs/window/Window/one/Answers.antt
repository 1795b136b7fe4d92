use Rattle.std.proofs.Common.{◌∙◌, ap, FitsSigned, sym, subst, inl, inr, unsigned_abs, w64, ◌≤◌, ◌^◌, arith}
use Rattle.std.specs.Int.{w16}
use Rattle.std.specs.Simd.Lanes.{Each1}
use Rattle.std.proofs.lemmas.Int.{to_z-of_z}
use Rattle.sdf_kit.specs.Dots.{dot}
use Rattle.sdf_kit.specs.declared.window.SampleForm.TheVariants.{Split}
use Rattle.sdf_kit.proofs.Windows.{high_fits, low_short, front_long, passed, held_are, quiet_small, quiet_output}
use Rattle.sdf_kit.proofs.Windows.{wide_small, wide_output, split_output}
use Rattle.sdf_kit.proofs.window.Window.one.Goals as goal

pub one_dot-requires-clause-samples : goal.one_dot-requires-clause-samples
one_dot-requires-clause-samples c = high_fits c.self.invariant c.front-high.ensures

pub one_dot-a-requires-clause-samples : goal.one_dot-a-requires-clause-samples
one_dot-a-requires-clause-samples c = high_fits c.self.invariant c.front-high.ensures

pub one_dot-b-requires-clause-samples : goal.one_dot-b-requires-clause-samples
one_dot-b-requires-clause-samples c = subst (λ xs. Each1 (FitsSigned w16) xs) (sym c.front.ensures)
    (low_short c.self.inside.high c.self.inside.low c.self.inside.len c.self.inside.limits
    (held_are c.self.invariant c.self.view_is c.requires.branch Split c.in-Split.is))

pub one_dot-a-requires-clause-room : goal.one_dot-a-requires-clause-room
one_dot-a-requires-clause-room c =
    omega (arith, c.requires.room, front_long c.self.invariant c.self.view_is (inl c.front-high.ensures))

pub one_dot-b-requires-clause-room : goal.one_dot-b-requires-clause-room
one_dot-b-requires-clause-room c =
    omega (arith, c.requires.room, front_long c.self.invariant c.self.view_is (inr c.front.ensures))

pub rescale_small-requires-clause-small : goal.rescale_small-requires-clause-small
rescale_small-requires-clause-small c =
    quiet_small c.self.invariant c.self.view_is c.requires.branch c.in-Quiet.is c.front-high.ensures c.one_dot.result
    c.args.at c.requires.room
    (passed c.one_dot.result _ c.one_dot.ensures)

pub rescale-requires-clause-small : goal.rescale-requires-clause-small
rescale-requires-clause-small c =
    subst (λ z. unsigned_abs z ≤ 2 ^ 56)
    (sym (to_z-of_z w64 c.wide_dot.result (record { sfits = c.wide_dot.type_inv })
    ∙ (c.wide_dot.ensures ∙ ap (dot c.args.branch.taps.now) c.piece.ensures)))
    (wide_small c.self.invariant c.self.view_is c.requires.branch c.front-high.ensures c.args.at)

pub returns-in-Quiet : goal.returns-in-Quiet
returns-in-Quiet c =
    quiet_output c.self.invariant c.self.view_is c.requires.branch c.in-Quiet.is c.front-high.ensures c.one_dot.result
    c.args.at c.args.shift c.requires.room
    (passed c.one_dot.result _ c.one_dot.ensures) c.rescale_small.ensures (record { sfits = c.rescale_small.type_inv })

pub returns-in-Wide : goal.returns-in-Wide
returns-in-Wide c =
    wide_output c.self.invariant c.self.view_is c.requires.branch c.in-Wide.is c.front-high.ensures
    _ c.args.at c.args.shift
    (to_z-of_z w64 c.wide_dot.result (record { sfits = c.wide_dot.type_inv })
    ∙ (c.wide_dot.ensures ∙ ap (dot c.args.branch.taps.now) c.piece.ensures))
    c.rescale.ensures (record { sfits = c.rescale.type_inv })

pub returns-in-Split : goal.returns-in-Split
returns-in-Split c =
    split_output c.self.invariant c.self.view_is c.requires.branch c.in-Split.is c.front-high.ensures c.front.ensures
    c.one_dot-a.result c.one_dot-b.result
    c.args.at c.args.shift c.requires.room (passed c.one_dot-a.result _ c.one_dot-a.ensures)
    (passed c.one_dot-b.result _ c.one_dot-b.ensures) c.join.ensures (record { sfits = c.join.type_inv })
