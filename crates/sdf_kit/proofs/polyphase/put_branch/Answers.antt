use Rattle.std.proofs.Common.{◌≡◌, ◌+◌, ◌*◌, ◌∙◌, length, take, drop, refl, ap, to_z, of_z, w32, FitsSigned, arith}
use Rattle.std.proofs.lemmas.Int.{to_z-of_z}
use Rattle.sdf_kit.specs.Samples.{rescaled}
use Rattle.sdf_kit.specs.Dots.{dot}
use Rattle.sdf_kit.proofs.Written.{put_more, fours_more, further, outputs_fit, windows_fit}
use Rattle.sdf_kit.proofs.polyphase.put_branch.Goals as goal

pub four-sums-requires-clause-room : goal.four-sums-requires-clause-room
four-sums-requires-clause-room c =
    windows_fit c.args.firings.down c.args.first c.fours.done 3 c.args.firings.many (length c.args.branch.taps.now)
    (length c.args.window.now.samples) c.requires.first (omega (arith, c.fours-test.true)) c.requires.window

pub put_four-requires : goal.put_four-requires
put_four-requires c =
    let fit = outputs_fit c.args.firings.up c.args.at c.fours.done 3 c.args.firings.many c.requires.at
    (omega (arith, c.fours-test.true)) in
    omega (arith, fit, c.fours.invariant.put.len, c.requires.put)

pub fours-preserved : goal.fours-preserved
fours-preserved c =
    let few = c.fours-test.true in
    let fit = outputs_fit c.args.firings.up c.args.at c.fours.done 3 c.args.firings.many c.requires.at
    (omega (arith, few)) in
    let one : c.args.first + c.fours.done * c.args.firings.down + c.args.firings.down ≡
    c.args.first + (c.fours.done + 1) * c.args.firings.down =
    (let p = further c.args.first c.fours.done 1 c.args.firings.down in omega (arith, p)) in
    let two : c.args.first + c.fours.done * c.args.firings.down + 2 * c.args.firings.down ≡
    c.args.first + (c.fours.done + 2) * c.args.firings.down = further c.args.first c.fours.done 2 c.args.firings.down in
    let three : c.args.first + c.fours.done * c.args.firings.down + 3 * c.args.firings.down ≡
    c.args.first + (c.fours.done + 3) * c.args.firings.down = further c.args.first c.fours.done 3 c.args.firings.down in
    record {
      put = fours_more (λ i. rescaled (dot c.args.branch.taps.now
          (take (length c.args.branch.taps.now) (drop (c.args.first + i * c.args.firings.down)
          c.args.window.now.samples)))
          c.args.firings.shift) c.args.firings.up c.args.at c.args.put.now c.fours.put c.put_four.new.put c.fours.done
          (c.args.at + c.fours.done * c.args.firings.up)
          (rescaled (dot c.args.branch.taps.now (take (length c.args.branch.taps.now)
          (drop (c.args.first + c.fours.done * c.args.firings.down) c.args.window.now.samples))) c.args.firings.shift)
          (rescaled (dot c.args.branch.taps.now (take (length c.args.branch.taps.now)
          (drop (c.args.first + c.fours.done * c.args.firings.down + c.args.firings.down) c.args.window.now.samples)))
          c.args.firings.shift) (rescaled (dot c.args.branch.taps.now
          (take (length c.args.branch.taps.now) (drop (c.args.first + c.fours.done * c.args.firings.down
          + 2 * c.args.firings.down)
          c.args.window.now.samples))) c.args.firings.shift)
          (rescaled (dot c.args.branch.taps.now (take (length c.args.branch.taps.now)
          (drop (c.args.first + c.fours.done * c.args.firings.down + 3 * c.args.firings.down)
          c.args.window.now.samples))) c.args.firings.shift)
          c.fours.invariant.put c.requires.at refl (omega (arith, fit, c.fours.invariant.put.len, c.requires.put))
          c.put_four.ensures c.four-sums.ensures
          refl (ap (λ n. rescaled (dot c.args.branch.taps.now
          (take (length c.args.branch.taps.now) (drop n c.args.window.now.samples))) c.args.firings.shift) one)
          (ap (λ n. rescaled (dot c.args.branch.taps.now (take (length c.args.branch.taps.now)
          (drop n c.args.window.now.samples))) c.args.firings.shift) two)
          (ap (λ n. rescaled (dot c.args.branch.taps.now (take (length c.args.branch.taps.now)
          (drop n c.args.window.now.samples))) c.args.firings.shift) three);
      few = few;
    }

pub ones-preserved : goal.ones-preserved
ones-preserved c =
    let few = c.ones-test.true in
    let fit = outputs_fit c.args.firings.up c.args.at c.ones.done 0 c.args.firings.many c.requires.at
    (omega (arith, few)) in
    let fits : FitsSigned w32 c.one-sum.result = record { sfits = c.one-sum.type_inv } in
    record {
      put = put_more (λ i. rescaled (dot c.args.branch.taps.now
          (take (length c.args.branch.taps.now) (drop (c.args.first + i * c.args.firings.down)
          c.args.window.now.samples)))
          c.args.firings.shift) c.args.firings.up c.args.at c.args.put.now c.ones.put c.ones.done
          (c.args.at + c.ones.done * c.args.firings.up) (to_z w32 (of_z w32 c.one-sum.result))
          c.ones.invariant.put c.requires.at refl (omega (arith, fit, c.ones.invariant.put.len, c.requires.put))
          (to_z-of_z w32 c.one-sum.result fits ∙ c.one-sum.ensures);
      few = omega (arith, few);
    }
