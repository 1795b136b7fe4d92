use Rattle.std.proofs.Common.{◌≡◌, ◌+◌, ◌*◌, ◌/◌, ◌%◌, ◌<◌, ◌∙◌, length, get_or, pos, ap, sym, refl, arith, ⊎_elim}
use Rattle.std.proofs.lemmas.Nat.{mod_below, div_below}
use Rattle.std.proofs.Math.Nat.{mul-lt-mul_of_pos_right, mul_comm}
use Rattle.std.proofs.lemmas.Bool.{cases_lt}
use Rattle.std.proofs.lemmas.List.FromFn.{fill_by_all}
use Rattle.sdf_kit.specs.Branches.{branch_output}
use Rattle.sdf_kit.proofs.Branching.{length-branch_at}
use Rattle.sdf_kit.proofs.Written.{all_put, branch_step, other_branch}
use Rattle.sdf_kit.proofs.polyphase.put_branches.Goals as goal

pub loop-j-preserved : goal.loop-j-preserved
loop-j-preserved c =
    let phase : c.loop-j.j * c.args.firings.down % c.args.firings.up < c.args.firings.up =
    mod_below (c.loop-j.j * c.args.firings.down) c.args.firings.up c.requires.firings.up.0 in
    let long : length c.get-branch.result.taps.now ≡ c.args.branches.now.width =
    ap length c.get-branch.ensures.taps ∙ length-branch_at c.args.firings.up c.args.branches.now
    (c.loop-j.j * c.args.firings.down % c.args.firings.up) c.requires.branches phase in
    record {
      len = c.put_branch.ensures.len ∙ c.loop-j.invariant.len;
      done = λ j i l h. ⊎_elim
          (λ lt. c.put_branch.ensures.others (j + i * c.args.firings.up)
          (other_branch c.args.firings.up j c.loop-j.j i lt c.loop-j-test.true) ∙ c.loop-j.invariant.done j i lt h)
          (λ ge.
          let e : j ≡ c.loop-j.j = omega (arith, l, ge) in
          ap (λ k. get_or c.put_branch.new.put (k + i * c.args.firings.up) (pos 0)) e ∙ (c.put_branch.ensures.done i h ∙
          (branch_step c.args.branches.now c.args.firings.up c.args.firings.down c.args.firings.shift
          c.args.window.now.samples
          c.get-branch.result.taps.now c.loop-j.j i (c.loop-j.j * c.args.firings.down / c.args.firings.up)
          c.requires.firings.up.0
          c.get-branch.ensures.taps long refl ∙ ap (λ k. branch_output c.args.branches.now c.args.firings.up
          c.args.firings.down c.args.firings.shift
          c.args.window.now.samples (i * c.args.firings.up + k)) (sym e))))
          (cases_lt j c.loop-j.j);
    }

pub put_branch-requires-clause-branch : goal.put_branch-requires-clause-branch
put_branch-requires-clause-branch c =
    let phase : c.loop-j.j * c.args.firings.down % c.args.firings.up < c.args.firings.up =
    mod_below (c.loop-j.j * c.args.firings.down) c.args.firings.up c.requires.firings.up.0 in
    rw (c.requires.limits, c.get-branch.ensures.taps, c.get-branch.ensures.stretches)
    (c.requires.branches.each (c.loop-j.j * c.args.firings.down % c.args.firings.up) phase)

pub put_branch-requires-clause-first : goal.put_branch-requires-clause-first
put_branch-requires-clause-first c =
    let less : c.loop-j.j * c.args.firings.down < c.args.firings.up * c.args.firings.down =
    mul-lt-mul_of_pos_right c.loop-j-test.true (omega (arith, c.requires.firings.down.0)) in
    let turned : c.args.firings.up * c.args.firings.down ≡ c.args.firings.down * c.args.firings.up =
    mul_comm c.args.firings.up c.args.firings.down in
    div_below (c.loop-j.j * c.args.firings.down) c.args.firings.up c.args.firings.down
    (omega (arith, c.requires.firings.up.0)) (omega arith)

pub returns : goal.returns
returns c =
    fill_by_all (branch_output c.args.branches.now c.args.firings.up c.args.firings.down c.args.firings.shift
    c.args.window.now.samples)
    c.loop-j.put (c.args.firings.many * c.args.firings.up) (pos 0) c.loop-j.invariant.len
    (all_put (branch_output c.args.branches.now c.args.firings.up c.args.firings.down c.args.firings.shift
    c.args.window.now.samples) c.args.firings.up
    c.args.firings.many c.loop-j.put c.requires.firings.up.0
    (λ j i l h. c.loop-j.invariant.done j i (omega (arith, l, c.loop-j-test.false)) h))
