use Rattle.std.proofs.Common.{◌≡◌, ◌∙◌, ◌+◌, ◌-◌, ◌*◌, ◌≤◌, ◌++◌, ℕ, List, ℤ, length, take, drop, ap, sym, subst, arith}
use Rattle.sdf_kit.specs.Fir.{Filter, kept_len, run_put}
use Rattle.sdf_kit.proofs.Blocks.{IsDone, round_more, all_kept, all_done}
use Rattle.sdf_kit.proofs.fir.Fir.run_blocks.Goals as goal

pub rounds-preserved : goal.rounds-preserved
rounds-preserved c =
    let f : Filter = record {
      up = c.self.inside.up;
      down = c.self.inside.down;
      taps = c.self.inside.taps.items;
      shift = c.self.inside.shift;
    } in
    let done : ℕ = c.rounds.done in
    let now : ℕ = c.block_of.result in
    let block : List ℤ = take ((done + now) * c.self.inside.down - done * c.self.inside.down)
    (drop (done * c.self.inside.down) c.args.taken.now) in
    let after : List ℤ =
    take (done * c.self.inside.up) c.rounds.put ++ (c.put_block.new.put
    ++ drop ((done + now) * c.self.inside.up - done * c.self.inside.up)
    (drop (done * c.self.inside.up) c.rounds.put)) in
    let was : IsDone f c.args.kept.now c.args.taken.now c.rounds.kept c.rounds.put c.args.many done =
    subst (λ (g : Filter). IsDone g c.args.kept.now c.args.taken.now c.rounds.kept c.rounds.put c.args.many done)
    (sym c.self.view_is) c.rounds.invariant in
    let long : length c.args.kept.now ≡ kept_len f = c.requires.kept ∙ ap kept_len (sym c.self.view_is) in
    let size : length c.args.taken.now ≡ c.args.many * f.down =
    c.requires.taken ∙ ap (λ (g : Filter). c.args.many * g.down) (sym c.self.view_is) in
    let outputs : c.put_block.new.put ≡ run_put c.args.self.now (done + now - done) c.items.result.now block =
    c.put_block.ensures in
    let back : done + now - done ≡ now = omega arith in
    let value : c.put_block.new.put ≡ run_put f now c.rounds.kept block =
    outputs ∙ (ap (λ (g : Filter). run_put g (done + now - done) c.items.result.now block) (sym c.self.view_is) ∙
    (ap (λ n. run_put f n c.items.result.now block) back ∙ ap (λ k. run_put f now k block) c.items.ensures.all)) in
    let next = round_more f c.self.invariant.filter.up.0 c.self.invariant.filter.down.0 c.args.kept.now c.args.taken.now
    c.rounds.kept c.rounds.put c.put_block.new.put c.args.many done now was long size
    (omega (arith, c.block_of.ensures.few, c.rounds-test.true)) value in
    subst (λ (g : Filter). IsDone g c.args.kept.now c.args.taken.now c.slide.new.self after c.args.many
    (done + now)) c.self.view_is
    (subst (λ k. IsDone f c.args.kept.now c.args.taken.now k after c.args.many (done + now)) (sym c.slide.ensures) next)

pub returns-clause-kept : goal.returns-clause-kept
returns-clause-kept c =
    all_kept c.args.self.now (subst (λ (g : Filter). 1 ≤ g.up) c.self.view_is c.self.invariant.filter.up.0)
    (subst (λ (g : Filter). 1 ≤ g.down) c.self.view_is c.self.invariant.filter.down.0)
    c.args.kept.now c.args.taken.now c.rounds.kept c.rounds.put c.args.many c.rounds.done c.rounds.invariant
    c.rounds-test.false c.requires.kept c.requires.taken

pub returns-clause-put : goal.returns-clause-put
returns-clause-put c =
    all_done c.args.self.now (subst (λ (g : Filter). 1 ≤ g.up) c.self.view_is c.self.invariant.filter.up.0)
    (subst (λ (g : Filter). 1 ≤ g.down) c.self.view_is c.self.invariant.filter.down.0)
    c.args.kept.now c.args.taken.now c.rounds.kept c.rounds.put c.args.many c.rounds.done c.rounds.invariant
    c.rounds-test.false
