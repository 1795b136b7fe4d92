use Rattle.std.proofs.Common.{◌≡◌, ◌≤◌, ◌*◌, ◌^◌, ◌∙◌, List, ℕ, length, ap, sym, subst, arith}
use Rattle.std.specs.Prelude.{sum}
use Rattle.std.proofs.lemmas.Grind.{common_steps}
use Rattle.sdf_kit.specs.Stretches.{weight_of}
use Rattle.sdf_kit.specs.Tiles.{row_of, AreRowStretches, AreSpans}
use Rattle.sdf_kit.proofs.RowWeights.{rows_are, total_is, written_back}
use Rattle.sdf_kit.proofs.tile_stretches.stretches_of.Goals as goal

pub returns-then-put_stretches-clause-rows : goal.returns-then-put_stretches-clause-rows
returns-then-put_stretches-clause-rows c v low =
    let kept : c.in_ok-weights.weights.len ≡ c.args.pairs = grind (arith, common_steps) in
    let room : c.in_ok-stretches.stretches.len ≡ c.args.pairs = grind (arith, common_steps) in
    let weights : c.deref-2.result.now ≡ c.weigh.new.weights =
    c.deref-2.ensures.value ∙ written_back c.in_ok-weights.weights.len c.weigh.new.weights c.in_ok-weights.weights.items
    (c.weigh.ensures.len ∙ sym kept) in
    let long : length c.put_stretches.new.stretches ≡ c.args.pairs =
    c.put_stretches.ensures.len ∙ (ap length weights ∙ c.weigh.ensures.len) in
    let stretches = written_back c.in_ok-stretches.stretches.len c.put_stretches.new.stretches
    c.in_ok-stretches.stretches.items (long ∙ sym room) in
    subst (λ s. AreRowStretches (row_of c.args.table.now c.args.pairs v) s) (sym stretches)
    (rows_are c.args.table.now c.weigh.new.weights c.args.vectors c.args.pairs c.weigh.ensures.len c.requires.room
    c.weigh.ensures.heavy c.put_stretches.new.stretches long c.requires.pairs
    (subst (λ (w : List ℕ). AreSpans w c.put_stretches.new.stretches (length w)) weights
    (c.put_stretches.ensures.spans c.if-put_stretches.true)) v low)

pub returns-then-put_stretches-clause-total : goal.returns-then-put_stretches-clause-total
returns-then-put_stretches-clause-total c v low =
    let kept : c.in_ok-weights.weights.len ≡ c.args.pairs = grind (arith, common_steps) in
    let room : c.in_ok-stretches.stretches.len ≡ c.args.pairs = grind (arith, common_steps) in
    let weights : c.deref-2.result.now ≡ c.weigh.new.weights =
    c.deref-2.ensures.value ∙ written_back c.in_ok-weights.weights.len c.weigh.new.weights c.in_ok-weights.weights.items
    (c.weigh.ensures.len ∙ sym kept) in
    let long : length c.put_stretches.new.stretches ≡ c.args.pairs =
    c.put_stretches.ensures.len ∙ (ap length weights ∙ c.weigh.ensures.len) in
    let stretches = written_back c.in_ok-stretches.stretches.len c.put_stretches.new.stretches
    c.in_ok-stretches.stretches.items (long ∙ sym room) in
    let first : c.deref.result.now ≡ c.weigh.new.weights =
    c.deref.ensures.value ∙ written_back c.in_ok-weights.weights.len c.weigh.new.weights c.in_ok-weights.weights.items
    (c.weigh.ensures.len ∙ sym kept) in
    let summed : sum c.weigh.new.weights ≤ 65535 * 2 ^ c.args.shift =
    subst (λ (w : List ℕ). sum w ≤ 65535 * 2 ^ c.args.shift) first
    (omega (arith, c.total.ensures, c.if-total-shift.false)) in
    subst (λ s. weight_of (length s) (row_of c.args.table.now c.args.pairs v) ≤ 65535 * 2 ^ c.args.shift)
    (sym stretches)
    (total_is c.args.table.now c.weigh.new.weights c.args.vectors c.args.pairs c.weigh.ensures.len c.requires.room
    c.weigh.ensures.heavy c.put_stretches.new.stretches (65535 * 2 ^ c.args.shift) long summed v low)
