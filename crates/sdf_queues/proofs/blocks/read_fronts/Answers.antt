use Rattle.std.proofs.Common.{◌≡◌, ℕ, ◌++◌, length, take, get_or, arith, sym, ap, ◌∙◌}
use Rattle.std.proofs.lemmas.List.{length-take-le}
use Rattle.std.proofs.lemmas.List.Sums.{sum_by-drop_more}
use Rattle.sdf_queues.specs.Blocks.{samples, front}
use Rattle.sdf_queues.proofs.Ports.{same_x, block_more}
use Rattle.sdf_queues.proofs.blocks.read_fronts.Goals as goal

pub oldest-requires : goal.oldest-requires
oldest-requires g c =
    let i = c.loop-c.c-index in
    let l = c.loop-c-test.true in
    let x = same_x c.args.queues.now (get_or c.args.ports.now.channels.now i 0) c.index-queues-c.result
    (c.requires.ports.known i l) in
    let e = ap (λ q. q.samples) c.index-queues-c.is in
    omega (arith, c.requires.held i l, ap length (x ∙ sym e))

pub loop-c-preserved : goal.loop-c-preserved
loop-c-preserved g c =
    let ports = c.args.ports.now.channels.now in
    let sizes = c.args.ports.now.sizes.now in
    let ls = c.args.queues.now in
    let i = c.loop-c.c-index in
    let l = c.loop-c-test.true in
    let size : ℕ = get_or sizes (get_or ports i 0) 0 in
    let x = same_x ls (get_or ports i 0) c.index-queues-c.result (c.requires.ports.known i l) in
    let e = ap (λ q. q.samples) c.index-queues-c.is in
    let read = c.oldest.ensures ∙ ap (take size) (e ∙ sym x) in
    let long : length c.oldest.result.now ≡ size =
    ap length read ∙ length-take-le size (samples ls (get_or ports i 0)) (c.requires.held i l) in
    let all = front sizes (take i ports) ls in
    record {
      block = block_more (λ e. take (get_or sizes e 0) (samples ls e)) ports i c.args.block.now.items
          c.append.new.list.items l
          (c.append.ensures.items ∙ (ap (λ xs. xs ++ c.oldest.result.now) c.loop-c.invariant.block ∙
          ap (λ b. (c.args.block.now.items ++ all) ++ b) read));
      len = let more = sum_by-drop_more (λ d. get_or sizes d 0) ports i 0 l in
          omega (arith, c.append.ensures.len, c.append.ensures.capacity, long);
      capacity = c.append.ensures.capacity ∙ c.loop-c.invariant.capacity;
    }
