use Rattle.std.proofs.Common.{◌<◌, length, get_or, sym, ap, ◌∙◌, subst, arith}
use Rattle.std.proofs.lemmas.List.{get_or_read}
use Rattle.sdf_graph.specs.Rates.{ChannelValue, no_channel}
use Rattle.sdf_graph.specs.Moved.{CanMove, moved_at}
use Rattle.sdf_graph.proofs.Moves.{not_yet, moved_more}
use Rattle.sdf_graph.proofs.counts.move_tokens.Goals as goal

pub after_firing-requires : goal.after_firing-requires
after_firing-requires c =
    let here = not_yet c.args.channels.now c.args.end c.args.i c.args.numbers.now c.loop-number.number-index
    c.args.held.now c.loop-number.held c.requires.rising (omega arith) c.loop-number.invariant in
    let known = c.requires.known c.loop-number.number-index (omega arith) in
    let read = get_or_read c.args.channels.now (get_or c.args.numbers.now c.loop-number.number-index 0)
    c.index-channels-number.result known c.index-channels-number.is no_channel in
    subst (λ (e : ChannelValue). record {
      puts : 0 < length e.put;
      takes : 0 < length e.take;
      can : CanMove c.args.end e c.args.i (get_or c.loop-number.held
          (get_or c.args.numbers.now c.loop-number.number-index 0) 0);
    }) (sym read) (record {
      puts = c.requires.puts _ known;
      takes = c.requires.takes _ known;
      can = subst (CanMove c.args.end (get_or c.args.channels.now
          (get_or c.args.numbers.now c.loop-number.number-index 0) no_channel) c.args.i) (sym here)
          (c.requires.can c.loop-number.number-index (omega arith));
    })

pub loop-number-preserved : goal.loop-number-preserved
loop-number-preserved c =
    let known = c.requires.known c.loop-number.number-index (omega arith) in
    let within : get_or c.args.numbers.now c.loop-number.number-index 0 < length c.loop-number.held =
    omega (arith, known) in
    let read = get_or_read c.args.channels.now (get_or c.args.numbers.now c.loop-number.number-index 0)
    c.index-channels-number.result known c.index-channels-number.is no_channel in
    moved_more c.args.channels.now c.args.end c.args.i c.args.numbers.now c.loop-number.number-index c.args.held.now
    c.loop-number.held c.requires.rising (omega arith) c.loop-number.invariant c.after_firing.result within
    (c.after_firing.ensures ∙ ap (λ (e : ChannelValue). moved_at c.args.end e c.args.i
    (get_or c.loop-number.held (get_or c.args.numbers.now c.loop-number.number-index 0) 0)) read)
