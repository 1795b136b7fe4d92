use Rattle.std.proofs.Common.{◌≡◌, ◌*◌, ◌∙◌, ap, refl, sym, subst, Some, arith}
use Rattle.std.proofs.lemmas.Result.{MatchResult-at_ok}
use Rattle.sdf_actor.specs.Wires.{lists as items_of}
use Rattle.sdf_queues.specs.RunResults.{HasInputs}
use Rattle.sdf_queues.specs.Feeds.{AreFull}
use Rattle.sdf_process.specs.declared.io_rates.IoRates.{IoRates}
use Rattle.sdf_process.specs.Output.{io_rates_of, interleaved, lists_from}
use Rattle.sdf_process.specs.Streams.{AreWhole}
use Rattle.sdf_process.specs.PlannedNets.{IsPartition, partition_by}
use Rattle.sdf_process.proofs.InParts.{in_parts}
use Rattle.sdf_process.proofs.Pieced.{blocks_made, held_is, plays_on}
use Rattle.sdf_process.proofs.Played.{piece_full, piece_given}
use Rattle.sdf_process.proofs.player.Player.run_parts.Goals as goal

pub resume_split-ran-requires-clause-split : goal.resume_split-ran-requires-clause-split
resume_split-ran-requires-clause-split g c κs within =
    let v = c.args.self.now in
    let n = v.net.now in
    let p = v.period.now in
    let y = c.args.portion in
    let can = c.requires.can.1 in
    record {
      period = c.requires.player.period;
      given = subst (λ (x : IoRates). HasInputs n p.repetitions y.periods (lists_from 0 y.periods x y.input.now))
          (sym can.io) (piece_given n p.repetitions y.input.now 0 y.periods);
      full = subst (λ (x : IoRates). AreFull n p.repetitions y.periods (lists_from 0 y.periods x y.input.now))
          (sym can.io) (piece_full n p.repetitions y.input.now 0 y.periods);
      warm_up = subst (IsPartition n p.repetitions) (ap partition_by c.in-Parts.is) c.requires.player.cut;
      short = omega (arith, y.fits);
      some = c.least_part.ensures.part.is.some;
      long = c.least_part.ensures.long;
      stretch = omega (arith, c.periods_in.ensures);
    }

pub returns-in-Ok-clause-plays : goal.returns-in-Ok-clause-plays
returns-in-Ok-clause-plays g c = λ j s few blocks bytes follows.
    let v = c.args.self.now in
    let n = v.net.now in
    let p = v.period.now in
    let y = c.args.portion in
    let can = c.requires.can.1 in
    let q = p.repetitions in
    let made : y.frames ≡ y.periods * (io_rates_of n q).made =
    c.requires.all ∙ ap (λ (x : IoRates). y.periods * x.made) can.io in
    let h = in_parts n p can.has s (few * j) y.periods follows.stands.made v.rest (held_is follows.stands)
    y.input.now follows.lists y.io can.io c.in-Ok.parts.items c.in-Ok.last
    (MatchResult-at_ok _ _ _ c.in-Ok.is c.resume_split-ran.ensures.ran) in
    blocks_made can.has (plays_on follows h.goes) (Some c.in-Ok.last) refl y.frames (items_of c.in-Ok.parts.items)
    (h.frames ∙ ap (λ k. interleaved k h.outputs) (sym made))
    (subst (λ k. AreWhole (io_rates_of n q).outputs k (items_of c.in-Ok.parts.items)) (sym made) h.whole)
