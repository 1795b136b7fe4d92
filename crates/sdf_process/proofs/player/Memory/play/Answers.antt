use Rattle.std.proofs.Common.{◌≡◌, ◌∷◌, [], ap, refl, sym, subst, Some, ◌∙◌, rules}
use Rattle.sdf_process.specs.Streams.{Makes}
use Rattle.sdf_queues.specs.Feeds.{GoesOnBy}
use Rattle.sdf_process.proofs.Played.{piece_refused}
use Rattle.sdf_actor.specs.Wires.{lists as items_of}
use Rattle.sdf_kit.specs.Kit.{kit_steps}
use Rattle.sdf_process.specs.Output.{io_rates_of, interleaved}
use Rattle.sdf_process.proofs.Pieced.{blocks_made, one_list, plays_on, portion_as}
use Rattle.sdf_process.proofs.player.Memory.play.Goals as goal

pub returns-in_err-ran-clause-refused : goal.returns-in_err-ran-clause-refused
returns-in_err-ran-clause-refused c =
    let y = c.args.portion in
    piece_refused c.args.net.now c.args.period.now.repetitions y.input.now y.io c.requires.can.1.io 0
    y.periods (items_of c.deref.result.now) (ap items_of c.deref.ensures.value ∙ c.in_ok-lists.ensures)
    c.in_err-ran.field-0.0 c.from_residual-in_err-ran.result c.in_err-ran.ensures c.from_residual-in_err-ran.ensures.1

pub returns-clause-plays : goal.returns-clause-plays
returns-clause-plays c = λ j s few blocks bytes follows.
    let n = c.args.net.now in
    let p = c.args.period.now in
    let rest = c.args.rest.now in
    let y = c.args.portion in
    let can = c.requires.can.1 in
    let on = items_of c.in_ok-ran.ran.outputs.items in
    let last = c.in_ok-ran.last in
    let goes = portion_as n p y can.io rest on last
    (subst (λ l. GoesOnBy kit_steps n p.repetitions rest y.periods l on last)
    (ap items_of c.deref.ensures.value ∙ c.in_ok-lists.ensures) c.in_ok-ran.ensures.0) in
    let one = one_list (io_rates_of n p.repetitions).outputs y.frames on c.in_ok-frames.frames.items
    (c.in_ok-frames.ensures ∙ ap (λ l. interleaved y.frames (items_of l)) c.deref-2.ensures.value) goes.count in
    let only : c.push_reserved.new.self.items ≡ c.in_ok-frames.frames ∷ [] = search rules in
    subst (λ l. Makes n p j s few blocks y.frames bytes (items_of l) (Some last)) (sym only)
    (blocks_made can.has (plays_on follows goes) (Some last) refl y.frames (c.in_ok-frames.frames.items ∷ []) one.0
    one.1)
