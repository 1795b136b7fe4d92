use Rattle.std.proofs.Common.{◌≡◌, ◌∷◌, [], ap, ◌∙◌, sym, subst, rules}
use Rattle.sdf_process.specs.Streams.{Makes}
use Rattle.sdf_process.proofs.Refusals.{if_err}
use Rattle.sdf_actor.specs.Wires.{lists as items_of}
use Rattle.sdf_process.specs.Output.{interleaved}
use Rattle.sdf_process.proofs.Fed.{fed_made, fed_refused, feeds_still}
use Rattle.sdf_process.proofs.runner.feed_session.Goals as goal

pub returns-in_err-ran-clause-refused : goal.returns-in_err-ran-clause-refused
returns-in_err-ran-clause-refused g c =
    let y = c.args.portion in
    let h = c.requires.can in
    let f = h.5 in
    if_err c.from_residual-in_err-ran.result _ _
    (fed_refused h.0 h.1 h.2 c.args.session.now h.3 y h.4 f.2 f.4.periods (items_of c.deref.result.now)
    (ap items_of c.deref.ensures.value ∙ c.in_ok-inputs.ensures) c.in_err-ran.field-0.0 c.in_err-ran.ensures.0)
    c.from_residual-in_err-ran.ensures.1

pub returns-clause-runs : goal.returns-clause-runs
returns-clause-runs g c = λ n p j s few blocks bytes by can follows.
    let y = c.args.portion in
    let on = items_of c.in_ok-ran.ran.outputs.items in
    let only : c.push.new.self.items ≡ c.in_ok-frames.frames ∷ [] = search rules in (
      subst (λ l. Makes n p j s few blocks y.frames bytes (items_of l) c.feed.new.self.rest) (sym only)
          (fed_made n p j c.args.session.now by y can blocks follows.periods (items_of c.deref.result.now)
          (ap items_of c.deref.ensures.value ∙ c.in_ok-inputs.ensures) c.feed.new.self on c.in_ok-ran.ran.rounds
          c.in_ok-ran.ensures s few bytes follows y.frames c.in_ok-frames.frames.items
          (c.in_ok-frames.ensures ∙ ap (λ l. interleaved y.frames (items_of l)) c.deref-2.ensures.value)),
      feeds_still n p j c.args.session.now by c.feed.new.self c.in_ok-ran.ensures.0
          (items_of c.deref.result.now) on c.in_ok-ran.ran.rounds c.in_ok-ran.ensures.1,
    )
