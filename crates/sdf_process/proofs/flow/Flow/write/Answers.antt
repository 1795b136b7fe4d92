use Rattle.std.proofs.Common.{◌≡◌, [], ap, refl, subst, rules}
use Rattle.std.specs.Io.KnownBytes.{Appends}
use Rattle.sdf_actor.specs.Wires.{lists as items_of}
use Rattle.sdf_wav.specs.Canonical.{sample_bytes}
use Rattle.sdf_wav.specs.Device.{AppendsFront}
use Rattle.sdf_wav.specs.PiecesOut.{ContentOutValue}
use Rattle.sdf_process.specs.Output.{in_turn}
use Rattle.sdf_process.proofs.Ahead.{frames_of, room_of, writing_failed, wrote}
use Rattle.sdf_process.proofs.Refusals.{fails_by}
use Rattle.sdf_process.proofs.flow.Flow.write.Goals as goal

pub put_in_turn-requires-clause-unspent : goal.put_in_turn-requires-clause-unspent
put_in_turn-requires-clause-unspent g c = ap (λ (o : ContentOutValue). o.spent) c.requires.4.flows.owed

pub put_in_turn-requires-clause-room : goal.put_in_turn-requires-clause-room
put_in_turn-requires-clause-room g c =
    let h = c.requires in
    room_of h.0 h.3 h.1 c.args.self.now h.4 c.deref.result.now c.deref.ensures.value

pub returns-in_err-put_in_turn : goal.returns-in_err-put_in_turn
returns-in_err-put_in_turn g c = λ b p r can ahead.
    let puts = c.in_err-put_in_turn.ensures.puts in
    fails_by c.from_residual.result c.in_err-put_in_turn.field-0.0 _ _ c.from_residual.ensures.1
    (writing_failed b can p c.args.self.now ahead (g.W.Writer.state c.put_in_turn.new.writer)
    c.in_err-put_in_turn.field-0.0 puts.0
    (subst (λ l. AppendsFront (g.W.Writer.state c.args.writer.now).contents
    (g.W.Writer.state c.put_in_turn.new.writer).contents
    (sample_bytes (in_turn (items_of l)))) c.deref.ensures.value puts.1) puts.2)

pub returns : goal.returns
returns g c = λ b p r can ahead.
    let puts = c.in_ok-put_in_turn.ensures.puts in
    record {
      flows = wrote b can p c.args.self.now ahead (g.W.Writer.state c.put_in_turn.new.writer) c.put_in_turn.new.output
          (subst (λ l. Appends (g.W.Writer.state c.args.writer.now).contents
          (g.W.Writer.state c.put_in_turn.new.writer).contents
          (sample_bytes (in_turn (items_of l)))) c.deref.ensures.value puts.0) puts.1
          (c.in_ok-put_in_turn.ensures.owed _ (frames_of b can p c.args.self.now ahead c.deref.result.now
          c.deref.ensures.value));
      none = ap items_of (let e : c.replace.new.dest.items ≡ [] = search rules in e);
      kept = refl;
      left = refl;
      most = refl;
    }
