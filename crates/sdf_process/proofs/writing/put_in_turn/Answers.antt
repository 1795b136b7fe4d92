use Rattle.std.proofs.Common.{◌≡◌, ◌<◌, ◌+◌, ◌-◌, ◌*◌, ◌++◌, ℕ, [], length, get_or, take, drop, ap, sym, subst, ◌∙◌}
use Rattle.std.proofs.Common.{arith, refl, take_all, length-append, ◌≤◌}
use Rattle.std.specs.Io.KnownBytes.{Appends}
use Rattle.sdf_actor.specs.Wires.{lists as items_of}
use Rattle.sdf_wav.specs.Canonical.{sample_bytes}
use Rattle.sdf_wav.specs.PiecesOut.{ContentOutValue, Puts}
use Rattle.std.specs.Prelude.{Err}
use Rattle.sdf_process.specs.Output.{in_turn}
use Rattle.sdf_process.proofs.Lists.{length-lists, list_read}
use Rattle.sdf_process.proofs.Pieces.{put_stopped, fewer_missing, owed_on, whole_frames}
use Rattle.sdf_process.proofs.InTurn.{at_most, in_turn_grown, in_turn_split, one_count}
use Rattle.sdf_wav.proofs.Theorems.{puts_join}
use Rattle.sdf_process.proofs.writing.put_in_turn.Goals as goal
use Rattle.std.proofs.Math.Nat.{mul-le-mul_right}

pub put-requires-clause-whole : goal.put-requires-clause-whole
put-requires-clause-whole g c =
    let i : ℕ = c.loop-list.list-index in
    let item : c.deref.result.now ≡ get_or (items_of c.args.parts.now) i [] =
    c.deref.ensures.value ∙ list_read c.args.parts.now i c.list-item.result c.loop-list-test.true c.list-item.is in
    let own = c.requires.room.1.each i (omega (arith, c.loop-list-test.true, length-lists c.args.parts.now)) in
    whole_frames own.0 c.args.output.now.channels (length c.deref.result.now) c.loop-list.output.channels
    (ap length item ∙ own.1) (ap (λ (o : ContentOutValue). o.channels) c.loop-list.invariant.owed.2)

pub put-requires-clause-missing : goal.put-requires-clause-missing
put-requires-clause-missing g c =
    let i : ℕ = c.loop-list.list-index in
    let xs = items_of c.args.parts.now in
    let within : i < length xs = omega (arith, c.loop-list-test.true, length-lists c.args.parts.now) in
    let item : c.deref.result.now ≡ get_or xs i [] =
    c.deref.ensures.value ∙ list_read c.args.parts.now i c.list-item.result c.loop-list-test.true c.list-item.is in
    let own = c.requires.room.1.each i within in
    let owed = c.loop-list.invariant.owed in
    let all : length (in_turn xs) ≤ c.args.output.now.missing * c.args.output.now.channels =
    omega (arith, c.requires.room.1.all, mul-le-mul_right c.args.output.now.channels c.requires.room.2) in
    let left = at_most xs i within c.args.output.now.missing owed.0 own.0 c.args.output.now.channels c.requires.some
    owed.1 own.1 all in
    let missing : c.loop-list.output.missing ≡ c.args.output.now.missing - owed.0 =
    ap (λ (o : ContentOutValue). o.missing) owed.2 in
    fewer_missing own.0 c.args.output.now.channels c.loop-list.output.missing (length c.deref.result.now)
    c.loop-list.output.channels (ap length item ∙ own.1) (ap (λ (o : ContentOutValue). o.channels) owed.2)
    (omega (arith, left, missing))

pub returns-in_err-put-clause-puts : goal.returns-in_err-put-clause-puts
returns-in_err-put-clause-puts g c =
    let i : ℕ = c.loop-list.list-index in
    let xs = items_of c.args.parts.now in
    let within : i < length xs = omega (arith, c.loop-list-test.true, length-lists c.args.parts.now) in
    let item : c.deref.result.now ≡ get_or xs i [] =
    c.deref.ensures.value ∙ list_read c.args.parts.now i c.list-item.result c.loop-list-test.true c.list-item.is in
    let unspent = ap (λ (o : ContentOutValue). o.spent) c.loop-list.invariant.owed.2 ∙ c.requires.unspent in
    put_stopped (g.W.Writer.state c.args.writer.now) (g.W.Writer.state c.loop-list.writer)
    (g.W.Writer.state c.put.new.writer) (in_turn (take i xs)) (get_or xs i []) (in_turn (drop (i + 1) xs))
    (in_turn xs) (in_turn_split xs i within) c.loop-list.invariant.written c.loop-list.invariant.counted
    c.in_err-put.field-0.0 c.from_residual.result
    (subst (λ l. Puts {X = Unit {0}} (g.W.Writer.state c.loop-list.writer).contents
    (g.W.Writer.state c.put.new.writer).contents
    (sample_bytes l) (Err c.in_err-put.field-0.0)) item (c.in_err-put.ensures.writes unspent))
    (c.in_err-put.ensures.counted unspent) c.from_residual.ensures.1

pub loop-list-preserved : goal.loop-list-preserved
loop-list-preserved g c =
    let i : ℕ = c.loop-list.list-index in
    let xs = items_of c.args.parts.now in
    let within : i < length xs = omega (arith, c.loop-list-test.true, length-lists c.args.parts.now) in
    let item : c.deref.result.now ≡ get_or xs i [] =
    c.deref.ensures.value ∙ list_read c.args.parts.now i c.list-item.result c.loop-list-test.true c.list-item.is in
    let own = c.requires.room.1.each i within in
    let owed = c.loop-list.invariant.owed in
    let o = c.args.output.now in
    let unspent = ap (λ (z : ContentOutValue). z.spent) owed.2 ∙ c.requires.unspent in
    let grown : in_turn (take (i + 1) xs) ≡ in_turn (take i xs) ++ get_or xs i [] = in_turn_grown xs i within in
    record {
      written = subst (λ l. Appends (g.W.Writer.state c.args.writer.now).contents
          (g.W.Writer.state c.put.new.writer).contents
          (sample_bytes l)) (sym grown)
          (puts_join (g.W.Writer.state c.args.writer.now).contents (g.W.Writer.state c.loop-list.writer).contents
          (g.W.Writer.state c.put.new.writer).contents (in_turn (take i xs)) (get_or xs i [])
          c.loop-list.invariant.written (subst (λ l. Appends (g.W.Writer.state c.loop-list.writer).contents
          (g.W.Writer.state c.put.new.writer).contents (sample_bytes l)) item (c.in_ok-put.ensures.writes unspent)));
      counted = c.in_ok-put.ensures.counted unspent ∙ c.loop-list.invariant.counted;
      owed = (
        owed.0 + own.0,
        ap length grown ∙ (length-append (in_turn (take i xs)) (get_or xs i [])
            ∙ omega (arith, owed.1, own.1)),
        c.in_ok-put.ensures.owed ∙ owed_on o c.loop-list.output owed.0 (owed.0 + own.0) o.channels
            (length c.deref.result.now) owed.2
            (ap length item ∙ (own.1 ∙ ap (λ k. k * o.channels)
            (let z : own.0 ≡ owed.0 + own.0 - owed.0 = omega arith in z))) refl c.requires.some (omega arith),
      );
    }

pub returns-clause-puts : goal.returns-clause-puts
returns-clause-puts g c =
    let xs = items_of c.args.parts.now in
    let all : take c.loop-list.list-index xs ≡ xs = take_all c.loop-list.list-index xs
    (omega (arith, c.loop-list-test.false, length-lists c.args.parts.now)) in (
      subst (λ l. Appends (g.W.Writer.state c.args.writer.now).contents (g.W.Writer.state c.loop-list.writer).contents
          (sample_bytes (in_turn l))) all c.loop-list.invariant.written,
      c.loop-list.invariant.counted,
    )

pub returns-clause-owed : goal.returns-clause-owed
returns-clause-owed g c = λ frames is.
    let xs = items_of c.args.parts.now in
    let owed = c.loop-list.invariant.owed in
    let all : take c.loop-list.list-index xs ≡ xs = take_all c.loop-list.list-index xs
    (omega (arith, c.loop-list-test.false, length-lists c.args.parts.now)) in
    let same : owed.0 ≡ frames = one_count owed.0 frames c.args.output.now.channels c.requires.some
    (sym owed.1 ∙ (ap (λ l. length (in_turn l)) all ∙ is)) in
    owed.2 ∙ ap (λ k. record c.args.output.now { missing = c.args.output.now.missing - k }) same
