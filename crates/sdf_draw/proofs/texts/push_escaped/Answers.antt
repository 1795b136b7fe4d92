use Rattle.std.proofs.Common.{sym, ◌∙◌, append_assoc, append-nil}
use Rattle.std.proofs.lemmas.Str.{IsUtf8-past_char}
use Rattle.sdf_draw.specs.Texts.{escaped_char}
use Rattle.sdf_draw.proofs.Escapes.{chars_step, chars_empty}
use Rattle.sdf_draw.proofs.texts.push_escaped.Goals as goal

pub loop-character-preserved : goal.loop-character-preserved
loop-character-preserved c =
    let held = c.loop-character.invariant in
    let parts = c.in-Some.ensures.steps.0 in
    let step = chars_step (escaped_char c.args.within) _ _ c.in-Some.character held.0 parts in (
      IsUtf8-past_char _ _ c.in-Some.character held.0 parts,
      rw (c.in_ok-push_character.ensures, append_assoc) (rw step at held.1),
    )

pub returns : goal.returns
returns c =
    sym (append-nil _) ∙ rw (chars_empty (escaped_char c.args.within) _ c.in-None.ensures.steps.0.0) at
    c.loop-character.invariant.1
