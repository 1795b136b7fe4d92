use Rattle.std.proofs.Common.{◌≡◌, ◌++◌, IsUtf8, string_bytes}
use Rattle.std.specs.Str.Iter.{chars_rest}
use Rattle.sdf_draw.specs.Texts.{escaped}
use Rattle.sdf_draw.proofs.texts.push_escaped.Given as goal

abbrev pub invariant-loop-character : goal.invariant-loop-character
invariant-loop-character l = IsUtf8 (chars_rest l.character-iterator)
    × (string_bytes l.text ++ escaped l.fn.within (chars_rest l.character-iterator) ≡
    string_bytes l.initial.text ++ escaped l.fn.within l.fn.word)
