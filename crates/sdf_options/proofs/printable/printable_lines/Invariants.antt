use Rattle.std.proofs.Common.{◌≡◌, ◌++◌, IsUtf8, string_bytes}
use Rattle.std.specs.Str.Iter.{chars_rest}
use Rattle.sdf_options.specs.Printable.{printable_lines}
use Rattle.sdf_options.proofs.printable.printable_lines.Given as goal

abbrev pub invariant-loop-character : goal.invariant-loop-character
invariant-loop-character l = IsUtf8 (chars_rest l.character-iterator)
    × (string_bytes l.shown ++ printable_lines (chars_rest l.character-iterator) ≡ printable_lines l.fn.text)
