use Rattle.std.proofs.Common.{IsUtf8}
use Rattle.program_tests.proofs.commands.has.Given as goal

abbrev pub invariant-loop-part : goal.invariant-loop-part
invariant-loop-part l = IsUtf8 l.rest
