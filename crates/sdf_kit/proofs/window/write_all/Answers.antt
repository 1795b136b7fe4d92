use Rattle.std.proofs.Common.{◌≡◌, pos, refl, arith}
use Rattle.sdf_kit.specs.Window.{part_as}
use Rattle.sdf_kit.specs.declared.window.Part.{Part}
use Rattle.sdf_kit.specs.declared.window.Part.TheVariants.{Whole, High, Low}
use Rattle.sdf_kit.proofs.Windows.{all_written}
use Rattle.sdf_kit.proofs.window.write_all.Goals as goal

zero_part : (part : Part) → part_as part (pos 0) ≡ pos 0
zero_part Whole = refl
zero_part High = refl
zero_part Low = refl

pub returns-clause-written : goal.returns-clause-written
returns-clause-written c =
    all_written (part_as c.args.part) c.args.pad c.args.kept.now c.args.taken.now (zero_part c.args.part) c.clear.new.to
    c.write.new.to c.write-2.new.to
    c.write.ensures.len c.write-2.ensures.len (omega (arith, c.clear.ensures.len, c.requires.room))
    c.clear.ensures.zeros c.write.ensures.written c.write.ensures.before c.write-2.ensures.written
    c.write-2.ensures.before
