use Rattle.sdf_kit.proofs.fir.Fir.put_each.Given as goal

abbrev pub ghosts-put_plain : goal.ghosts-put_plain
ghosts-put_plain a = record { name = a.blank.name; parts = a.blank.parts }
