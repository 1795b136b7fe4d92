use Rattle.std.proofs.Common.{◌≡◌, ◌++◌, string_bytes}
use Rattle.sdf_analyze.specs.Texts.{link_held_line, lines_to}
use Rattle.sdf_analyze.proofs.lines.push_links_held.Given as goal

abbrev pub invariant-loop-link : goal.invariant-loop-link
invariant-loop-link l = string_bytes l.text ≡ string_bytes l.initial.text
    ++ lines_to (link_held_line l.design l.table.caps) l.link
