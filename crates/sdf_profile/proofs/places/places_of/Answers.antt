use Rattle.std.proofs.Common.{rules, ◌≡◌, ◌∙◌, ◌⊎◌, ◌<◌, length, Err}
use Rattle.sdf_profile.specs.declared.unwritten.Unwritten.TheVariants.{OutOfMemory}
use Rattle.sdf_profile.specs.Places.{found_view, places_of}
use Rattle.sdf_profile.proofs.FirstLines.{line_turn, line_fault}
use Rattle.sdf_profile.proofs.places.places_of.Goals as goal

pub lines-preserved : goal.lines-preserved
lines-preserved c =
    let some : 0 < length c.lines.rest.now = search rules in
    let turn = line_turn c.lines.start c.line_length.result c.lines.rest.now c.split_at.result.0.now
    c.split_at.result.1.now (found_view c.lines.found) (found_view c.line.new.self) c.line_length.ensures.exactly
    c.split_at.ensures.front c.split_at.ensures.back some (search rules) in
    record { all = search rules; same = turn ∙ c.lines.invariant.same }

pub returns-in_err-line : goal.returns-in_err-line
returns-in_err-line c =
    let some : 0 < length c.lines.rest.now = search rules in
    let known : (c.in_err-line.field-0.0 ≡ OutOfMemory) ⊎ (places_of c.args.graph.now ≡ Err c.in_err-line.field-0.0) =
    line_fault c.lines.start c.line_length.result c.lines.rest.now c.split_at.result.0.now
    (found_view c.lines.found) c.in_err-line.field-0.0 c.args.graph.now c.line_length.ensures.exactly
    c.split_at.ensures.front some c.lines.invariant.same c.in_err-line.ensures in
    search (rules, known)
