use Rattle.std.proofs.Common.{◌∙◌, sym, rules, ap}
use Rattle.sdf_document.specs.Fault.{unknown_key}
use Rattle.sdf_document.specs.Fault.{borrowed_view}
use Rattle.sdf_document.specs.Tables.{known_keys, none_of}
use Rattle.sdf_document.proofs.Names.{stranger_known, stranger_found}
use Rattle.sdf_document.proofs.table.test_keys.Goals as goal

pub returns-then-not-is_known : goal.returns-then-not-is_known
unfolding known_keys
returns-then-not-is_known c =
    let same = sym c.loop-key.invariant ∙ stranger_found c.args.known.now c.loop-key.key-iterator c.next.new.self
    c.in-Some.key.now c.in-Some.field-0-1.now (search rules) (search rules) in
    rw c.into.ensures (ap (none_of (unknown_key (borrowed_view c.args.borrowed))) same ∙ search rules)

pub loop-key-preserved : goal.loop-key-preserved
loop-key-preserved c =
    sym (stranger_known c.args.known.now c.loop-key.key-iterator c.next.new.self c.in-Some.key.now
    c.in-Some.field-0-1.now (search rules) (search rules)) ∙ c.loop-key.invariant
