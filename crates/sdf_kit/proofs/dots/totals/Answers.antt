use Rattle.std.proofs.Common.{w32, refl, ◌∙◌}
use Rattle.sdf_kit.proofs.LaneTotals.{passed, folded, paired, four_totals}
use Rattle.sdf_kit.proofs.dots.totals.Goals as goal

pub pairs-requires-clause-a : goal.pairs-requires-clause-a
pairs-requires-clause-a c =
    passed w32 4 c.folded.result (folded c.args.a c.folded.result c.requires.a c.folded.ensures).0

pub pairs-requires-clause-b : goal.pairs-requires-clause-b
pairs-requires-clause-b c =
    passed w32 4 c.folded-2.result (folded c.args.b c.folded-2.result c.requires.b c.folded-2.ensures).0

pub pairs-requires-2-clause-a : goal.pairs-requires-2-clause-a
pairs-requires-2-clause-a c =
    passed w32 4 c.folded-3.result (folded c.args.c c.folded-3.result c.requires.c c.folded-3.ensures).0

pub pairs-requires-2-clause-b : goal.pairs-requires-2-clause-b
pairs-requires-2-clause-b c =
    passed w32 4 c.folded-4.result (folded c.args.d c.folded-4.result c.requires.d c.folded-4.ensures).0

pub pairs-requires-3-clause-a : goal.pairs-requires-3-clause-a
pairs-requires-3-clause-a c =
    let a = folded c.args.a c.folded.result c.requires.a c.folded.ensures in
    let b = folded c.args.b c.folded-2.result c.requires.b c.folded-2.ensures in
    passed w32 4 c.pairs.result (paired c.folded.result c.folded-2.result c.pairs.result a.0 b.0 c.pairs.ensures).0

pub pairs-requires-3-clause-b : goal.pairs-requires-3-clause-b
pairs-requires-3-clause-b c =
    let a = folded c.args.c c.folded-3.result c.requires.c c.folded-3.ensures in
    let b = folded c.args.d c.folded-4.result c.requires.d c.folded-4.ensures in
    passed w32 4 c.pairs-2.result
    (paired c.folded-3.result c.folded-4.result c.pairs-2.result a.0 b.0 c.pairs-2.ensures).0

pub returns : goal.returns
returns c =
    let a = folded c.args.a c.folded.result c.requires.a c.folded.ensures in
    let b = folded c.args.b c.folded-2.result c.requires.b c.folded-2.ensures in
    let d = folded c.args.c c.folded-3.result c.requires.c c.folded-3.ensures in
    let e = folded c.args.d c.folded-4.result c.requires.d c.folded-4.ensures in
    let p = paired c.folded.result c.folded-2.result c.pairs.result a.0 b.0 c.pairs.ensures in
    let q = paired c.folded-3.result c.folded-4.result c.pairs-2.result d.0 e.0 c.pairs-2.ensures in
    let r = paired c.pairs.result c.pairs-2.result c.pairs-3.result p.0 q.0 c.pairs-3.ensures in
    four_totals c.folded.result c.folded-2.result c.folded-3.result c.folded-4.result c.pairs.result c.pairs-2.result
    c.pairs-3.result a.0 b.0 d.0 e.0 r.0 p.1 q.1 r.1 ∙ rw (a.1, b.1, d.1, e.1) refl
