use Rattle.std.proofs.Common.{◌≡◌, rules, map, ◌++◌, ◌∷◌, [], arith}
use Rattle.std.proofs.lemmas.Result.{err_from_is_err_and}
use Rattle.std.proofs.lemmas.List.{map_push}
use Rattle.sdf_document.specs.Names.{names_of}
use Rattle.sdf_document.specs.Links.{link_view}
use Rattle.sdf_document.specs.Document.{link_after}
use Rattle.sdf_document.proofs.Turns.{each_more, each_fail, each_done}
use Rattle.sdf_document.proofs.document.links_in.Goals as goal

pub returns-in_err-link : goal.returns-in_err-link
returns-in_err-link c =
    let p = err_from_is_err_and c.from_residual.result c.from_residual.ensures.1 in
    rw (p.1, p.2) (each_fail (link_after (names_of c.args.names.now.keys)) c.in_err-link.field-0.0
    c.args.items.now
    c.loop-number.number c.index-items-number.result (map link_view c.loop-number.links.items) _ (omega arith)
    (search rules) c.loop-number.invariant)

pub loop-number-preserved : goal.loop-number-preserved
loop-number-preserved c =
    let l = c.in_ok-link.link in
    let pushed : c.push.new.self.items ≡ c.loop-number.links.items ++ l ∷ [] = search rules in
    let seen : map link_view c.push.new.self.items ≡ map link_view c.loop-number.links.items ++ link_view l ∷ [] =
    rw pushed (map_push link_view c.loop-number.links.items l) in
    rw seen (each_more (link_after (names_of c.args.names.now.keys)) c.args.items.now c.loop-number.number
    c.index-items-number.result (map link_view c.loop-number.links.items) (link_view l) _ (omega arith)
    (search rules) c.loop-number.invariant)

pub returns : goal.returns
returns c = each_done (link_after (names_of c.args.names.now.keys)) c.args.items.now c.loop-number.number
    _ _ (omega arith)
    c.loop-number.invariant
