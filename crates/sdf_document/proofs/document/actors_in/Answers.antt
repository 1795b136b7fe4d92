use Rattle.std.proofs.Common.{◌≡◌, ◌∙◌, rules, sym, map, ◌++◌, ◌∷◌, [], arith, get_or, Ok, string_bytes}
use Rattle.std.proofs.lemmas.Result.{err_from_is_err_and}
use Rattle.std.proofs.lemmas.List.{map_push}
use Rattle.std.proofs.lemmas.List.Elements.{All-push}
use Rattle.toml.specs.View.{view}
use Rattle.sdf_document.specs.Fault.{Fails}
use Rattle.sdf_document.specs.Names.{names_of, IsNamed}
use Rattle.sdf_document.specs.Actors.{ActorValue, actor_view, names_in, actor_at, IsActorWithin}
use Rattle.sdf_document.specs.Lists.{lookup_of, are_read}
use Rattle.sdf_document.specs.Document.{actor_after}
use Rattle.sdf_document.proofs.Turns.{each_more, each_fail, each_done}
use Rattle.sdf_document.proofs.FirstSeen.{distinct_more}
use Rattle.sdf_document.proofs.document.actors_in.Goals as goal

pub returns-in_err-actor-clause-given : goal.returns-in_err-actor-clause-given
returns-in_err-actor-clause-given c =
    let p = err_from_is_err_and c.from_residual.result c.from_residual.ensures.1 in
    let read : Fails c.in_err-actor.field-0.0 (actor_at c.loop-number.number c.args.format (lookup_of c.args.files)
    (names_in (map actor_view c.loop-number.actors.items))
    (view (get_or c.args.items.now c.loop-number.number c.index-items-number.result))) =
    rw (← c.loop-number.invariant.named) (search rules) in
    rw (p.1, p.2) (each_fail (actor_after c.args.format (lookup_of c.args.files)) c.in_err-actor.field-0.0
    c.args.items.now c.loop-number.number c.index-items-number.result (map actor_view c.loop-number.actors.items)
    _ (omega arith) read c.loop-number.invariant.given)

pub loop-number-preserved : goal.loop-number-preserved
loop-number-preserved c =
    let a = c.in_ok-actor.actor in
    let before = c.loop-number.actors.items in
    let read : actor_at c.loop-number.number c.args.format (lookup_of c.args.files) (names_in (map actor_view before))
    (view (get_or c.args.items.now c.loop-number.number c.index-items-number.result)) ≡ Ok (actor_view a) =
    rw (← c.loop-number.invariant.named) (search rules) in
    let pushed : c.push.new.self.items ≡ before ++ a ∷ [] = search rules in
    let seen : map actor_view c.push.new.self.items ≡ map actor_view before ++ actor_view a ∷ [] =
    rw pushed (map_push actor_view before a) in
    let more : names_in (map actor_view c.push.new.self.items) ≡
    names_in (map actor_view before) ++ string_bytes a.name ∷ [] =
    rw seen (map_push (λ (e : ActorValue). e.name) (map actor_view before) (actor_view a)) in
    let named : IsNamed (names_in (map actor_view before)) (string_bytes a.name) (names_of c.actor_at.new.names.keys) =
    rw (← c.loop-number.invariant.named) c.in_ok-actor.ensures.named in record {
      given = rw seen (each_more (actor_after c.args.format (lookup_of c.args.files)) c.args.items.now
          c.loop-number.number c.index-items-number.result (map actor_view before) (actor_view a)
          _ (omega arith) read c.loop-number.invariant.given);
      named = named.1 ∙ sym more;
      distinct = distinct_more (names_in (map actor_view before)) (string_bytes a.name) _
          c.loop-number.invariant.distinct (named.0, more);
      within = rw pushed (All-push (IsActorWithin (are_read c.args.files)) before a
          c.loop-number.invariant.within (search rules));
    }

pub returns-clause-given : goal.returns-clause-given
returns-clause-given c = each_done (actor_after c.args.format (lookup_of c.args.files)) c.args.items.now
    c.loop-number.number _ _ (omega arith) c.loop-number.invariant.given
