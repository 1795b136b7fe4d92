use Rattle.std.proofs.Common.{◌≡◌, rules, ◌++◌, ◌∷◌, []}
use Rattle.std.proofs.lemmas.Result.{err_from_is_err_and}
use Rattle.toml.specs.View.{table_view}
use Rattle.sdf_document.specs.Lists.{lookup_of, are_read}
use Rattle.sdf_document.proofs.Keys.{value_more, value_fail, values_done, forms_more, forms_done}
use Rattle.sdf_document.proofs.key.values_at.Goals as goal

pub returns-in_err-value-clause-given : goal.returns-in_err-value-clause-given
returns-in_err-value-clause-given c =
    let p = err_from_is_err_and c.from_residual.result c.from_residual.ensures.1 in
    rw (p.1, p.2) (value_fail c.args.actor (lookup_of c.args.files) (table_view c.args.table.now)
    c.in_err-value.field-0.0 c.loop-key.values.items c.args.keys.now c.loop-key.key-index _ _ _ c.loop-key-test.true
    c.name.ensures c.in_err-value.ensures.given c.loop-key.invariant.given)

pub loop-key-preserved : goal.loop-key-preserved
loop-key-preserved c =
    let v = c.in_ok-value.value in
    let pushed : c.push.new.self.items ≡ c.loop-key.values.items ++ v ∷ [] = search rules in record {
      given = rw pushed (value_more c.args.actor (lookup_of c.args.files) (table_view c.args.table.now)
          c.loop-key.values.items c.args.keys.now c.loop-key.key-index _ v _ _ c.loop-key-test.true c.name.ensures
          c.in_ok-value.ensures.given c.loop-key.invariant.given);
      within = λ left h. rw pushed (forms_more (are_read c.args.files) c.args.keys.now c.args.keys.now
          c.loop-key.values.items left c.loop-key.key-index _ v c.loop-key-test.true
          c.in_ok-value.ensures.within c.loop-key.invariant.within h);
    }

pub returns-clause-given : goal.returns-clause-given
returns-clause-given c =
    values_done c.args.actor (lookup_of c.args.files) (table_view c.args.table.now) c.loop-key.values.items
    c.args.keys.now c.loop-key.key-index _ c.loop-key-test.false c.loop-key.invariant.given

pub returns-clause-within : goal.returns-clause-within
returns-clause-within c = forms_done (are_read c.args.files) c.args.keys.now c.args.keys.now c.loop-key.values.items
    c.loop-key.key-index c.loop-key-test.false c.loop-key.invariant.within
