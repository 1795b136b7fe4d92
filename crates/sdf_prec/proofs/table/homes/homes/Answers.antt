use Rattle.std.proofs.Common.{◌≡◌, ℕ, ◌<◌, ◌↔◌, length, get_or, map, Some, None, sym, ap, ◌∙◌, subst}
use Rattle.std.proofs.Common.{arith}
use Rattle.std.proofs.lemmas.List.{get_or-map}
use Rattle.std.proofs.lemmas.Result.{IfOk-weaker}
use Rattle.sdf_prec.specs.declared.table.homes.HomeColumns.TheVariants.{Nowhere}
use Rattle.sdf_prec.specs.Tables.{IsHome}
use Rattle.sdf_prec.specs.Homes.{home_of, AreHomeColumns, home_columns_of}
use Rattle.sdf_prec.proofs.Standings.{standing_all}
use Rattle.sdf_prec.proofs.table.homes.homes.Goals as goal

pub add_row_columns-requires-clause-known : goal.add_row_columns-requires-clause-known
add_row_columns-requires-clause-known c = λ f st. omega (
  arith,
  c.requires c.loop-i.i f (omega (arith, c.loop-i-test.true)) st,
  ap length c.deref_mut.ensures.value,
  c.loop-i.invariant.all,
)

pub returns-clause-each : goal.returns-clause-each
returns-clause-each c =
    let rs = c.args.rows.now.rows in
    let all = c.deref.result.now in
    let whole : c.loop-i.i ≡ length rs = omega (arith, c.loop-i-test.false) in
    let are : AreHomeColumns rs (length rs) 0 all = subst (λ i. AreHomeColumns rs i 0 all) whole
    (subst (AreHomeColumns rs c.loop-i.i 0) (sym c.deref.ensures.value) c.loop-i.invariant.are) in
    let long : length all ≡ c.args.actors = ap length c.deref.ensures.value ∙ c.loop-i.invariant.all in
    IfOk-weaker c.homes_of.result (λ v. v.items ≡ map home_of all)
    (λ v. (a j : ℕ) → a < c.args.actors → (get_or v.items a None ≡ Some j) ↔ IsHome rs a j)
    (λ v is a j l.
    let known : a < length all = omega arith in
    let at : get_or v.items a None ≡ home_of (home_columns_of all a) =
    ap (λ xs. get_or xs a None) is ∙ get_or-map home_of all a Nowhere None known in
    subst (λ h. (h ≡ Some j) ↔ IsHome rs a j) (sym at) (standing_all rs a j (home_columns_of all a) (are a known)))
    c.homes_of.ensures
