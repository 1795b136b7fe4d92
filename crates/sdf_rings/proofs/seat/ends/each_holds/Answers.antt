use Rattle.std.proofs.Common.{slice_index, rules, ◌≢◌, ◌≤◌, length, [], arith, get_or-set_other}
use Rattle.rtrb.specs.Ring.{known_items}
use Rattle.sdf_rings.specs.Ends.{Drew}
use Rattle.sdf_rings.proofs.Each.{each_more, each_set, found_short}
use Rattle.sdf_rings.proofs.Looks.{drew_looked, drew_none}
use Rattle.sdf_rings.proofs.seat.ends.each_holds.Goals as goal

pub returns-then-not-holds-clause-looked : goal.returns-then-not-holds-clause-looked
returns-then-not-holds-clause-looked g c = λ k d h.
    each_set (λ j a b. Drew a b []) c.args.ends.now c.loop-i.ends c.loop-i.i c.holds.new.end
    c.index-ends-i.result (omega arith)
    c.loop-i.invariant.rest (λ j e l. (c.loop-i.invariant.done j e l).0) (λ j a. drew_none a)
    (drew_looked _ _ c.holds.ensures.looked) k d

pub returns-then-not-holds-clause-no : goal.returns-then-not-holds-clause-no
returns-then-not-holds-clause-no g c = λ f. found_short (slice_index c.args.sizes.now) (λ e. length (known_items e))
    c.loop-i.ends c.loop-i.i c.holds.new.end (omega arith) (λ h. let v = c.holds.ensures.value.1 (h) in search rules)

pub loop-i-preserved : goal.loop-i-preserved
loop-i-preserved g c = record {
  done = each_more
      (λ j a b. Drew a b [] × ((slice_index c.args.sizes.now) j ≤ length (known_items b)))
      (λ j a b. Drew a b [] × ((slice_index c.args.sizes.now) j ≤ length (known_items b)))
      c.args.ends.now c.loop-i.ends c.loop-i.i c.holds.new.end c.index-ends-i.result (omega arith)
      c.loop-i.invariant.rest c.loop-i.invariant.done (λ j a b l r. r)
      (drew_looked _ _ c.holds.ensures.looked, c.holds.ensures.value.0 (search rules));
  rest = λ k d h. let ne : k ≢ c.loop-i.i = omega arith in
      rw get_or-set_other (c.loop-i.invariant.rest k d (omega arith));
}

pub returns-clause-looked : goal.returns-clause-looked
returns-clause-looked g c = λ k d h. (c.loop-i.invariant.done k d (omega arith)).0
