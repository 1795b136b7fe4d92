use Rattle.std.proofs.Common.{◌≡◌, ◌≤◌, ◌<◌, ℕ, [], ◌∷◌, slice_index, length, get_or, sym, ap, ◌∙◌, subst, arith}
use Rattle.std.proofs.Common.{below_more, length-append}
use Rattle.std.proofs.lemmas.List.{get_or_append_left, get_or_push}
use Rattle.sdf_actor.specs.Nets.{node}
use Rattle.sdf_warm_up.specs.declared.warm_up.TheConstants.{MAX_FIRINGS}
use Rattle.sdf_warm_up.specs.Warm.{NodeForgets, IsLeast}
use Rattle.sdf_warm_up.proofs.warm_up.memories_of.Goals as goal

pub loop-a-preserved : goal.loop-a-preserved
loop-a-preserved g c =
    let s = g.A.Actor.steps in
    let n = c.args.net.now in
    let a : ℕ = c.loop-a.a in
    let old = c.loop-a.memories.items in
    let new = c.push.new.self.items in
    let m = c.in-Some.firings in
    let was = c.loop-a.invariant in
    let is = c.in_ok-push-in-Some.ensures.items in
    let before : (i : ℕ) → i < a → slice_index old i ≡ slice_index new i =
    λ i l. sym (ap (λ xs. get_or xs i 0) is ∙ get_or_append_left old (m ∷ []) 0 i (omega (arith, l, was.all))) in
    let here : m ≡ slice_index new a = sym (ap (λ xs. get_or xs a 0) is ∙ get_or_push old m 0 a was.all) in
    record {
      all = omega (arith, ap length is, length-append old (m ∷ []), was.all);
      few = below_more (λ i. slice_index new i ≤ MAX_FIRINGS) a
          (λ i l. subst (λ k. k ≤ MAX_FIRINGS) (before i l) (was.few i l))
          (subst (λ k. k ≤ MAX_FIRINGS) here c.if-firings-le-MAX_FIRINGS.true);
      each = below_more (λ i. IsLeast (NodeForgets s (node n i)) (slice_index new i)) a
          (λ i l. subst (IsLeast (NodeForgets s (node n i))) (before i l) (was.each i l))
          (subst (IsLeast (NodeForgets s (node n a))) here
          (subst (λ x. IsLeast (NodeForgets s x) m) c.node.ensures.value c.in-Some.ensures));
    }
