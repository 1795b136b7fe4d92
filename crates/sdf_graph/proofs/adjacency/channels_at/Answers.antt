use Rattle.std.proofs.Common.{◌≡◌, ◌+◌, ℕ, List, length, get_or, sym, ap, ◌∙◌, subst, arith, Vec, Global}
use Rattle.std.proofs.lemmas.List.{get_or_read}
use Rattle.sdf_graph.specs.Rates.{no_channel}
use Rattle.sdf_graph.specs.Adjacency.{ListsExactly, actor_at}
use Rattle.sdf_graph.proofs.Lists.{lists_none, lists_push, lists_skip}
use Rattle.sdf_graph.proofs.adjacency.channels_at.Goals as goal
use Rattle.sdf_graph.proofs.adjacency.channels_at.Goals.{then-actor_at-actor+in_ok-push, else-actor_at-actor}

pub loop-number-init : goal.loop-number-init
loop-number-init c =
    let P : ℕ → Type 0 = λ d. actor_at c.args.end (get_or c.args.channels.now d no_channel) ≡ c.args.actor in
    subst (λ (xs : List ℕ). ListsExactly P 0 xs) (sym c.new-list.ensures.items) (lists_none P)

pub loop-number-preserved : goal.loop-number-preserved
loop-number-preserved c =
    let P : ℕ → Type 0 = λ d. actor_at c.args.end (get_or c.args.channels.now d no_channel) ≡ c.args.actor in
    let n : ℕ = c.loop-number.number in
    let xs : List ℕ = c.loop-number.list.items in
    let read = get_or_read c.args.channels.now n c.index-channels-number.result c.loop-number-test.true
    c.index-channels-number.is no_channel in
    let at : actor_at c.args.end (get_or c.args.channels.now n no_channel) ≡ c.actor_at.result =
    ap (actor_at c.args.end) (sym read) ∙ sym c.actor_at.ensures in
    let items : Vec ℕ Global → List ℕ = λ v. v.items in
    elim c.if-actor_at-actor.branch [
      | then-actor_at-actor+in_ok-push w ↦ subst (λ (xs : List ℕ). ListsExactly P (n + 1) xs)
          (sym (ap items w.list-is ∙ w.in_ok-push.ensures.items))
          (lists_push P n xs c.loop-number.invariant (at ∙ w.if-actor_at-actor.true))
      | else-actor_at-actor w ↦ subst (λ (xs : List ℕ). ListsExactly P (n + 1) xs) (sym (ap items w.list-is))
          (lists_skip P n xs c.loop-number.invariant (λ e. w.if-actor_at-actor.false (sym at ∙ e)))
    ]

pub returns : goal.returns
returns c =
    let P : ℕ → Type 0 = λ d. actor_at c.args.end (get_or c.args.channels.now d no_channel) ≡ c.args.actor in
    let end : c.loop-number.number ≡ length c.args.channels.now = omega arith in
    subst (λ n. ListsExactly P n c.loop-number.list.items) end c.loop-number.invariant
