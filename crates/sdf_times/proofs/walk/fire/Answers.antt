use Rattle.std.proofs.Common.{◌≡◌, ℕ, ◌+◌, ◌⊎◌, ◌++◌, ◌∷◌, [], get_or, set, sym, ap, ◌∙◌, subst, arith}
use Rattle.std.proofs.lemmas.List.{get_or_read}
use Rattle.sdf_graph.specs.Rates.{rates}
use Rattle.sdf_times.specs.Times.{IsGreatest, start_in}
use Rattle.sdf_times.specs.Walks.{IsNeedEnd}
use Rattle.sdf_times.proofs.Greatest.{greatest_or}
use Rattle.sdf_times.proofs.walk.fire.Goals as goal

pub returns : goal.returns
returns c =
    let r = rates c.args.graph.now in
    let cost : ℕ → ℕ = λ a. get_or c.args.costs.now a 0 in
    let starts = c.args.starts.now.items in
    let until = c.args.until.now.items in
    let f = c.args.firing in
    let j : ℕ = c.args.column in
    let before : c.index.result.now ≡ get_or until j 0 =
    get_or_read until j c.index.result.now c.requires.column c.index.ensures 0 in
    let needs = subst (λ xs. IsGreatest (IsNeedEnd r cost (start_in xs) f) c.ready_time.result) c.deref.ensures.value
    c.ready_time.ensures in
    let is = subst (λ (s : ℕ). IsGreatest (λ u. (u ≡ s) ⊎ IsNeedEnd r cost (start_in starts) f u)
    c.max-start.result) before
    (subst (IsGreatest (λ u. (u ≡ c.index.result.now) ⊎ IsNeedEnd r cost (start_in starts) f u))
    (sym c.max-start.ensures) (greatest_or (IsNeedEnd r cost (start_in starts) f) c.index.result.now
    c.ready_time.result needs)) in
    let line : c.index_mut-2.result.now ≡ get_or starts f.actor [] =
    get_or_read starts f.actor c.index_mut-2.result.now
    (omega (arith, c.requires.prepared.of, c.requires.prepared.actors)) c.index_mut-2.ensures.value [] in
    let paid : c.from.result ≡ cost f.actor = c.from.ensures ∙ c.of.ensures.is in
    record {
      start = c.max-start.result;
      is = is;
      starts_are = ap (set starts f.actor) (c.in_ok-push.ensures ∙ ap (λ xs. xs ++ c.max-start.result ∷ []) line);
      until_are = ap (λ x. set until j (c.max-start.result + x)) paid;
    }
