-- Which firings are ready once others have started or ended.
use Rattle.std.proofs.Common.{◌≡◌, ℕ, ◌+◌, ◌≤◌, ◌⊎◌, List, length, get_or, set, sym, ap, ◌∙◌, subst, inl, inr, arith}
use Rattle.std.proofs.Common.{Option, Some, None, true}
use Rattle.std.proofs.lemmas.Bool.{eq-eqb, eqb-true}
use Rattle.std.proofs.lemmas.List.{get_or-set_other}
use Rattle.sdf_graph.specs.Rates.{Rates, IsSound}
use Rattle.sdf_sched.proofs.Theorems.{enabled_stays}
use Rattle.sdf_prec.specs.declared.firing.Firing.{Firing}
use Rattle.sdf_prec.specs.Floor.{IsNextReady, AreStarted, AreEnded}
use Rattle.sdf_prec.specs.Queued.{IsApart, HasRested, is_next}
use Rattle.sdf_prec.proofs.Floors.{column_known}
use Rattle.sdf_prec.proofs.Pushes.{actor_in}

-- the firings of a row have started
module _ {r : Rates} {n cost : ℕ → ℕ} {now : ℕ} {cells : List (Option Firing)} {ended : ℕ → ℕ}
    {started whose until whose' until' : ℕ → ℕ} (starts : List ℕ)
    (begun : AreStarted cost now (length cells) cells started whose until (λ a. get_or starts a 0) whose' until')
    (each : (j : ℕ) (f : Firing) → get_or cells j None ≡ Some f → IsNextReady r n ended started f) where
  pub still_ready : (f : Firing) → IsNextReady r n ended (λ a. get_or starts a 0) f →
      IsNextReady r n ended started f × (is_next starts f ≡ true)
  still_ready f h = (go (actor_in cells f.actor), eq-eqb _ _ (sym h.next))
    where
      go : ((j : ℕ) × (g : Firing) × (get_or cells j None ≡ Some g) × (g.actor ≡ f.actor))
          ⊎ ((j : ℕ) (g : Firing) → get_or cells j None ≡ Some g → g.actor ≡ f.actor → ⊥) →
          IsNextReady r n ended started f
      go (inl (j, g, at, is)) =
          let now_is : get_or starts g.actor 0 ≡ g.number + 1 = (begun.each j g (column_known cells j g at) at).0 in
          let then : get_or starts f.actor 0 ≡ g.number + 1 = ap (λ a. get_or starts a 0) (sym is) ∙ now_is in
          let had : ended f.actor ≡ g.number =
          ap ended (sym is) ∙ ((each j g at).through ∙ sym (each j g at).next) in
          absurd (omega (arith, h.through))
      go (inr none) =
          let same : get_or starts f.actor 0 ≡ started f.actor = begun.others f.actor (λ j g l. none j g) in
          record {
            known = h.known;
            within = h.within;
            next = h.next ∙ same;
            through = h.through ∙ same;
            on = h.on;
          }

  pub ready_then : (f : Firing) → IsNextReady r n ended started f → is_next starts f ≡ true →
      IsNextReady r n ended (λ a. get_or starts a 0) f
  ready_then f h e =
      let is : get_or starts f.actor 0 ≡ f.number = eqb-true _ _ e in
      record {
        known = h.known;
        within = h.within;
        next = sym is;
        through = h.through ∙ (sym h.next ∙ sym is);
        on = h.on;
      }

-- firings have ended
module _ {r : Rates} {n : ℕ → ℕ} {now i : ℕ} {started whose until : ℕ → ℕ} {old new : List ℕ}
    (ended : AreEnded now i whose until old new) (rises : (a : ℕ) → get_or old a 0 ≤ get_or new a 0)
    (busy : (j : ℕ) → until j ≡ now → get_or old (whose j) 0 + 1 ≡ started (whose j)) where
  pub ready_on : IsSound r → (f : Firing) → IsNextReady r n (λ a. get_or old a 0) started f →
      IsNextReady r n (λ a. get_or new a 0) started f
  ready_on sound f h =
      let same : get_or new f.actor 0 ≡ get_or old f.actor 0 = ended.same f.actor (λ j l is its. idle j is its) in
      record {
        known = h.known;
        within = h.within;
        next = h.next;
        through = same ∙ h.through;
        on = enabled_stays r sound (λ a. get_or old a 0) (λ a. get_or new a 0) f.actor (sym same) (λ b l. rises b) h.on;
      }
    where
      -- an actor that is at work has no ready firing
      idle : (j : ℕ) → until j ≡ now → whose j ≡ f.actor → ⊥
      idle j is its =
          let last = subst (λ a. get_or old a 0 + 1 ≡ started a) its (busy j is) in
          omega (arith, h.through)

  pub ready_before : (f : Firing) → IsNextReady r n (λ a. get_or new a 0) started f → HasRested r old new f.actor →
      IsNextReady r n (λ a. get_or old a 0) started f
  ready_before f h rested = record {
    known = h.known;
    within = h.within;
    next = h.next;
    through = sym rested.own ∙ h.through;
    on = λ c l to.
        let own : get_or new (r.target c) 0 ≡ get_or old (r.target c) 0 =
        ap (λ a. get_or new a 0) to ∙ (rested.own ∙ ap (λ a. get_or old a 0) (sym to)) in
        let source : get_or new (r.source c) 0 ≡ get_or old (r.source c) 0 = rested.sources c l to in
        subst (λ k. r.consumed c (k + 1) ≤ r.initial c + r.produced c (get_or old (r.source c) 0)) own
        (subst (λ k. r.consumed c (get_or new (r.target c) 0 + 1) ≤ r.initial c + r.produced c k) source
        (h.on c l to));
  }

-- one actor more has fired
pub rested_more : (r : Rates) (actor x a : ℕ) (old new : List ℕ) → HasRested r old new a → IsApart r actor a →
    HasRested r old (set new actor x) a
rested_more r actor x a old new h apart = record {
  own = get_or-set_other new actor a x 0 apart.other ∙ h.own;
  sources = λ c l to. get_or-set_other new actor (r.source c) x 0 (λ e. apart.feeds c l e to) ∙ h.sources c l to;
}
