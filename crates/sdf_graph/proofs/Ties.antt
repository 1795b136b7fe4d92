-- Channels that relative rates balance join the actors of a walk to actor 0.
use Rattle.std.proofs.Common.{◌≡◌, ℕ, ◌*◌, ◌<◌, Bool, true, false, List, length, set, sym, ap, ◌∙◌, subst, inl, inr}
use Rattle.std.proofs.Common.{◌⊎◌, arith}
use Rattle.std.proofs.lemmas.List.{get_or-set_same, get_or-set_other}
use Rattle.std.proofs.lemmas.Bool.{both_ways}
use Rattle.sdf_graph.specs.Rates.{GraphValue, channel}
use Rattle.sdf_graph.specs.Marks.{is_marked, IsAcross, IsBorder}
use Rattle.sdf_graph.specs.RelativeRates.{IsReduced, IsReachedBy, start, along, back, IsBalancedAt, IsBalancedWithin}
use Rattle.sdf_graph.specs.RelativeRates.{ratio, totals}
use Rattle.sdf_graph.specs.RelativeRates.{unreached}
use Rattle.sdf_graph.specs.declared.channel.Totals.{Totals}
use Rattle.sdf_graph.specs.declared.repetitions.Ratio.{Ratio}
use Rattle.sdf_graph.proofs.Marks.{is_marked-set, is_marked-kept, beyond_to, beyond_from}

-- what is reached by channels with a property is reached by channels with one that follows
pub tied_by : (g : GraphValue) (P Q : ℕ → Type 0) → ((c : ℕ) → P c → Q c) → (a : ℕ) → IsReachedBy g P a →
    IsReachedBy g Q a
tied_by g P Q by _ start = start
tied_by g P Q by _ (along c l p t) = along c l (by c p) (tied_by g P Q by (channel g c).from t)
tied_by g P Q by _ (back c l p t) = back c l (by c p) (tied_by g P Q by (channel g c).to t)

module _ (g : GraphValue) (ratios : List Ratio) (marked : List Bool) (c x : ℕ) (f : Ratio)
    (border : IsBorder g.channels marked c x) where
  -- the relative rate of a marked actor stays
  stays : (a : ℕ) → is_marked marked a ≡ true → ratio (set ratios x f) a ≡ ratio ratios a
  stays a on = get_or-set_other ratios x a f unreached
      (λ e. both_ways (is_marked marked x) border.fresh (ap (is_marked marked) (sym e) ∙ on))

  -- and so does a channel between marked ones
  even_stays : (d : ℕ) → IsBalancedWithin g ratios marked d → IsBalancedWithin g (set ratios x f) (set marked x true) d
  even_stays d e = record {
    even = rw (stays (channel g d).from e.from, stays (channel g d).to e.to) e.even;
    from = is_marked-kept marked x (channel g d).from border.within e.from;
    to = is_marked-kept marked x (channel g d).to border.within e.to;
  }

  here : is_marked (set marked x true) x ≡ true
  here = get_or-set_same marked x true false border.within

  -- one actor more
  pub tied_more : ((a : ℕ) → is_marked marked a ≡ true → IsReachedBy g (IsBalancedWithin g ratios marked) a) →
      IsBalancedAt g (set ratios x f) c → (a : ℕ) → is_marked (set marked x true) a ≡ true →
      IsReachedBy g (IsBalancedWithin g (set ratios x f) (set marked x true)) a
  tied_more before even a on = go (is_marked-set marked x a on)
    where
      New : ℕ → Type 0
      New = IsBalancedWithin g (set ratios x f) (set marked x true)

      old : (b : ℕ) → is_marked marked b ≡ true → IsReachedBy g New b
      old b is = tied_by g (IsBalancedWithin g ratios marked) New even_stays b (before b is)

      over : IsAcross marked (channel g c).from (channel g c).to x
          ⊎ IsAcross marked (channel g c).to (channel g c).from x → IsReachedBy g New x
      over (inl at) = subst (IsReachedBy g New) at.is_far (along c border.known (record {
        even = even;
        from = is_marked-kept marked x (channel g c).from border.within at.is_near;
        to = ap (is_marked (set marked x true)) at.is_far ∙ here;
      }) (old (channel g c).from at.is_near))
      over (inr at) = subst (IsReachedBy g New) at.is_far (back c border.known (record {
        even = even;
        from = ap (is_marked (set marked x true)) at.is_far ∙ here;
        to = is_marked-kept marked x (channel g c).to border.within at.is_near;
      }) (old (channel g c).to at.is_near))

      go : (a ≡ x) ⊎ (is_marked marked a ≡ true) → IsReachedBy g New a
      go (inl e) = subst (IsReachedBy g New) (sym e) (over border.ends)
      go (inr is) = old a is

  module _ (within : x < length ratios) where
    -- the relative rate of the end beyond is the new one
    anew : (a : ℕ) → a ≡ x → ratio (set ratios x f) a ≡ f
    anew a e = ap (ratio (set ratios x f)) e ∙ get_or-set_same ratios x f unreached within

    from_at : is_marked marked (channel g c).from ≡ true →
        IsReduced ((ratio ratios (channel g c).from).num * (totals (channel g c)).put)
        ((ratio ratios (channel g c).from).den * (totals (channel g c)).take) f.num f.den →
        IsBalancedAt g (set ratios x f) c
    from_at near red =
        let far = beyond_to marked (channel g c).from (channel g c).to x border.fresh border.ends near in
        rw (stays (channel g c).from near, anew (channel g c).to far)
        (omega (arith, ap (λ m. m * f.den) red.top, ap (λ m. m * f.num) red.bottom))

    to_at : is_marked marked (channel g c).from ≡ false →
        IsReduced ((ratio ratios (channel g c).to).num * (totals (channel g c)).take)
        ((ratio ratios (channel g c).to).den * (totals (channel g c)).put) f.num f.den →
        IsBalancedAt g (set ratios x f) c
    to_at off red =
        let far = beyond_from marked (channel g c).from (channel g c).to x border.ends off in
        rw (anew (channel g c).from far.0, stays (channel g c).to far.1)
        (omega (arith, ap (λ m. m * f.den) red.top, ap (λ m. m * f.num) red.bottom))

    -- so it balances the channel, by what a graph keeps
    pub even_from : (t : Totals) → t ≡ totals (channel g c) → is_marked marked t.from ≡ true →
        IsReduced ((ratio ratios t.from).num * t.put) ((ratio ratios t.from).den * t.take) f.num f.den →
        IsBalancedAt g (set ratios x f) c
    even_from t e = subst (λ (t : Totals). is_marked marked t.from ≡ true →
        IsReduced ((ratio ratios t.from).num * t.put) ((ratio ratios t.from).den * t.take) f.num f.den →
        IsBalancedAt g (set ratios x f) c) (sym e) from_at

    pub even_to : (t : Totals) → t ≡ totals (channel g c) → is_marked marked t.from ≡ false →
        IsReduced ((ratio ratios t.to).num * t.take) ((ratio ratios t.to).den * t.put) f.num f.den →
        IsBalancedAt g (set ratios x f) c
    even_to t e = subst (λ (t : Totals). is_marked marked t.from ≡ false →
        IsReduced ((ratio ratios t.to).num * t.take) ((ratio ratios t.to).den * t.put) f.num f.den →
        IsBalancedAt g (set ratios x f) c) (sym e) to_at
