-- Before the first firing each channel holds what it begins with.
use Rattle.std.proofs.Common.{◌≡◌, ℕ, zero, suc, ◌+◌, ◌<◌, ◌≤◌, List, [], ◌∷◌, ◌++◌, length, get_or, replicate, refl}
use Rattle.std.proofs.Common.{ap, ◌∙◌, subst, inl, inr, ◌⊎◌, arith}
use Rattle.std.proofs.lemmas.List.{get_or_append_left, get_or_push, length-replicate}
use Rattle.std.proofs.lemmas.Bool.{cases_lt}
use Rattle.sdf_graph.specs.Rates.{GraphValue, ChannelValue, IsShape, channel, no_channel}
use Rattle.sdf_graph.specs.CountsValue.{IsKept}

-- one channel more
pub begins_more : (chs : List ChannelValue) (held : List ℕ) (i : ℕ) (e : ChannelValue) → length held ≡ i →
    e ≡ get_or chs i no_channel →
    ((c : ℕ) → c < i → get_or held c 0 ≡ (get_or chs c no_channel).initial) → (c : ℕ) → c < i + 1 →
    get_or (held ++ e.initial ∷ []) c 0 ≡ (get_or chs c no_channel).initial
begins_more chs held i e all is before c l = go (cases_lt c i)
  where
    go : (c < i) ⊎ (i ≤ c) → get_or (held ++ e.initial ∷ []) c 0 ≡ (get_or chs c no_channel).initial
    go (inl below) = get_or_append_left held (e.initial ∷ []) 0 c (omega (arith, all)) ∙ before c below
    go (inr last) =
        let same : i ≡ c = omega arith in
        subst (λ c. get_or (held ++ e.initial ∷ []) c 0 ≡ (get_or chs c no_channel).initial) same
        (get_or_push held e.initial 0 i all ∙ ap (λ (e : ChannelValue). e.initial) is)

none_fired : (n a : ℕ) → ◌≡◌ {A = ℕ} (get_or (replicate n 0) a 0) 0
none_fired zero a = refl
none_fired (suc n) zero = refl
none_fired (suc n) (suc a) = none_fired n a

pub begins : (g : GraphValue) → IsShape g → (fired held : List ℕ) → fired ≡ replicate g.actors 0 →
    length held ≡ length g.channels →
    ((c : ℕ) → c < length g.channels → get_or held c 0 ≡ (channel g c).initial) →
    IsKept (record { graph = g; fired = fired }) held
begins g shape fired held none all each = record {
  shape = shape;
  all = ap length none ∙ length-replicate g.actors 0;
  each = all;
  small = λ a. omega (arith, still a);
  enough = λ c l. rw (still (channel g c).to) (omega arith);
  same = λ c l. rw (still (channel g c).to, still (channel g c).from) (omega (arith, each c l));
}
  where
    still : (a : ℕ) → get_or fired a 0 ≡ 0
    still a = ap (λ (xs : List ℕ). get_or xs a 0) none ∙ none_fired g.actors a
