-- The balance of a channel, at relative rates of the actors.
use Rattle.std.proofs.Common.{◌≡◌, ℕ, ◌*◌, ◌≤◌, ◌<◌, List, length, sym, ap, ◌∙◌, subst, arith, refl}
use Rattle.std.proofs.Math.Nat.{mul-le-mul}
use Rattle.sdf_limits.specs.declared.TheConstants.{MAX_PERIOD}
use Rattle.sdf_graph.specs.Rates.{GraphValue, IsShape, channel, cycle}
use Rattle.sdf_graph.specs.RelativeRates.{AreRatios, IsReduced, IsBalanced, IsBalancedAt, ratio, totals}
use Rattle.sdf_graph.specs.Balances.{IsBalance}
use Rattle.sdf_graph.specs.declared.channel.Totals.{Totals}
use Rattle.sdf_graph.specs.declared.repetitions.Ratio.{Ratio}
use Rattle.sdf_graph.specs.declared.balance.Balance.{Balance}
use Rattle.sdf_graph.proofs.Shapes.{whole_cycles}
use Rattle.sdf_graph.proofs.RatioLaws.{no_greater}

pub reduced_small : (n d a b : ℕ) → 0 < n → 0 < d → IsReduced n d a b → (a ≤ n) × (b ≤ d)
reduced_small n d a b top bottom red =
    (no_greater a n top (red.scale, red.top), no_greater b d bottom (red.scale, red.bottom))

pub product_small : (a b : ℕ) → a ≤ MAX_PERIOD → b ≤ MAX_PERIOD → a * b ≤ MAX_PERIOD * MAX_PERIOD
product_small a b h k = mul-le-mul h k

pub meets : (g : GraphValue) → IsShape g → (ratios : List Ratio) → AreRatios g ratios → (c : ℕ) →
    c < length g.channels →
    (t : Totals) → t ≡ totals (channel g c) → (turns : Ratio) →
    IsReduced ((ratio ratios t.from).num * (ratio ratios t.to).den)
    ((ratio ratios t.to).num * (ratio ratios t.from).den)
    turns.num turns.den →
    (m : Balance) → m.source ≡ turns.num * cycle g t.from → m.target ≡ turns.den * cycle g t.to →
    m.puts ≡ turns.num * t.put → m.takes ≡ turns.den * t.take →
    (is : IsBalance g c m) × (is.ratios ≡ ratios)
meets g shape ratios shares c known t e turns red m source target puts takes = (
  record {
    shape = shape;
    known = known;
    ratios = ratios;
    shares = shares;
    source_cycles = turns.num;
    target_cycles = turns.den;
    fewest = subst (λ (t : Totals). IsReduced ((ratio ratios t.from).num * (ratio ratios t.to).den)
        ((ratio ratios t.to).num * (ratio ratios t.from).den) turns.num turns.den) e red;
    source = fired;
    target = answered;
    puts = puts ∙ (ap (λ (t : Totals). turns.num * t.put) e
        ∙ sym (whole_cycles _ (channel g c).put (shape.put c known) turns.num m.source fired));
    takes = takes ∙ (ap (λ (t : Totals). turns.den * t.take) e
        ∙ sym (whole_cycles _ (channel g c).take (shape.take c known) turns.den m.target answered));
  },
  refl,
)
  where
    fired : m.source ≡ turns.num * cycle g (channel g c).from
    fired = source ∙ ap (λ (t : Totals). turns.num * cycle g t.from) e

    answered : m.target ≡ turns.den * cycle g (channel g c).to
    answered = target ∙ ap (λ (t : Totals). turns.den * cycle g t.to) e

-- where as much is put as is taken, the relative rates balance the channel
pub evenly : (g : GraphValue) (ratios : List Ratio) (c : ℕ) (t : Totals) → t ≡ totals (channel g c) → (turns : Ratio) →
    IsReduced ((ratio ratios t.from).num * (ratio ratios t.to).den)
    ((ratio ratios t.to).num * (ratio ratios t.from).den)
    turns.num turns.den →
    turns.num * t.put ≡ turns.den * t.take → IsBalancedAt g ratios c
evenly g ratios c t e turns red same = subst (IsBalanced ratios) e
    (omega (
      arith,
      ap (λ m. m * t.put) red.top,
      ap (λ m. m * t.take) red.bottom,
      ap (λ m. red.scale * m) same,
    ))
