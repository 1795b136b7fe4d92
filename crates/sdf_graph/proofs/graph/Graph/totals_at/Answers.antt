use Rattle.std.proofs.Common.{◌≡◌, ◌<◌, ℕ, List, length, map, arith, ap, sym, ◌∙◌, subst, get_or}
use Rattle.std.proofs.lemmas.List.{get_or_read, length-map}
use Rattle.sdf_graph.specs.Rates.{GraphValue, IsShape, channel}
use Rattle.sdf_graph.specs.RelativeRates.{AreWithin, totals, no_totals}
use Rattle.sdf_graph.specs.declared.channel.Totals.{Totals}
use Rattle.sdf_graph.proofs.Shapes.{cycle_small}
use Rattle.sdf_graph.proofs.RatioLaws.{totals_kept}
use Rattle.sdf_graph.proofs.graph.Graph.totals_at.Goals as goal

-- each channel has its sums
is_known : (g s : GraphValue) (kept : List Totals) (c : ℕ) → s ≡ g → kept ≡ map totals s.channels →
    c < length g.channels →
    c < length kept
is_known g s kept c same sums known =
    let kept_is : kept ≡ map totals g.channels = sums ∙ ap (λ (s : GraphValue). map totals s.channels) same in
    omega (arith, ap length kept_is, length-map g.channels totals, known)

-- the sums read are those of the channel
is_channel : (g s : GraphValue) (kept : List Totals) (c : ℕ) (t : Totals) → s ≡ g → kept ≡ map totals s.channels →
    c < length g.channels → t ≡ get_or kept c t → t ≡ totals (channel g c)
is_channel g s kept c t same sums known read =
    sym (totals_kept g.channels kept c t (sums ∙ ap (λ (s : GraphValue). map totals s.channels) same) known
    (get_or_read kept c t (is_known g s kept c same sums known) read no_totals))

within_of : (g : GraphValue) (c : ℕ) → IsShape g → c < length g.channels → AreWithin g (totals (channel g c))
within_of g c shape known = record {
  from_in = shape.from_in c known;
  to_in = shape.to_in c known;
  put_some = (shape.put c known).moves;
  take_some = (shape.take c known).moves;
  put_small = cycle_small _ _ (shape.put c known);
  take_small = cycle_small _ _ (shape.take c known);
}

pub index-requires : goal.index-requires
index-requires c = omega (
  arith,
  c.self.inside.totals.ok.0,
  is_known c.args.self.now _ c.self.inside.totals.items c.args.number c.self.view_is c.self.invariant.sums c.requires,
)

pub returns : goal.returns
returns c =
    let shape = subst IsShape c.self.view_is c.self.invariant.shape in
    let is = is_channel c.args.self.now _ c.self.inside.totals.items c.args.number c.index.result.now c.self.view_is
    c.self.invariant.sums c.requires c.index.ensures in
    record {
      value = is;
      within = subst (AreWithin c.args.self.now) (sym is) (within_of c.args.self.now c.args.number shape c.requires);
      shape = shape;
    }
