use Rattle.std.proofs.Common.{◌≡◌, ◌∙◌, List, ℤ, ap, subst}
use Rattle.sdf_kit.specs.Fir.{Filter, run_put}
use Rattle.sdf_kit.proofs.fir.Fir.put_block.Goals as goal

pub returns-then-load : goal.returns-then-load
returns-then-load c =
    subst (λ (g : Filter). c.put_loaded.new.put ≡ run_put g c.args.many c.args.kept.now c.args.taken.now)
    c.self.view_is (c.put_loaded.ensures ∙ ap (λ (ts : List ℤ). run_put (record {
      up = c.self.inside.up;
      down = c.self.inside.down;
      taps = ts;
      shift = c.self.inside.shift;
    }) c.args.many c.args.kept.now c.args.taken.now) c.deref.ensures.value)
