use Rattle.std.proofs.Common.{◌≡◌, ◌^◌, ℤ, pos, List, ◌++◌, take, drop, length, rules, sym, ap, ◌∙◌, subst}
use Rattle.std.proofs.Common.{FitsSigned, to_z, of_z, w64}
use Rattle.std.proofs.lemmas.Int.{to_z-of_z}
use Rattle.std.proofs.Math.Seq.{take-append_seam}
use Rattle.sdf_filters.specs.LowpassValue.{LowpassValue}
use Rattle.sdf_filters.specs.Lowpass.{AreLowpassTaps, CanBeSymmetric}
use Rattle.sdf_filters.proofs.Mirrored.{can_be}
use Rattle.sdf_filters.proofs.lowpass.Lowpass.taps.Goals as goal

pub returns : goal.returns
returns c =
    let long : length c.settle.new.taps ≡ c.in_ok-taps.taps.len = search rules in
    let whole : take c.in_ok-taps.taps.len (c.settle.new.taps
    ++ drop (length c.settle.new.taps) c.in_ok-taps.taps.items) ≡ c.settle.new.taps =
    ap (λ n. take n (c.settle.new.taps ++ drop (length c.settle.new.taps) c.in_ok-taps.taps.items)) (sym long)
    ∙ take-append_seam _ _ in
    let known : length c.deref_mut.result.now ≡ c.args.count = search rules in
    let fits : FitsSigned w64 c.from.result = record { sfits = c.from.type_inv } in
    let total : c.from.result ≡ pos (2 ^ c.self.inside.shift) = search rules in
    subst (λ (h : List ℤ). AreLowpassTaps c.args.self.now c.args.count h) (sym whole)
    (record {
      all = search rules;
      small = search rules;
      exact = search rules;
      symmetric = λ can. c.in_ok-settle.ensures.symmetric (can_be c.self.inside.up c.args.count c.self.inside.shift
          (length c.deref_mut.result.now) (to_z w64 (of_z w64 c.from.result)) known
          (to_z-of_z w64 c.from.result fits ∙ total)
          (subst (λ (f : LowpassValue). CanBeSymmetric f c.args.count) (sym c.self.view_is) can));
    })
