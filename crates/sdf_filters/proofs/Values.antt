-- One value more.
use Rattle.std.proofs.Common.{◌≡◌, ◌∙◌, ◌+◌, ℕ, zero, suc, ℤ, List, ◌++◌, sym, append-nil, append_assoc}
use Rattle.std.proofs.Common.{arith}
use Rattle.sdf_filters.specs.Phases.{tap}
use Rattle.sdf_filters.specs.Coefficients.{value_text, values_text}

pub no_values : (values : List ℤ) (first : List ℕ) → first ≡ first ++ values_text values zero
unfolding values_text
no_values values first = sym (append-nil first)

pub value_added : (values : List ℤ) (n : ℕ) (value : ℤ) (first before after : List ℕ) → value ≡ tap values n →
    before ≡ first ++ values_text values n → after ≡ before ++ value_text n value
    → after ≡ first ++ values_text values (n + 1)
unfolding values_text
value_added values n value first before after read so_far added =
    let e : n + 1 ≡ suc n = omega arith in
    added ∙ (rw (so_far, read, e) (append_assoc first (values_text values n) (value_text n (tap values n))))
