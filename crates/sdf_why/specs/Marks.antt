-- The parts of a text before and behind a mark.
use Rattle.std.specs.Prelude.{ℕ, ◌==◌, Bool, List, length, nat_lt}
use Rattle.std.specs.List.{before_first, after_first, position_or_len}

-- the parts of a text before and behind the first mark, and whether there is one: 10 ends a line, 58 is a colon
unfoldable pub before : ℕ → List ℕ → List ℕ
before mark text = before_first (λ b. b == mark) text

unfoldable pub after_mark : ℕ → List ℕ → List ℕ
after_mark mark text = after_first (λ b. b == mark) text

unfoldable pub has_mark : ℕ → List ℕ → Bool
has_mark mark text = nat_lt (position_or_len (λ b. b == mark) text) (length text)
