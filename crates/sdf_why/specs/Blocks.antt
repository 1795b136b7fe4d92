-- The diagnostic for a block that is too long for a table.
use Rattle.std.specs.Prelude.{ℕ, ◌/◌, max, List, ◌++◌, codes, decimal}
use Rattle.sdf_limits.specs.declared.TheConstants.{MAX_BLOCK}
use Rattle.sdf_why.specs.Words.{end}

-- how many firings a period has
unfoldable pub firings_text : ℕ → List ℕ
firings_text firings = codes "  a period has " ++ decimal firings ++ codes " firings"

-- how many periods a block can have
unfoldable pub most_text : ℕ → List ℕ
most_text periods = codes ", so --blocking can be at most " ++ decimal periods ++ end

unfoldable pub block_line : ℕ → List ℕ
block_line firings = firings_text firings ++ most_text (MAX_BLOCK / max firings 1)
