-- The diagnostic for a sound that a design does not take.
use Rattle.std.specs.Prelude.{ℕ, ◌*◌, ◌/◌, ◌%◌, List, ◌++◌, codes, decimal}
use Rattle.toml.specs.Data.{Data}
use Rattle.sdf_why.specs.Words.{end}
use Rattle.sdf_why.specs.Nets.{all_of}

-- how many channels the design needs, and how many the sound has
unfoldable pub needs_text : ℕ → List ℕ
needs_text wanted = codes "  the design needs " ++ decimal wanted ++ codes " channels"

unfoldable pub has_text : ℕ → List ℕ
has_text channels = codes ", the sound has " ++ decimal channels ++ end

-- the numbers of channels of the design and of the sound, and all inputs with their channels
unfoldable pub channels_told : Data → ℕ → ℕ → List ℕ
channels_told d wanted channels =
    needs_text wanted ++ has_text channels ++ all_of (codes "input") (codes "channel") d

-- the formula for the output's rate
unfoldable pub product_text : ℕ → ℕ → ℕ → List ℕ
product_text rate made taken =
    codes "  " ++ decimal rate ++ codes " * " ++ decimal made ++ codes " / " ++ decimal taken ++ codes " = "

-- a quotient as a whole number and a fraction
unfoldable pub quotient_text : ℕ → ℕ → List ℕ
quotient_text all by = decimal (all / by) ++ codes " and " ++ decimal (all % by) ++ codes "/" ++ decimal by ++ end

-- the output's rate, if a period makes `made` samples of an output from `taken` samples of an input
unfoldable pub rate_line : ℕ → ℕ → ℕ → List ℕ
rate_line rate made taken = product_text rate made taken ++ quotient_text (rate * made) taken
