-- The diagnostic for a file that is not a TOML document.
use Rattle.std.specs.Prelude.{◌≡◌, List, ℕ, [], Some, None}
use Rattle.toml.specs.Data.{Data}
use Rattle.sdf_why.specs.Words.{message_line}
use Rattle.sdf_why.specs.Tables.{root}

-- the line of a file with some message of the TOML parser
abbrev pub IsSaid : List ℕ → List ℕ → Type 0
IsSaid name text = (words : List ℕ) × (text ≡ message_line name words)

-- the message about bytes that are not a document, and nothing about others
pub data IsTomlText (name bytes text : List ℕ) : Type 0 where
  said : root bytes ≡ None → IsSaid name text → IsTomlText name bytes text
  document : (d : Data) → root bytes ≡ Some d → text ≡ [] → IsTomlText name bytes text
