-- The lines about a key at a place.
use Rattle.std.specs.Prelude.{List, ℕ, ◌++◌, codes, decimal, Option, Some, None, option_and_then, bytes_eq}
use Rattle.std.specs.Prelude.{if◌then◌else◌}
use Rattle.toml.specs.Data.{Data, get}
use Rattle.sdf_document.specs.Fault.{Place, top, actor, link, file}
use Rattle.sdf_document.specs.Lists.{Files}
use Rattle.sdf_document.specs.declared.document.TheConstants.{MAX_HZ}
use Rattle.sdf_why.specs.Words.{key_line}
use Rattle.sdf_why.specs.Tables.{entry}
use Rattle.sdf_why.specs.Actors.{actor_limits, actor_key}
use Rattle.sdf_why.specs.Links.{link_key}
use Rattle.sdf_why.specs.Coefficients.{file_user, file_key}

-- the limits of a key at the top
abbrev pub top_limits : List ℕ → Option (List ℕ)
top_limits key = if bytes_eq key (codes "rate") then Some (codes "1.." ++ decimal MAX_HZ) else None

-- the limits of a key at a place: of `rate` at the top, and of the keys of an actor, by its kind
abbrev pub limits_at : Place → List ℕ → Data → Option (List ℕ)
limits_at top key d = top_limits key
limits_at (actor a) key d = option_and_then (actor_limits key) (entry (codes "actor") a d)
limits_at place key d = None

-- what a place is, and the line of its key
abbrev pub place_key : Place → List ℕ → Option (List ℕ) → Data → Files → List ℕ
place_key top key limits d files = key_line key (get key d) limits
place_key (actor a) key limits d files = actor_key a key limits d
place_key (link c) key limits d files = link_key c key limits d
place_key (file name) key limits d files = file_user name d ++ file_key name key limits files
