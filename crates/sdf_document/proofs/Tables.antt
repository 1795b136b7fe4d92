-- The table that bytes are.
use Rattle.std.proofs.Common.{◌≡◌, Bool, true, false, cond, Some, None, ℕ, List, refl}
use Rattle.std.specs.Prelude.{IsUtf8}
use Rattle.std.specs.Str.{is_utf8}
use Rattle.std.proofs.lemmas.Str.{is_utf8-from_IsUtf8, IsUtf8-from_is_utf8}
use Rattle.toml.specs.Data.{Members}
use Rattle.toml.specs.Parse.{parse_document}
use Rattle.sdf_document.specs.Tables.{table_in}

pub table_found : (bytes : List ℕ) (ms : Members) → IsUtf8 bytes × (parse_document bytes ≡ Some ms) →
    table_in bytes ≡ Some ms
unfolding table_in
table_found bytes ms h = rw (is_utf8-from_IsUtf8 bytes h.0, h.1) refl

pub table_missing : (bytes : List ℕ) → (IsUtf8 bytes → parse_document bytes ≡ None) → table_in bytes ≡ None
unfolding table_in
table_missing bytes h = go (is_utf8 bytes) refl
  where
    go : (b : Bool) → is_utf8 bytes ≡ b → cond (is_utf8 bytes) (parse_document bytes) None ≡ None
    go true e = rw e (h (IsUtf8-from_is_utf8 bytes e))
    go false e = rw e refl
