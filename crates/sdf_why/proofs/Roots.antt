-- The document that bytes are.
use Rattle.std.proofs.Common.{◌≡◌, Bool, true, false, cond, Some, None, ℕ, List, refl, ap, sym, BTreeMap, String}
use Rattle.std.proofs.Common.{Global, option_map}
use Rattle.std.specs.Prelude.{IsUtf8}
use Rattle.std.specs.Str.{is_utf8}
use Rattle.std.proofs.lemmas.Str.{is_utf8-from_IsUtf8, IsUtf8-from_is_utf8}
use Rattle.toml.specs.Data.{table}
use Rattle.toml.specs.Parse.{parse_document}
use Rattle.toml.specs.View.{view, table_view}
use Rattle.toml.specs.declared.value.Value.{Value, Table}
use Rattle.toml.proofs.Views.{view-Table}
use Rattle.sdf_document.specs.Tables.{table_in}
use Rattle.sdf_why.specs.Tables.{root}

pub root_found : (bytes : List ℕ) (t : BTreeMap (String Global) Value) →
    IsUtf8 bytes × (parse_document bytes ≡ Some (table_view t)) → Some (view (Table t)) ≡ root bytes
unfolding table_in
root_found bytes t h = rw (is_utf8-from_IsUtf8 bytes h.0, h.1) (ap Some (view-Table t))

missing : (bytes : List ℕ) → (IsUtf8 bytes → parse_document bytes ≡ None) → table_in bytes ≡ None
unfolding table_in
missing bytes h = go (is_utf8 bytes) refl
  where
    go : (b : Bool) → is_utf8 bytes ≡ b → cond (is_utf8 bytes) (parse_document bytes) None ≡ None
    go true e = rw e (h (IsUtf8-from_is_utf8 bytes e))
    go false e = rw e refl

pub root_missing : (bytes : List ℕ) → (IsUtf8 bytes → parse_document bytes ≡ None) → None ≡ root bytes
root_missing bytes h = sym (ap (option_map table) (missing bytes h))
